-- The picture of a program for another control, from the results of its parts.
use Rattle.std.proofs.Common.{◌≡◌, ℕ, List, [], ◌∷◌, ◌++◌, Option, Some, None, Bool, Result, Ok, Err, IfSome, refl, subst, sym, ◌∙◌}
use Rattle.std.specs.Prelude.{IfErr, MatchOption, option_map}
use Rattle.ngc_canonical.specs.State.{Setup}
use Rattle.ngc_certificate_text.specs.Certificate.{CertificateData}
use Rattle.ngc_certificate_text.specs.ParsedPart.{parsed_certificate}
use Rattle.ngc_certificate_text.specs.declared.fault.CertificateFault.{CertificateFault}
use Rattle.ngc_command_line.specs.declared.options.DrawOptions.{DrawOptions}
use Rattle.ngc_commands.specs.declared.command.Command.{Command}
use Rattle.ngc_dialect_execution.specs.Program.{meaning_in}
use Rattle.ngc_dialect_names.specs.declared.dialect.Dialect.{Dialect}
use Rattle.ngc_picture_shapes.specs.declared.look.Look.{Look}
use Rattle.ngc_picture_shapes.specs.declared.view.View.{View}
use Rattle.ngc_machine_files.specs.Machine.{MachineFile}
use Rattle.ngc_program_report.specs.Coordinates.{History}
use Rattle.ngc_inputs.specs.Jobs.{IsNoCertificate}
use Rattle.ngc_inputs.specs.Setups.{FileBytes}
use Rattle.ngc_inputs.specs.Unread.{FailsByInput, Input, OfCertificate, unread_by}
use Rattle.ngc_inputs.specs.declared.fault.AnswerFault.{AnswerFault}
use Rattle.ngc_inputs.specs.declared.fault.AnswerFault.TheVariants as answers
use Rattle.ngc_inputs.proofs.JobLaws.{if_known, keeps_same}
use Rattle.ngc_inputs.proofs.UnreadLaws.{AllRead, told_behind}
use Rattle.ngc_simulator.specs.Answers.{DrawsDialectFrom, certificate_input, certificate_inputs, dialect_inputs, draw_inputs_in}
use Rattle.ngc_simulator.specs.DialectPictures.{DrawsByText, DrawsDialect, DrawsDialectBy}
use Rattle.ngc_simulator.specs.DialectReports.{dialect_frames}
use Rattle.ngc_simulator.specs.Drawing.{DrawsCertified, DrawsCommands, look_of}
use Rattle.ngc_simulator.specs.declared.done.Done.{Done}
use Rattle.ngc_simulator.specs.declared.done.Done.TheVariants.{Quietly}

-- ---- without a certificate

-- the picture of a program that isn't refused
pub drawn_dialect : (d : Dialect) (setup : Setup) (block_delete : Bool) (source : List ℕ) (look : Look) (frames : History) (commands : List Command)
    (old new : Option (List ℕ))
    → meaning_in d setup block_delete source ≡ Ok commands → frames ≡ dialect_frames d setup block_delete source
    → DrawsCommands setup.machine look frames commands old new (Ok tt) → DrawsDialect d setup block_delete source look old new (Ok Quietly)
drawn_dialect d setup block_delete source look frames commands old new means is draws =
    (commands, means, subst (λ (h : History). DrawsCommands setup.machine look h commands old new (Ok tt)) is draws)

pub dialect_undrawn : (d : Dialect) (setup : Setup) (block_delete : Bool) (source : List ℕ) (look : Look) (frames : History) (commands : List Command)
    (old new : Option (List ℕ)) (fault : AnswerFault)
    → meaning_in d setup block_delete source ≡ Ok commands → frames ≡ dialect_frames d setup block_delete source
    → DrawsCommands setup.machine look frames commands old new (Err fault) → DrawsDialect d setup block_delete source look old new (Err fault)
dialect_undrawn d setup block_delete source look frames commands old new fault means is draws =
    by_fault fault (subst (λ (h : History). DrawsCommands setup.machine look h commands old new (Err fault)) is draws)
  where
    by_fault : (fault : AnswerFault) → DrawsCommands setup.machine look (dialect_frames d setup block_delete source) commands old new (Err fault)
        → DrawsDialect d setup block_delete source look old new (Err fault)
    by_fault answers.Memory draws = draws
    by_fault (answers.Write e) draws = (commands, means, draws)
    by_fault _ draws = absurd draws

-- ---- with a certificate

by_text : (machine : MachineFile) (block_delete : Bool) (look : Look) (text : List ℕ) (frames : History) (commands : List Command) (c : CertificateData)
    (old new : Option (List ℕ)) (outcome : Result (Unit {0}) AnswerFault)
    → parsed_certificate text ≡ Ok c → DrawsCertified machine block_delete look c frames commands old new outcome
    → DrawsByText machine block_delete look text frames commands old new outcome
by_text machine block_delete look text frames commands c old new (Ok u) said draws = (c, said, draws)
by_text machine block_delete look text frames commands c old new (Err (answers.Certificate e)) said draws = absurd draws
by_text machine block_delete look text frames commands c old new (Err _) said draws = (c, said, draws)

-- of the bytes of a certificate that was read
pub drawn_dialect_by : (d : Dialect) (setup : Setup) (block_delete : Bool) (source : List ℕ) (look : Look) (certificate : Option (List ℕ)) (frames : History)
    (commands : List Command) (c : CertificateData) (old new : Option (List ℕ))
    → meaning_in d setup block_delete source ≡ Ok commands → frames ≡ dialect_frames d setup block_delete source
    → IfSome certificate (λ text. parsed_certificate text ≡ Ok c)
    → DrawsCertified setup.machine block_delete look c frames commands old new (Ok tt)
    → DrawsDialectBy d setup block_delete source look certificate old new (Ok Quietly)
drawn_dialect_by d setup block_delete source look certificate frames commands c old new means is said draws = (
  commands,
  means,
  if_known certificate (λ text. parsed_certificate text ≡ Ok c)
      (λ text. DrawsByText setup.machine block_delete look text (dialect_frames d setup block_delete source) commands old new (Ok tt))
      (λ text same. (c, same, subst (λ (h : History). DrawsCertified setup.machine block_delete look c h commands old new (Ok tt)) is draws)) said,
)

pub dialect_undrawn_by : (d : Dialect) (setup : Setup) (block_delete : Bool) (source : List ℕ) (look : Look) (certificate : Option (List ℕ)) (frames : History)
    (commands : List Command) (c : CertificateData) (old new : Option (List ℕ)) (fault : AnswerFault)
    → meaning_in d setup block_delete source ≡ Ok commands → frames ≡ dialect_frames d setup block_delete source
    → IfSome certificate (λ text. parsed_certificate text ≡ Ok c)
    → DrawsCertified setup.machine block_delete look c frames commands old new (Err fault)
    → DrawsDialectBy d setup block_delete source look certificate old new (Err fault)
dialect_undrawn_by d setup block_delete source look certificate frames commands c old new fault means is said draws =
    by_fault fault (subst (λ (h : History). DrawsCertified setup.machine block_delete look c h commands old new (Err fault)) is draws)
  where
    shown : (fault : AnswerFault)
        → DrawsCertified setup.machine block_delete look c (dialect_frames d setup block_delete source) commands old new (Err fault)
        → IfSome certificate
        (λ text. DrawsByText setup.machine block_delete look text (dialect_frames d setup block_delete source) commands old new (Err fault))
    shown fault draws =
        if_known certificate (λ text. parsed_certificate text ≡ Ok c)
        (λ text. DrawsByText setup.machine block_delete look text (dialect_frames d setup block_delete source) commands old new (Err fault))
        (λ text same. by_text setup.machine block_delete look text (dialect_frames d setup block_delete source) commands c old new (Err fault) same draws) said

    by_fault : (fault : AnswerFault)
        → DrawsCertified setup.machine block_delete look c (dialect_frames d setup block_delete source) commands old new (Err fault)
        → DrawsDialectBy d setup block_delete source look certificate old new (Err fault)
    by_fault answers.Memory draws = draws
    by_fault (answers.Write e) draws = (commands, means, shown (answers.Write e) draws)
    by_fault (answers.Check e) draws = (commands, means, shown (answers.Check e) draws)
    by_fault _ draws = absurd draws

-- of a text that isn't a certificate
pub no_certificate_by : (d : Dialect) (setup : Setup) (block_delete : Bool) (source : List ℕ) (look : Look) (certificate : Option (List ℕ))
    (commands : List Command) (known : Option (List ℕ)) (fault : CertificateFault)
    → meaning_in d setup block_delete source ≡ Ok commands → IfSome certificate (λ text. IsNoCertificate text fault)
    → DrawsDialectBy d setup block_delete source look certificate known known (Err (answers.Certificate fault))
no_certificate_by d setup block_delete source look certificate commands known fault means is = (
  commands,
  means,
  if_known certificate (λ text. IsNoCertificate text fault)
      (λ text. DrawsByText setup.machine block_delete look text (dialect_frames d setup block_delete source) commands known known
      (Err (answers.Certificate fault))) (λ text no. (no, keeps_same known)) is,
)

-- ---- of the files that the command line names

pub drawn_plain : (bytes : FileBytes) (options : DrawOptions) (view : View) (d : Dialect) (setup : Setup) (source : List ℕ) (old new : Option (List ℕ))
    (outcome : Result Done AnswerFault) → option_map (λ n. n.now) options.certificate ≡ None
    → DrawsDialect d setup options.delete source (look_of options view) old new outcome
    → DrawsDialectFrom bytes options view d setup source old new outcome
drawn_plain bytes options view d setup source old new outcome none draws =
    subst (λ (named : Option (List ℕ)). MatchOption named (DrawsDialect d setup options.delete source (look_of options view) old new outcome)
    (λ certificate. DrawsDialectBy d setup options.delete source (look_of options view) (bytes (Some certificate)) old new outcome)) (sym none) draws

pub drawn_by_name : (bytes : FileBytes) (options : DrawOptions) (view : View) (name : List ℕ) (d : Dialect) (setup : Setup) (source : List ℕ)
    (old new : Option (List ℕ)) (outcome : Result Done AnswerFault) → option_map (λ n. n.now) options.certificate ≡ Some name
    → DrawsDialectBy d setup options.delete source (look_of options view) (bytes (Some name)) old new outcome
    → DrawsDialectFrom bytes options view d setup source old new outcome
drawn_by_name bytes options view name d setup source old new outcome some draws =
    subst (λ (named : Option (List ℕ)). MatchOption named (DrawsDialect d setup options.delete source (look_of options view) old new outcome)
    (λ certificate. DrawsDialectBy d setup options.delete source (look_of options view) (bytes (Some certificate)) old new outcome)) (sym some) draws

-- ---- which file isn't read

-- a picture without a certificate is drawn of files that were read
pub draw_read : (d : Dialect) (setup : Setup) (block_delete : Bool) (source : List ℕ) (look : Look) (old new : Option (List ℕ))
    (outcome : Result Done AnswerFault) → DrawsDialect d setup block_delete source look old new outcome → IfErr outcome (λ fault. unread_by fault ≡ None)
draw_read d setup block_delete source look old new (Ok done) draws = tt
draw_read d setup block_delete source look old new (Err (answers.Input e)) draws = absurd draws.2
draw_read d setup block_delete source look old new (Err (answers.Read e)) draws = absurd draws.2
draw_read d setup block_delete source look old new (Err (answers.Certificate e)) draws = absurd draws.2
draw_read d setup block_delete source look old new (Err _) draws = refl

-- a certificate's file, after files that were read
certificate_behind : {T : Type 0} (fails : Option (List ℕ) → Type 0) (bytes after : FileBytes) (files : List Input) (name : List ℕ) (old mid new : ℕ)
    (outcome : Result T AnswerFault)
    → AllRead bytes files → after (Some name) ≡ bytes (Some name) → mid ≡ old → FailsByInput fails after (certificate_input name ∷ []) mid new outcome
    → FailsByInput fails bytes (files ++ certificate_input name ∷ []) old new outcome
certificate_behind fails bytes after files name old mid new (Ok value) all same is told = told ∙ is
certificate_behind fails bytes after files name old mid new (Err fault) all same is told =
    told_behind fails bytes after files OfCertificate (Some name) [] old mid new (unread_by fault) all same is told

pub certificate_last : {T : Type 0} (fails : Option (List ℕ) → Type 0) (bytes after : FileBytes) (options : DrawOptions) (control name : List ℕ)
    (old mid new : ℕ) (outcome : Result T AnswerFault)
    → option_map (λ n. n.now) options.certificate ≡ Some name
    → AllRead bytes (dialect_inputs (Some options.machine.now) (Some options.tools.now) (option_map (λ n. n.now) options.program))
    → after (Some name) ≡ bytes (Some name) → mid ≡ old → FailsByInput fails after (certificate_input name ∷ []) mid new outcome
    → FailsByInput fails bytes (draw_inputs_in (Some control) options) old new outcome
certificate_last fails bytes after options control name old mid new outcome some all same is told =
    let files : List Input = dialect_inputs (Some options.machine.now) (Some options.tools.now) (option_map (λ n. n.now) options.program) in
    subst (λ (named : Option (List ℕ)). FailsByInput fails bytes (files ++ certificate_inputs named) old new outcome) (sym some)
    (certificate_behind fails bytes after files name old mid new outcome all same is told)
