-- The result of a run on the files that it names, from the results of its parts.
use Rattle.std.proofs.Common.{◌≡◌, ℕ, List, Option, Some, None, Result, Ok, Err, IfSome, subst, ◌∙◌}
use Rattle.std.specs.Prelude.{option_map}
use Rattle.ngc_canonical.specs.Interpreter.{setup_of}
use Rattle.ngc_command_line.specs.declared.options.CertifyOptions.{CertifyOptions}
use Rattle.ngc_command_line.specs.declared.options.CheckOptions.{CheckOptions}
use Rattle.ngc_command_line.specs.declared.options.ListOptions.{ListOptions}
use Rattle.ngc_line_reader.specs.ProgramText.{program_of}
use Rattle.ngc_line_reader.specs.ProgramView.{FaultIs}
use Rattle.ngc_line_reader.specs.declared.program.fault.ReadFault.{ReadFault}
use Rattle.ngc_simulator.specs.Answers.{ListsOn, CertifiesOn, ChecksOn}
use Rattle.ngc_inputs.specs.Faults.{OrOfReading}
use Rattle.ngc_inputs.specs.Jobs.{Certifies, Checks}
use Rattle.ngc_simulator.specs.Lists.{Lists}
use Rattle.ngc_inputs.specs.Setups.{FileBytes, KeepsFiles, KeepsNamed}
use Rattle.ngc_inputs.specs.Shops.{PlacedResultIs}
use Rattle.ngc_inputs.specs.declared.fault.AnswerFault.{AnswerFault}
use Rattle.ngc_inputs.specs.declared.fault.AnswerFault.TheVariants as answers
use Rattle.ngc_inputs.specs.declared.setup.Shop.{Shop}
use Rattle.ngc_inputs.proofs.JobLaws.{keeps_same, if_known}
use Rattle.ngc_inputs.proofs.SetupLaws.{on_placed, of_file}

-- a fault for a program in memory is also possible if the program is read first
pub or_of_reading : (Of : AnswerFault → Type 0) (e : AnswerFault) → Of e → OrOfReading Of e
or_of_reading Of (answers.Read e) of = tt
or_of_reading Of (answers.Certificate e) of = tt
or_of_reading Of _ of = of

pub listed : (bytes after : FileBytes) (options : ListOptions) (shop : Shop) (source : Option (List ℕ)) (old new : Option (List ℕ))
    (outcome : Result (Unit {0}) AnswerFault)
    → PlacedResultIs bytes (option_map (λ n. n.now) options.machine) (option_map (λ n. n.now) options.tools) options.changes (Ok shop) → KeepsFiles bytes after
    → source ≡ after (option_map (λ n. n.now) options.program)
    → IfSome source (λ text. Lists (setup_of shop.machine shop.tools) text options.delete old new outcome) → ListsOn bytes options old new outcome
listed bytes after options shop source old new outcome said keeps is lists =
    on_placed bytes _ _ options.changes (setup_of shop.machine shop.tools)
    (λ setup. IfSome (bytes (option_map (λ n. n.now) options.program)) (λ text. Lists setup text options.delete old new outcome))
    said.0 said.1 (of_file _ source (λ text. Lists (setup_of shop.machine shop.tools) text options.delete old new outcome)
    (is ∙ keeps (option_map (λ n. n.now) options.program)) lists)

pub certified_files : (bytes after : FileBytes) (options : CertifyOptions) (shop : Shop) (source : Option (List ℕ)) (old new : Option (List ℕ))
    (outcome : Result (Unit {0}) AnswerFault)
    → PlacedResultIs bytes (Some options.machine.now) (Some options.tools.now) options.changes (Ok shop) → KeepsFiles bytes after
    → source ≡ after (option_map (λ n. n.now) options.program)
    → IfSome source (λ text. Certifies (setup_of shop.machine shop.tools) text options.cuts options.format old new outcome) →
    CertifiesOn bytes options old new outcome
certified_files bytes after options shop source old new outcome said keeps is certifies =
    on_placed bytes (Some options.machine.now) (Some options.tools.now) options.changes (setup_of shop.machine shop.tools)
    (λ setup. IfSome (bytes (option_map (λ n. n.now) options.program)) (λ text. Certifies setup text options.cuts options.format old new outcome))
    said.0 said.1 (of_file _ source (λ text. Certifies (setup_of shop.machine shop.tools) text options.cuts options.format old new outcome)
    (is ∙ keeps (option_map (λ n. n.now) options.program)) certifies)

-- of two files, where the second is opened after the first
both_files : (bytes : FileBytes) (first second : Option (List ℕ)) (known source : Option (List ℕ)) (P : List ℕ → List ℕ → Type 0)
    → known ≡ first → source ≡ second → IfSome known (λ text. IfSome source (P text)) → IfSome first (λ text. IfSome second (P text))
both_files bytes first second known source P is_first is_second p =
    of_file first known (λ text. IfSome second (P text)) is_first (subst (λ (k : Option (List ℕ)). IfSome known (λ text. IfSome k (P text))) is_second p)

pub checked_files : (bytes after later : FileBytes) (options : CheckOptions) (shop : Shop) (known source : Option (List ℕ)) (old new : Option (List ℕ))
    (outcome : Result (Unit {0}) AnswerFault)
    → PlacedResultIs bytes (Some options.machine.now) (Some options.tools.now) options.changes (Ok shop) → KeepsFiles bytes after → KeepsNamed after later
    → known ≡ after (option_map (λ n. n.now) options.program) → source ≡ later (Some options.certificate.now)
    → IfSome known (λ text. IfSome source (λ certificate. Checks (setup_of shop.machine shop.tools) text certificate old new outcome))
    → ChecksOn bytes options old new outcome
checked_files bytes after later options shop known source old new outcome said keeps named is_program is_certificate on_both =
    on_placed bytes (Some options.machine.now) (Some options.tools.now) options.changes (setup_of shop.machine shop.tools)
    (λ setup. IfSome (bytes (option_map (λ n. n.now) options.program))
    (λ text. IfSome (bytes (Some options.certificate.now)) (λ certificate. Checks setup text certificate old new outcome)))
    said.0 said.1
    (both_files bytes _ _ known source (λ text certificate. Checks (setup_of shop.machine shop.tools) text certificate old new outcome)
    (is_program ∙ keeps (option_map (λ n. n.now) options.program))
    (is_certificate ∙ named options.certificate.now ∙ keeps (Some options.certificate.now)) on_both)

pub all_known : (known : Option (List ℕ)) (P : List ℕ → Type 0) → ((bytes : List ℕ) → P bytes) → IfSome known P
all_known None P on = tt
all_known (Some bytes) P on = on bytes

-- a program that isn't read stops the run before the certificate
pub unread_files : (bytes after : FileBytes) (options : CheckOptions) (shop : Shop) (source known : Option (List ℕ)) (fault : ReadFault)
    → PlacedResultIs bytes (Some options.machine.now) (Some options.tools.now) options.changes (Ok shop) → KeepsFiles bytes after
    → source ≡ after (option_map (λ n. n.now) options.program)
    → IfSome source (λ text. FaultIs fault (program_of text)) → ChecksOn bytes options known known (Err (answers.Read fault))
unread_files bytes after options shop source known fault said keeps is unread =
    on_placed bytes (Some options.machine.now) (Some options.tools.now) options.changes (setup_of shop.machine shop.tools)
    (λ setup. IfSome (bytes (option_map (λ n. n.now) options.program))
    (λ text. IfSome (bytes (Some options.certificate.now)) (λ certificate. Checks setup text certificate known known (Err (answers.Read fault)))))
    said.0 said.1
    (of_file _ source (λ text. IfSome (bytes (Some options.certificate.now))
    (λ certificate. Checks (setup_of shop.machine shop.tools) text certificate known known (Err (answers.Read fault))))
    (is ∙ keeps (option_map (λ n. n.now) options.program))
    (if_known source _ _ (λ text fault_is. all_known (bytes (Some options.certificate.now)) _ (λ certificate. (fault_is, keeps_same known))) unread))
