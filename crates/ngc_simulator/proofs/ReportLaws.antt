-- The result of reporting whether a program fits, from the results of its parts.
use Rattle.std.proofs.Common.{◌≡◌, ℕ, List, Option, Some, Bool, true, false, Result, Ok, Err, IfSome, ap, ap₂, inl, inr, refl, subst, sym}
use Rattle.std.proofs.Common.{◌∙◌}
use Rattle.std.specs.Prelude.{◌⊎◌, IfErr, is_some, option_map}
use Rattle.std.specs.Io.KnownBytes.{Appends, Keeps}
use Rattle.ngc_file_figures.specs.Files.{values_of}
use Rattle.ngc_text.specs.Written.{AppendsPrefix}
use Rattle.ngc_text.specs.declared.writing.WriteFault.{WriteFault}
use Rattle.ngc_line_reader.specs.Grammar.{Reading}
use Rattle.ngc_line_reader.specs.ProgramText.{ProgramText, program_of, AreReadings, HaveReadings}
use Rattle.ngc_canonical.specs.Interpreter.{setup_of}
use Rattle.ngc_canonical.specs.Meaning.{Program as ProgramLines, has_deleted, parsed_program}
use Rattle.ngc_canonical.specs.State.{Setup}
use Rattle.ngc_commands.specs.declared.command.Command.{Command}
use Rattle.ngc_canonical.specs.declared.fault.Fault.{Fault}
use Rattle.ngc_canonical.specs.declared.fault.ProgramFault.{ProgramFault}
use Rattle.ngc_canonical.specs.declared.fault.ProgramFault.TheVariants as programs
use Rattle.ngc_certificate_text.specs.Certificate.{CertificateData}
use Rattle.ngc_certificate_text.specs.declared.piece.Setting.{Setting}
use Rattle.ngc_certificate_text.specs.declared.piece.Setting.TheVariants.{Off, On}
use Rattle.ngc_certificate.specs.declared.fault.MakeFault.TheVariants.{NotCleared, Memory}
use Rattle.ngc_certificate.specs.Made.{IsMade}
use Rattle.ngc_job.specs.Job.{IsJobOf, commands_in}
use Rattle.ngc_command_line.specs.declared.options.ReportOptions.{ReportOptions}
use Rattle.ngc_machine_files.specs.Machine.{MachineFile, file_of}
use Rattle.ngc_machine_files.specs.declared.tools.Tool.{Tool}
use Rattle.ngc_file_figures.specs.declared.figures.FileFigures.{FileFigures}
use Rattle.ngc_simulator.specs.Answers.{AreFiguresOf, ReportsOn, request_of}
use Rattle.ngc_simulator.specs.Cells.{is_idle}
use Rattle.ngc_program_report.specs.JobReports.{IsFitText, IsRefusalText, IsRefusalsText, IsStartClear, OffBegins, Prints}
use Rattle.ngc_program_report.specs.Coordinates.{History}
use Rattle.ngc_program_report.specs.Framed.{FramedData, IsHistoryAt, frames_in, setup_in}
use Rattle.ngc_program_report.specs.JobReports.{first_text}
use Rattle.ngc_program_report.specs.Reported.{ReportedLines, own_lines}
use Rattle.ngc_inputs.specs.Jobs.{IsMadeOf, IsProgram, IsUnmade, WhyNotMade}
use Rattle.ngc_simulator.specs.Reporting.{IsAllReport, IsFirstReport, IsFitReport, IsJobFit, IsJobMisfit, IsReport, IsReportOf, IsRejectionReport}
use Rattle.ngc_simulator.specs.Reporting.{Reports, ReportsJob, frames_of}
use Rattle.ngc_program_report.specs.Texts.{AreFindings}
use Rattle.ngc_program_report.specs.Texts.{commands_of, fault_text, fits_text, is_on, refusal_text, refusals_text, rejection_text}
use Rattle.ngc_program_report.specs.declared.request.ReportRequest.{ReportRequest}
use Rattle.ngc_certificate.specs.Uncleared.{AreUncleared}
use Rattle.ngc_inputs.specs.Setups.{FileBytes, KeepsFiles}
use Rattle.ngc_inputs.specs.Shops.{PlacedResultIs}
use Rattle.ngc_report.specs.declared.report_fault.ReportFault.{ReportFault}
use Rattle.ngc_report.specs.declared.report_fault.ReportFault.TheVariants as faults
use Rattle.ngc_program_report.specs.JobReports.{FailsByWriting}
use Rattle.ngc_inputs.specs.Faults.{FailsWith, OfCertifying, of_report}
use Rattle.ngc_inputs.specs.declared.fault.AnswerFault.{AnswerFault}
use Rattle.ngc_inputs.specs.declared.fault.AnswerFault.TheVariants as answers
use Rattle.ngc_line_reader.specs.declared.program.fault.ReadFault.TheVariants as reads
use Rattle.ngc_inputs.specs.declared.setup.Shop.{Shop}
use Rattle.ngc_inputs.proofs.JobLaws.{HasNoJob, IsJobFor, keeps_same, made_for_file, means_job, refused_program}
use Rattle.ngc_inputs.proofs.SetupLaws.{of_file, on_placed}

-- ---- a job of which a certificate is made

-- the reports of a program that was read and has this job
module _ (setup : Setup) (bytes : List ℕ) (request : ReportRequest) (text : ProgramText) (f : FramedData) (is_text : program_of bytes ≡ Ok text)
    (have : HaveReadings text.lines) (is_job : IsJobFor text setup f.job) (off_is : IsHistoryAt f.job Off text.lines f.off)
    (on_is : IsHistoryAt f.job On text.lines f.on) where
  abbrev the_job : IsJobOf (parsed_program text have.readings) setup f.job
  the_job = is_job have.readings have.are

  same_setup : setup_in f.job ≡ setup
  same_setup = ap₂ (λ (m : MachineFile) (tools : List Tool). the_setup m tools) the_job.machine the_job.tools where
    the_setup : MachineFile → List Tool → Setup
    the_setup m tools = record { machine = m; tools = tools }

  frames_as : (s : Setting) (h : History) → IsHistoryAt f.job s text.lines h → h ≡ frames_of setup (parsed_program text have.readings).lines s
  frames_as s h is = is have.readings have.are ∙ ap (λ (of : Setup). frames_of of (parsed_program text have.readings).lines s) same_setup

  frames_at : (s : Setting) → frames_in s f ≡ frames_of setup (parsed_program text have.readings).lines s
  frames_at Off = frames_as Off f.off off_is
  frames_at On = frames_as On f.on on_is

  fit_report : (c : CertificateData) (t : List ℕ) → IsMadeOf f.job request.cuts c → IsFitText f c request.form request.origins request.cells (own_lines (values_of request.figures) text.lines) t → IsFitReport setup bytes request t
  fit_report c t made is = record {
    certificate = c;
    made = made_for_file setup bytes request.cuts text f.job c is_text have is_job made;
    off_found = is.off_found;
    off_are = subst (λ (m : MachineFile). AreFindings request.cells (values_of request.figures).tools m f.job.off is.off_found) the_job.machine is.off_are;
    on_found = is.on_found;
    on_are = subst (λ (m : MachineFile). AreFindings request.cells (values_of request.figures).tools m (commands_in true f.job) is.on_found) the_job.machine is.on_are;
    tells = is.tells
        ∙ ap (λ (d : Bool). fits_text request.form request.origins d (setup_in f.job) f.job.off (commands_in true f.job) c is.off_found is.on_found
        f.off f.on (own_lines (values_of request.figures) text.lines)) the_job.apart
        ∙ ap (λ (s : Setup). fits_text request.form request.origins (has_deleted (parsed_program text have.readings).lines) s f.job.off (commands_in true f.job) c
        is.off_found is.on_found f.off f.on (own_lines (values_of request.figures) text.lines)) same_setup
        ∙ ap₂ (λ (off_h on_h : History). fits_text request.form request.origins (has_deleted (parsed_program text have.readings).lines) setup f.job.off
        (commands_in true f.job) c is.off_found is.on_found off_h on_h (own_lines (values_of request.figures) text.lines))
        (frames_at Off) (frames_at On);
  }

  -- ---- and one of which a command isn't cleared

  at_setting : (s : Setting) → commands_in (is_on s) f.job ≡ commands_of s f.job.off (commands_in true f.job)
  at_setting Off = refl
  at_setting On = refl

  refused_made : (s : Setting) (k : ℕ) → IsUnmade f.job request.cuts (NotCleared s k)
      → IsMade setup.machine request.cuts f.job.off (commands_in true f.job) (Err (NotCleared s k))
  refused_made s k is =
      subst (λ (m : MachineFile). IsMade m request.cuts f.job.off (commands_in true f.job) (Err (NotCleared s k))) the_job.machine is

  first_report : (s : Setting) (k : ℕ) (t : List ℕ) → IsUnmade f.job request.cuts (NotCleared s k) → t ≡ first_text f.job request.form request.origins s k (own_lines (values_of request.figures) text.lines) (frames_in s f)
      → IsFirstReport setup bytes request s k t
  first_report s k t unmade tells = record {
    off = f.job.off;
    on = commands_in true f.job;
    means = means_job setup bytes text f.job is_text have is_job;
    made = refused_made s k unmade;
    tells = tells
        ∙ ap (λ (cs : List Command). refusal_text request.form request.origins (is_some f.job.on) s (setup_in f.job) cs k (own_lines (values_of request.figures) text.lines) (frames_in s f))
        (at_setting s)
        ∙ ap (λ (d : Bool). refusal_text request.form request.origins d s (setup_in f.job) (commands_of s f.job.off (commands_in true f.job)) k
        (own_lines (values_of request.figures) text.lines) (frames_in s f)) the_job.apart
        ∙ ap₂ (λ (of : Setup) (h : History). refusal_text request.form request.origins (has_deleted (parsed_program text have.readings).lines) s of
        (commands_of s f.job.off (commands_in true f.job)) k (own_lines (values_of request.figures) text.lines) h) same_setup (frames_at s);
  }

  all_report : (s : Setting) (k : ℕ) (t : List ℕ) → IsUnmade f.job request.cuts (NotCleared s k) → IsRefusalsText f request.cuts s k request.form request.origins (own_lines (values_of request.figures) text.lines) t
      → IsAllReport setup bytes request s k t
  all_report s k t unmade is = record {
    off = f.job.off;
    on = commands_in true f.job;
    means = means_job setup bytes text f.job is_text have is_job;
    made = refused_made s k unmade;
    off_ks = is.off_ks;
    off_uncleared = subst (λ (m : MachineFile). AreUncleared m request.cuts f.job.off is.off_ks) the_job.machine is.off_uncleared;
    off_begins = λ start. subst (λ (d : Bool). OffBegins d s k is.off_ks) the_job.apart (is.off_begins (subst IsStartClear (sym the_job.machine) start));
    on_ks = is.on_ks;
    on_uncleared = subst (λ (m : MachineFile). AreUncleared m request.cuts (commands_in true f.job) is.on_ks) the_job.machine is.on_uncleared;
    on_begins = λ start. is.on_begins (subst IsStartClear (sym the_job.machine) start);
    tells = is.tells
        ∙ ap (λ (d : Bool). refusals_text request.form request.origins d (setup_in f.job) f.job.off (commands_in true f.job) f.off f.on is.off_ks is.on_ks (own_lines (values_of request.figures) text.lines))
        the_job.apart
        ∙ ap (λ (of : Setup). refusals_text request.form request.origins (has_deleted (parsed_program text have.readings).lines) of f.job.off (commands_in true f.job)
        f.off f.on is.off_ks is.on_ks (own_lines (values_of request.figures) text.lines)) same_setup
        ∙ ap₂ (λ (off_h on_h : History). refusals_text request.form request.origins (has_deleted (parsed_program text have.readings).lines) setup f.job.off
        (commands_in true f.job) off_h on_h is.off_ks is.on_ks (own_lines (values_of request.figures) text.lines))
        (frames_at Off) (frames_at On);
  }

  refusal_report : (all : Bool) (s : Setting) (k : ℕ) (t : List ℕ) → IsUnmade f.job request.cuts (NotCleared s k)
      → IsRefusalText all f request s k (own_lines (values_of request.figures) text.lines) t → IsReportOf all setup bytes request s k t
  refusal_report true s k t unmade is = all_report s k t unmade is
  refusal_report false s k t unmade is = first_report s k t unmade is

  stopped_report : (t : List ℕ)
      → IsJobFit f (own_lines (values_of request.figures) text.lines) request t ⊎ ((s : Setting) × (k : ℕ) × IsJobMisfit f (own_lines (values_of request.figures) text.lines) request s k t) → IsReport setup bytes request t
  stopped_report t (inl fits) = inl (fit_report fits.certificate t fits.made fits.tells)
  stopped_report t (inr misfits) = inr (inl (misfits.0, misfits.1, refusal_report request.all misfits.0 misfits.1 t misfits.2.unmade misfits.2.tells))

  -- the report of the job is that of the program
  pub job_reported : (old new : Option (List ℕ)) (r : Result (Unit {0}) AnswerFault) → ReportsJob f (own_lines (values_of request.figures) text.lines) request old new r →
      Reports setup bytes request old new r
  job_reported old new (Ok u) tells = (tells.0, fit_report tells.1.certificate tells.0 tells.1.made tells.1.tells, tells.2)
  job_reported old new (Err (answers.Make (NotCleared s k))) tells =
      (tells.0, refusal_report request.all s k tells.0 tells.1.unmade tells.1.tells, tells.2)
  job_reported old new (Err (answers.Make Memory)) tells = tells
  job_reported old new (Err (answers.Write fault)) tells = (tells.0, stopped_report tells.0 tells.1, tells.2)
  job_reported old new (Err _) tells = absurd tells

-- the faults of a report of a job
pub job_faults : (f : FramedData) (lines : ReportedLines) (request : ReportRequest) (old new : Option (List ℕ)) (r : Result (Unit {0}) AnswerFault)
    → ReportsJob f lines request old new r → IfErr r OfCertifying
job_faults f lines request old new (Ok u) tells = tt
job_faults f lines request old new (Err (answers.Make (NotCleared s k))) tells = tt
job_faults f lines request old new (Err (answers.Make Memory)) tells = tt
job_faults f lines request old new (Err (answers.Write fault)) tells = tt
job_faults f lines request old new (Err _) tells = absurd tells

-- none of them is of reading the program
pub job_unread : (f : FramedData) (lines : ReportedLines) (request : ReportRequest) (old new : Option (List ℕ)) (r : Result (Unit {0}) AnswerFault) (P : Type 0)
    → ReportsJob f lines request old new r → r ≡ Err (answers.Read reads.Device) → P
job_unread f lines request old new r P tells read = absurd (subst (ReportsJob f lines request old new) read tells)

-- ---- a job that isn't reported whole

pub fit_stopped : (f : FramedData) (lines : ReportedLines) (request : ReportRequest) (c : CertificateData) (old new : Option (List ℕ)) (fault : ReportFault)
    → IsMadeOf f.job request.cuts c → Prints (IsFitText f c request.form request.origins request.cells lines) old new (Err fault)
    → ReportsJob f lines request old new (Err (of_report fault))
fit_stopped f lines request c old new faults.Memory made tells = tells
fit_stopped f lines request c old new (faults.Write fault) made tells =
    (tells.0, inl (record { certificate = c; made = made; tells = tells.1 }), tells.2)

pub refusal_stopped : (f : FramedData) (lines : ReportedLines) (request : ReportRequest) (s : Setting) (k : ℕ) (old new : Option (List ℕ)) (fault : ReportFault)
    → IsUnmade f.job request.cuts (NotCleared s k) → Prints (IsRefusalText request.all f request s k lines) old new (Err fault)
    → ReportsJob f lines request old new (Err (of_report fault))
refusal_stopped f lines request s k old new faults.Memory unmade tells = tells
refusal_stopped f lines request s k old new (faults.Write fault) unmade tells =
    (tells.0, inr (s, k, record { unmade = unmade; tells = tells.1 }), tells.2)

-- ---- a program's text

same_text : (bytes : List ℕ) (text : ProgramText) (program : ProgramLines) → program_of bytes ≡ Ok text → (is : IsProgram bytes program) → text ≡ is.text
same_text bytes text program is_text is = cc (sym is_text ∙ is.is_text)

-- what holds of a text's program with each of its readings holds of the program that a file's text is
of_program : (bytes : List ℕ) (text : ProgramText) (program : ProgramLines) (P : ProgramLines → Type 0) → program_of bytes ≡ Ok text → IsProgram bytes program
    → ((rs : List Reading) → AreReadings text.lines rs → P (parsed_program text rs)) → P program
of_program bytes text program P is_text is on =
    let same : text ≡ is.text = same_text bytes text program is_text is in
    subst P (sym is.is_parsed)
    (subst (λ (t : ProgramText). (rs : List Reading) → AreReadings t.lines rs → P (parsed_program t rs)) same on is.readings is.are_readings)

-- whether a line begins with `/`
abbrev pub Finds : ProgramText → Bool → Type 0
Finds text found = (rs : List Reading) → AreReadings text.lines rs → found ≡ has_deleted (parsed_program text rs).lines

-- ---- a program that is refused

module _ (setup : Setup) (bytes : List ℕ) (request : ReportRequest) (text : ProgramText) (s : Setting) (number : ℕ) (fault : ProgramFault)
    (is_text : program_of bytes ≡ Ok text)
    (why : WhyNotMade setup bytes request.cuts (answers.Refused s fault)) where
  abbrev whole_rejection : List ℕ
  whole_rejection = fault_text request.form request.origins (has_deleted why.0.lines) s fault why.1.text.lines

  rejection : IsRejectionReport setup bytes request s fault whole_rejection
  rejection = record { program = why.0; is_program = why.1; refused = why.2; tells = refl }

  rejection_is : (found : Bool) (e : Fault) → fault ≡ programs.At number e → Finds text found →
      rejection_text request.form request.origins found s number e text.lines ≡ whole_rejection
  rejection_is found e is is_found =
      ap (λ d. rejection_text request.form request.origins d s number e text.lines) (of_program bytes text why.0 (λ p. found ≡ has_deleted p.lines) is_text why.1 is_found)
      ∙ ap (λ (t : ProgramText). rejection_text request.form request.origins (has_deleted why.0.lines) s number e t.lines) (same_text bytes text why.0 is_text why.1)
      ∙ ap (λ f. fault_text request.form request.origins (has_deleted why.0.lines) s f why.1.text.lines) (sym is)

  pub told_rejection : (found : Bool) (e : Fault) (old new : Option (List ℕ)) → fault ≡ programs.At number e → Finds text found
      → Appends old new (rejection_text request.form request.origins found s number e text.lines) →
      Reports setup bytes request old new (Err (answers.Refused s (programs.At number e)))
  told_rejection found e old new is is_found wrote = (
    whole_rejection,
    subst (λ (f : ProgramFault). IsRejectionReport setup bytes request s f whole_rejection) is rejection,
    subst (Appends old new) (rejection_is found e is is_found) wrote,
  )

  pub rejection_stopped : (found : Bool) (e : Fault) (old new : Option (List ℕ)) (stopped : WriteFault) → fault ≡ programs.At number e → Finds text found
      → AppendsPrefix old new (rejection_text request.form request.origins found s number e text.lines) → Reports setup bytes request old new (Err (answers.Write stopped))
  rejection_stopped found e old new stopped is is_found wrote =
      (whole_rejection, inr (inr (s, fault, rejection)), subst (AppendsPrefix old new) (rejection_is found e is is_found) wrote)

-- a program that has no job: memory ran out, and nothing is written, or it is refused at a line
pub rejected : (setup : Setup) (bytes : List ℕ) (request : ReportRequest) (text : ProgramText) (s : Setting) (fault : ProgramFault) (told : AnswerFault)
    (old new : Option (List ℕ)) → program_of bytes ≡ Ok text → HaveReadings text.lines → HasNoJob text setup s fault
    → (fault ≡ programs.Memory → (told ≡ answers.Make Memory) × (new ≡ old))
    → (WhyNotMade setup bytes request.cuts (answers.Refused s fault) → Reports setup bytes request old new (Err told))
    → Reports setup bytes request old new (Err told)
rejected setup bytes request text s programs.Memory told old new is_text have refused memory reports =
    let m = memory refl in
    subst (λ (f : AnswerFault). Reports setup bytes request old new (Err f)) (sym m.0) (subst (λ (now : Option (List ℕ)). Keeps old now) (sym m.1) (keeps_same old))
rejected setup bytes request text s (programs.At line e) told old new is_text have refused memory reports =
    reports (refused_program setup bytes text s line e is_text have refused)

-- the sink of a report that isn't written whole, and which faults it may have
pub report_sink : (fault : ReportFault) (old new : ℕ) → FailsByWriting (Err fault) old new → FailsWith (of_report fault) old new
report_sink faults.Memory old new h = h
report_sink (faults.Write fault) old new h = h

-- ---- on the files that the command line names

-- the request is that of the options
pub asked : (figures : FileFigures) (options : ReportOptions) (shop : Shop) (request : ReportRequest) (source old new : Option (List ℕ)) (outcome : Result (Unit {0}) AnswerFault)
    → request ≡ request_of figures options → IfSome source (λ text. Reports (setup_of shop.machine shop.tools) text request old new outcome)
    → IfSome source (λ text. Reports (setup_of shop.machine shop.tools) text (request_of figures options) old new outcome)
asked figures options shop request source old new outcome is reports =
    subst (λ (r : ReportRequest). IfSome source (λ text. Reports (setup_of shop.machine shop.tools) text r old new outcome)) is reports

pub reported_files : (bytes after : FileBytes) (figures : FileFigures) (options : ReportOptions) (shop : Shop) (source : Option (List ℕ)) (old new : Option (List ℕ))
    (outcome : Result (Unit {0}) AnswerFault)
    → AreFiguresOf bytes options figures
    → PlacedResultIs bytes (Some options.machine.now) (Some options.tools.now) options.changes (Ok shop) → KeepsFiles bytes after
    → source ≡ after (option_map (λ n. n.now) options.program) → is_idle options.cells (file_of shop.machine).stock ≡ false
    → IfSome source (λ text. Reports (setup_of shop.machine shop.tools) text (request_of figures options) old new outcome) → ReportsOn bytes options old new outcome
reported_files bytes after figures options shop source old new outcome are said keeps is divides reports = (
  figures,
  are,
  on_placed bytes (Some options.machine.now) (Some options.tools.now) options.changes (setup_of shop.machine shop.tools)
      (λ setup. (is_idle options.cells setup.machine.stock ≡ false)
      × IfSome (bytes (option_map (λ n. n.now) options.program)) (λ text. Reports setup text (request_of figures options) old new outcome))
      said.0 said.1 (
        divides,
        of_file _ source (λ text. Reports (setup_of shop.machine shop.tools) text (request_of figures options) old new outcome)
            (is ∙ keeps (option_map (λ n. n.now) options.program)) reports,
      ),
)
