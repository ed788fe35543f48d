-- The result of reporting a program that can't be read, on the files that the command line names.
use Rattle.std.proofs.Common.{◌≡◌, ℕ, List, ◌++◌, Option, Some, None, true, false, Result, Ok, Err, IfSome, ap, inl, inr, subst, sym, ◌∙◌}
use Rattle.std.specs.Prelude.{IsSome, option_map}
use Rattle.std.specs.Io.KnownBytes.{Appends, Keeps}
use Rattle.ngc_text.specs.Written.{AppendsPrefix}
use Rattle.ngc_text.specs.declared.writing.WriteFault.{WriteFault}
use Rattle.ngc_canonical.specs.Interpreter.{setup_of}
use Rattle.ngc_command_line.specs.declared.options.ReportOptions.{ReportOptions}
use Rattle.ngc_line_reader.specs.ProgramText.{program_of}
use Rattle.ngc_line_reader.specs.ProgramView.{FaultIs}
use Rattle.ngc_line_reader.specs.declared.program.fault.ReadFault.{ReadFault}
use Rattle.ngc_report.specs.declared.form.Form.{Form}
use Rattle.ngc_machine_files.specs.Machine.{file_of}
use Rattle.ngc_simulator.specs.Cells.{is_idle}
use Rattle.ngc_simulator.specs.AllFaults.{ReportsFaults}
use Rattle.ngc_file_figures.specs.declared.figures.FileFigures.{FileFigures}
use Rattle.ngc_simulator.specs.Answers.{AreFiguresOf, OwnReportResult, ReportsOn, UnreadableOn, requested_form, request_of}
use Rattle.ngc_inputs.specs.Faults.{OfCertifying, OfExplaining}
use Rattle.ngc_simulator.specs.Reporting.{Reports}
use Rattle.ngc_inputs.specs.Setups.{FileBytes, KeepsFiles}
use Rattle.ngc_inputs.specs.Shops.{PlacedResultIs}
use Rattle.ngc_simulator.specs.Unreadable.{ReportsUnreadableFile, is_of_text, unreadable_text}
use Rattle.ngc_inputs.specs.declared.fault.AnswerFault.{AnswerFault}
use Rattle.ngc_inputs.specs.declared.fault.AnswerFault.TheVariants as answers
use Rattle.ngc_inputs.specs.declared.setup.Shop.{Shop}
use Rattle.ngc_inputs.proofs.JobLaws.{if_known}
use Rattle.ngc_inputs.proofs.SetupLaws.{carried, of_file, on_placed}

-- ---- of bytes that stayed as they were

kept_appends : (old mid new : Option (List ℕ)) (text : List ℕ) → Keeps old mid → Appends mid new text → Appends old new text
kept_appends None mid new text kept wrote = tt
kept_appends (Some xs) None new text kept wrote = absurd kept
kept_appends (Some xs) (Some ys) None text kept wrote = absurd wrote
kept_appends (Some xs) (Some ys) (Some zs) text kept wrote = wrote ∙ ap (λ l. l ++ text) kept

kept_keeps : (old mid new : Option (List ℕ)) → Keeps old mid → Keeps mid new → Keeps old new
kept_keeps None mid new kept again = tt
kept_keeps (Some xs) None new kept again = absurd kept
kept_keeps (Some xs) (Some ys) None kept again = absurd again
kept_keeps (Some xs) (Some ys) (Some zs) kept again = again ∙ kept

tells_behind : (form : Form) (name : Option (List ℕ)) (bytes : List ℕ) (old mid new : Option (List ℕ)) (answer : AnswerFault)
    → Keeps old mid → ReportsUnreadableFile form name bytes mid new answer → ReportsUnreadableFile form name bytes old new answer
tells_behind form name bytes old mid new (answers.Read e) kept (is, inl again) = (is, inl (kept_keeps old mid new kept again))
tells_behind form name bytes old mid new (answers.Read e) kept (is, inr (named, of_text, wrote)) =
    (is, inr (named, of_text, kept_appends old mid new _ kept wrote))
tells_behind form name bytes old mid new (answers.Write e) kept (fault, named, of_text, is, begins) =
    (fault, named, of_text, is, (begins.0, begins.1, begins.2, kept_appends old mid new _ kept begins.3))
tells_behind form name bytes old mid new _ kept tells = absurd tells

-- ---- of the text of a file that is read again

-- where its bytes are known and the fault is theirs
abbrev pub TellsKnown : Form → Option (List ℕ) → Option (List ℕ) → Option (List ℕ) → Option (List ℕ) → ReadFault → AnswerFault → Type 0
TellsKnown form name known old new fault answer = IfSome known (λ bytes. FaultIs fault (program_of bytes) → ReportsUnreadableFile form name bytes old new answer)

pub told_begun : (form : Form) (name known : Option (List ℕ)) (items slice : List ℕ) (old new : Option (List ℕ)) (fault : ReadFault) (stopped : WriteFault) →
    slice ≡ items → IfSome known (λ bytes. items ≡ bytes)
    → IsSome name → is_of_text fault ≡ true → AppendsPrefix old new (unreadable_text form fault slice) →
    TellsKnown form name known old new fault (answers.Write stopped)
told_begun form name known items slice old new fault stopped same read named of_text wrote =
    carried known items slice (λ bytes. FaultIs fault (program_of bytes) → ReportsUnreadableFile form name bytes old new (answers.Write stopped)) same read
    (λ is. (fault, named, of_text, is, wrote))

-- ---- on the files that the command line names

module _ (bytes after : FileBytes) (options : ReportOptions) (shop : Shop) (source old : Option (List ℕ))
    (said : PlacedResultIs bytes (Some options.machine.now) (Some options.tools.now) options.changes (Ok shop)) (keeps : KeepsFiles bytes after)
    (is_source : source ≡ after (option_map (λ n. n.now) options.program)) (divides : is_idle options.cells (file_of shop.machine).stock ≡ false) where
  abbrev Known : (List ℕ → Type 0) → Type 0
  Known P = IfSome (bytes (option_map (λ n. n.now) options.program)) P

  known : (P : List ℕ → Type 0) → IfSome source P → Known P
  known P p = of_file _ source P (is_source ∙ keeps (option_map (λ n. n.now) options.program)) p

  abbrev Reported : FileFigures → Option (List ℕ) → Result (Unit {0}) AnswerFault → List ℕ → Type 0
  Reported figures new outcome text = Reports (setup_of shop.machine shop.tools) text (request_of figures options) old new outcome

  reports_on : (figures : FileFigures) (new : Option (List ℕ)) (outcome : Result (Unit {0}) AnswerFault) → AreFiguresOf bytes options figures →
      Known (Reported figures new outcome) → ReportsOn bytes options old new outcome
  reports_on figures new outcome are reports = (
    figures,
    are,
    on_placed bytes (Some options.machine.now) (Some options.tools.now) options.changes (setup_of shop.machine shop.tools)
        (λ setup. (is_idle options.cells setup.machine.stock ≡ false)
        × Known (λ text. Reports setup text (request_of figures options) old new outcome)) said.0 said.1 (divides, reports),
  )

  abbrev Prints : Option (List ℕ) → AnswerFault → List ℕ → Type 0
  Prints new answer text = ReportsUnreadableFile (requested_form options.json) (option_map (λ n. n.now) options.program) text old new answer

  unreadable_on : (new : Option (List ℕ)) (answer : AnswerFault) → Known (Prints new answer) → UnreadableOn bytes options old new answer
  unreadable_on new answer tells =
      on_placed bytes (Some options.machine.now) (Some options.tools.now) options.changes (setup_of shop.machine shop.tools)
      (λ setup. (is_idle options.cells setup.machine.stock ≡ false) × Known (Prints new answer)) said.0 said.1 (divides, tells)

  -- where nothing is written besides the report
  pub reported_comes : (figures : FileFigures) (new : Option (List ℕ)) (fault : AnswerFault) → AreFiguresOf bytes options figures → OfCertifying fault → IfSome source (Reported figures new (Err fault)) →
      OwnReportResult bytes options old new (Err fault)
  reported_comes figures new (answers.Read e) are of reports =
      inr (inr (inl (
        tt,
        unreadable_on new (answers.Read e)
            (if_known _ (Reported figures new (Err (answers.Read e))) (Prints new (answers.Read e)) (λ text r. (r.0, inl r.1))
            (known (Reported figures new (Err (answers.Read e))) reports)),
      )))
  reported_comes figures new fault are of reports = inr (inl (of, reports_on figures new (Err fault) are (known (Reported figures new (Err fault)) reports)))

  -- of two facts of the same file
  both_known : (k : Option (List ℕ)) (P Q R : List ℕ → Type 0) → ((text : List ℕ) → P text → Q text → R text) → IfSome k P → IfSome k Q → IfSome k R
  both_known None P Q R on p q = tt
  both_known (Some text) P Q R on p q = on text p q

  -- where the fault of the program is written
  pub told_comes : (figures : FileFigures) (later : FileBytes) (name : List ℕ) (mid new : Option (List ℕ)) (fault : ReadFault) (answer : AnswerFault) → OfExplaining answer
      → option_map (λ n. n.now) options.program ≡ Some name → KeepsFiles after later → IfSome source (Reported figures mid (Err (answers.Read fault)))
      → TellsKnown (requested_form options.json) (Some name) (later (Some name)) mid new fault answer → OwnReportResult bytes options old new (Err answer)
  told_comes figures later name mid new fault answer of named keeps_later reports tells = inr (inr (inl (
    of,
    unreadable_on new answer
        (both_known _ (Reported figures mid (Err (answers.Read fault))) (λ text. FaultIs fault (program_of text) →
        ReportsUnreadableFile (requested_form options.json) (Some name) text mid new answer) (Prints new answer)
        (λ text r told.
        tells_behind (requested_form options.json) _ text old mid new answer r.1
        (subst (λ (n : Option (List ℕ)). ReportsUnreadableFile (requested_form options.json) n text mid new answer) (sym named) (told r.0)))
        (known (Reported figures mid (Err (answers.Read fault))) reports)
        (subst (λ (n : Option (List ℕ)). TellsKnown (requested_form options.json) (Some name) (bytes n) mid new fault answer) (sym named)
        (of_file (bytes (Some name)) (later (Some name)) (λ text. FaultIs fault (program_of text) →
        ReportsUnreadableFile (requested_form options.json) (Some name) text mid new answer) (keeps_later (Some name) ∙ keeps (Some name)) tells))),
  )))

  abbrev ToldAll : Option (List ℕ) → AnswerFault → List ℕ → Type 0
  ToldAll new fault text = ReportsFaults (setup_of shop.machine shop.tools) (requested_form options.json) text old new fault

  -- where all faults are written
  pub faults_comes : (new : Option (List ℕ)) (fault : AnswerFault) → options.all ≡ true → IfSome source (ToldAll new fault) → OwnReportResult bytes options old new (Err fault)
  faults_comes new fault all tells = inr (inr (inr (
    all,
    on_placed bytes (Some options.machine.now) (Some options.tools.now) options.changes (setup_of shop.machine shop.tools)
        (λ setup. (is_idle options.cells setup.machine.stock ≡ false)
        × Known (λ text. ReportsFaults setup (requested_form options.json) text old new fault)) said.0 said.1
        (divides, known (ToldAll new fault) tells),
  )))
