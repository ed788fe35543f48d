-- The result of printing a program for another control, from the results of its parts.
use Rattle.std.proofs.Common.{◌≡◌, ℕ, List, Option, Some, None, Bool, Result, Ok, Err, IfSome, Vec, inl, refl, ap, subst, sym, ◌∙◌}
use Rattle.std.specs.Prelude.{IfErr, MatchResult}
use Rattle.ngc_canonical.specs.State.{Setup}
use Rattle.ngc_command_line.specs.declared.options.MachineOptions.{MachineOptions}
use Rattle.ngc_dialect_execution.specs.Executed.{PlainLine}
use Rattle.ngc_dialect_execution.specs.Laws.{LeadTo}
use Rattle.ngc_dialect_execution.specs.Program.{notes_in}
use Rattle.ngc_dialect_execution.specs.Views.{kept_in}
use Rattle.ngc_dialect_execution.specs.declared.program.Traced.{Traced}
use Rattle.ngc_dialect_execution.specs.declared.run.KeptLine.{KeptLine}
use Rattle.ngc_dialect_names.specs.declared.dialect.Dialect.{Dialect}
use Rattle.ngc_dialect_notes.specs.declared.notes.Notes.{Notes as ProgramNotes}
use Rattle.ngc_inputs.specs.declared.fault.AnswerFault.{AnswerFault}
use Rattle.ngc_inputs.specs.declared.fault.AnswerFault.TheVariants as answers
use Rattle.ngc_inputs.specs.Setups.{FileBytes}
use Rattle.ngc_inputs.specs.Unread.{Input, unread_by}
use Rattle.ngc_inputs.proofs.JobLaws.{if_known}
use Rattle.ngc_inputs.proofs.UnreadLaws.{ReportsIfUnread}
use Rattle.ngc_plain_program.proofs.Lines.{printed_same}
use Rattle.ngc_plain_program.specs.Programs.{lines_of}
use Rattle.ngc_text.specs.declared.input_fault.InputFault.{InputFault}
use Rattle.ngc_simulator.specs.Adapting.{AdaptsDialect, ArePlain, PrintsLines, everything}
use Rattle.ngc_simulator.specs.DialectReports.{IsTraced}
use Rattle.ngc_simulator.specs.Making.{Makes, OnDump}
use Rattle.ngc_simulator.specs.declared.done.Done.{Done}
use Rattle.ngc_simulator.specs.declared.done.Done.TheVariants.{WithNotes}
use Rattle.ngc_simulator.specs.declared.done.Notes.{Notes}

pub told_none : (fails : Option (List ℕ) → Type 0) (bytes : FileBytes) (files : List Input) (old new : ℕ) (why : Option InputFault) →
    why ≡ None → new ≡ old → ReportsIfUnread fails bytes files old new why
told_none fails bytes files old new why none same = subst (ReportsIfUnread fails bytes files old new) (sym none) same

-- what holds of what was made
pub of_ok : {X Y : Type 0} (P : X → Type 0) (Q : Y → Type 0) (r : Result X Y) (x : X) → r ≡ Ok x → MatchResult r P Q → P x
of_ok {X} {Y} P Q r x is holds = subst (λ (y : Result X Y). MatchResult y P Q) is holds

pub of_err : {X Y : Type 0} (P : X → Type 0) (Q : Y → Type 0) (r : Result X Y) (e : Y) → r ≡ Err e → MatchResult r P Q → Q e
of_err {X} {Y} P Q r e is holds = subst (λ (y : Result X Y). MatchResult y P Q) is holds

-- the plain lines of what was executed
pub are_plain : {A : Type 0} (d : Dialect) (setup : Setup) (block_delete : Bool) (source text : List ℕ) (t : Traced A) (lines : Vec (KeptLine A) A) →
    text ≡ source → IsTraced everything d setup block_delete text t → t.lines ≡ Some lines
    → ArePlain d setup block_delete source (lines_of lines.items)
are_plain {A} d setup block_delete source text t lines same traced is =
    let by : IsTraced everything d setup block_delete source t = subst (λ (s : List ℕ). IsTraced everything d setup block_delete s t) same traced in
    let lead : LeadTo setup (lines_of lines.items) t.framed.commands.items =
    subst (λ (k : Option (Vec (KeptLine A) A)). IfSome (kept_in k) (λ ls. LeadTo setup ls t.framed.commands.items)) is by.lead in
    record {
      are = sym by.lines ∙ ap kept_in is;
      commands = t.framed.commands.items;
      means = by.commands;
      same = λ printable delete. printed_same setup delete (lines_of lines.items) t.framed.commands.items printable lead;
    }

-- the notes on what was executed
pub are_noted : {A : Type 0} (d : Dialect) (setup : Setup) (block_delete : Bool) (source text : List ℕ) (t : Traced A) →
    text ≡ source → IsTraced everything d setup block_delete text t → t.notes ≡ notes_in everything d setup block_delete source
are_noted d setup block_delete source text t same traced = traced.notes ∙ ap (λ (s : List ℕ). notes_in everything d setup block_delete s) same

-- what is said of plain lines is said of the program
pub adapts : (d : Dialect) (setup : Setup) (block_delete : Bool) (source : List ℕ) (lines : List PlainLine) (noted : Option ProgramNotes)
    (old new : Option (List ℕ)) (notes : Notes) → ArePlain d setup block_delete source lines → noted ≡ notes_in everything d setup block_delete source
    → PrintsLines lines noted old new (Ok notes) → AdaptsDialect d setup block_delete source old new (Ok (WithNotes notes))
adapts d setup block_delete source lines noted old new notes plain same prints =
    inl (lines, plain, subst (λ (n : Option ProgramNotes). PrintsLines lines n old new (Ok notes)) same prints)

pub adapts_not : (d : Dialect) (setup : Setup) (block_delete : Bool) (source : List ℕ) (lines : List PlainLine) (noted : Option ProgramNotes)
    (old new : Option (List ℕ)) (fault : AnswerFault) → ArePlain d setup block_delete source lines → noted ≡ notes_in everything d setup block_delete source
    → PrintsLines lines noted old new (Err fault) → AdaptsDialect d setup block_delete source old new (Err fault)
adapts_not d setup block_delete source lines noted old new answers.Memory plain same prints = prints
adapts_not d setup block_delete source lines noted old new fault plain same prints =
    (lines, plain, subst (λ (n : Option ProgramNotes). PrintsLines lines n old new (Err fault)) same prints)

-- a program is of files that were read
pub adapt_read : (d : Dialect) (setup : Setup) (block_delete : Bool) (source : List ℕ) (old new : Option (List ℕ)) (outcome : Result Done AnswerFault) →
    AdaptsDialect d setup block_delete source old new outcome → IfErr outcome (λ fault. unread_by fault ≡ None)
adapt_read d setup block_delete source old new (Ok done) tells = tt
adapt_read d setup block_delete source old new (Err (answers.Input e)) tells = absurd tells.2
adapt_read d setup block_delete source old new (Err (answers.Read e)) tells = absurd tells.2
adapt_read d setup block_delete source old new (Err (answers.Certificate e)) tells = absurd tells.2
adapt_read d setup block_delete source old new (Err _) tells = refl

-- of the dump that is named
pub made_of : (bytes : FileBytes) (options : MachineOptions) (name : List ℕ) (grbl : Option (List ℕ)) (old new : Option (List ℕ))
    (outcome : Result Notes AnswerFault) (items dump : List ℕ)
    → grbl ≡ Some name → IfSome (bytes (Some name)) (λ b. items ≡ b) → dump ≡ items → Makes options (Some dump) old new outcome →
    OnDump bytes grbl (λ d. Makes options d old new outcome)
made_of bytes options name grbl old new outcome items dump is value same makes =
    subst (λ (n : Option (List ℕ)). OnDump bytes n (λ d. Makes options d old new outcome)) (sym is)
    (if_known (bytes (Some name)) (λ b. items ≡ b) (λ text. Makes options (Some text) old new outcome)
    (λ b e. subst (λ (d : List ℕ). Makes options (Some d) old new outcome) (same ∙ e) makes) value)
