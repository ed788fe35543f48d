-- The report of a program for another control. Our own.
use Rattle.std.specs.Prelude.{◌≡◌, ◌⊎◌, ℕ, List, Option, Some, None, is_some, unwrap_or, IfSome, Result, Ok, Err, Bool}
use Rattle.std.specs.Prelude.{true, false}
use Rattle.std.specs.Io.KnownBytes.{Keeps}
use Rattle.ngc_canonical.specs.State.{Setup}
use Rattle.ngc_dialect_execution.specs.Laws.{LeadTo}
use Rattle.ngc_dialect_execution.specs.Program.{changes_in, meaning_in, notes_in, plain_in}
use Rattle.ngc_dialect_execution.specs.Views.{kept_in}
use Rattle.ngc_dialect_execution.specs.declared.program.Traced.{Traced}
use Rattle.ngc_dialect_execution.specs.declared.run.Wanted.{Wanted}
use Rattle.ngc_dialect_notes.specs.Notes.{no_notes}
use Rattle.ngc_dialect_notes.specs.declared.notes.Notes.{Notes}
use Rattle.ngc_job.specs.Job.{AreCommands}
use Rattle.ngc_dialect_execution.specs.Text.{has_deleted}
use Rattle.ngc_dialect_names.specs.declared.dialect.Dialect.{Dialect}
use Rattle.ngc_file_figures.specs.Files.{values_of}
use Rattle.ngc_frames.specs.Changes.{start_frame}
use Rattle.ngc_inputs.specs.declared.fault.AnswerFault.{AnswerFault}
use Rattle.ngc_inputs.specs.declared.fault.AnswerFault.TheVariants as answers
use Rattle.ngc_job.specs.Job.{commands_in}
use Rattle.ngc_program_report.specs.Coordinates.{History, history_of}
use Rattle.ngc_program_report.specs.Framed.{FramedData, framed_in, history_in}
use Rattle.ngc_program_report.specs.Reported.{SettingNotes, other_lines}
use Rattle.ngc_program_report.specs.declared.request.ReportRequest.{ReportRequest}
use Rattle.ngc_simulator.specs.DialectRefusals.{IsRefusedDialect, ReportsRefused}
use Rattle.ngc_simulator.specs.declared.dialect_refusals.RefusedDialect.{RefusedDialect}
use Rattle.ngc_simulator.specs.declared.dialect_reports.NotedJob.{NotedJob}
use Rattle.ngc_simulator.specs.Reporting.{ReportsJob}
use Rattle.ngc_simulator.specs.declared.done.Done.{Done}
use Rattle.ngc_simulator.specs.declared.done.Done.TheVariants.{Quietly, RunThrough, WithNotes}

-- the frames of a program's text at a setting of block delete
abbrev pub dialect_frames : Dialect → Setup → Bool → List ℕ → History
dialect_frames d setup block_delete source =
    history_of (start_frame setup) (changes_in d setup block_delete source)

-- what was executed of a program's text at a setting of block delete, and what was collected
pub record IsTraced {A : Type 0} (w : Wanted) (d : Dialect) (setup : Setup) (block_delete : Bool) (source : List ℕ)
    (t : Traced A) : Type 0 where
  pub commands : meaning_in d setup block_delete source ≡ Ok t.framed.commands.items
  pub frames : history_in t.framed.frames ≡ dialect_frames d setup block_delete source
  pub are : AreCommands setup.machine.start t.framed.commands.items
  pub notes : t.notes ≡ notes_in w d setup block_delete source
  pub lines : kept_in t.lines ≡ plain_in w d setup block_delete source
  pub lead : IfSome (kept_in t.lines) (λ lines. LeadTo setup lines t.framed.commands.items)

-- notes are wanted
abbrev pub only_notes : Wanted
only_notes = record { notes = true; lines = false }

-- the notes on a program's text at a setting of block delete
abbrev pub noted : Dialect → Setup → Bool → List ℕ → Notes
noted d setup block_delete source =
    unwrap_or (notes_in only_notes d setup block_delete source) no_notes

-- at both settings, or with block delete off if no line begins with `/`
abbrev pub dialect_notes : Dialect → Setup → List ℕ → SettingNotes
dialect_notes d setup source =
    record { off = noted d setup false source; on = noted d setup (has_deleted source) source }

-- The job of a program's text, with the frames of its commands: what the text means at both settings of
-- block delete, or only with block delete off if no line begins with `/`.
pub record IsFramedDialect (d : Dialect) (setup : Setup) (source : List ℕ) (f : FramedData) : Type 0
  where
    pub machine : f.job.machine ≡ setup.machine
    pub tools : f.job.tools ≡ setup.tools
    pub off : meaning_in d setup false source ≡ Ok f.job.off
    pub on : meaning_in d setup (has_deleted source) source ≡ Ok (commands_in true f.job)
    pub apart : is_some f.job.on ≡ has_deleted source
    pub off_frames : f.off ≡ dialect_frames d setup false source
    pub on_frames : f.on ≡ dialect_frames d setup (has_deleted source) source

-- the job of a program's text, with the notes on it at each setting
pub record IsNotedJob (d : Dialect) (setup : Setup) (source : List ℕ) (n : NotedJob) : Type 0 where
  pub framed : IsFramedDialect d setup source (framed_in n.framed)
  pub notes : record { off = n.off; on = n.on } ≡ dialect_notes d setup source

-- The report of a program's job was written, which quotes the lines of its text; or that of a refused
-- program, whose fault notes report. Lack of memory shows nothing.
abbrev pub ReportsDialect : Dialect → Setup → List ℕ → ReportRequest → Option (List ℕ) →
    Option (List ℕ) → Result Done AnswerFault → Type 0
ReportsDialect d setup source request old new (Ok Quietly) = (f : FramedData) ×
    IsFramedDialect d setup source f ×
    ReportsJob f (other_lines (values_of request.figures) source (dialect_notes d setup source)) request old new (Ok tt)
ReportsDialect d setup source request old new (Ok (RunThrough time)) = ⊥
ReportsDialect d setup source request old new (Ok (WithNotes notes)) =
    (r : RefusedDialect) × IsRefusedDialect d setup source r ×
    ReportsRefused source request r old new (Ok (WithNotes notes))
ReportsDialect d setup source request old new (Err answers.Memory) = Keeps old new
ReportsDialect d setup source request old new (Err (answers.Write fault)) =
    ((f : FramedData) × IsFramedDialect d setup source f ×
    ReportsJob f (other_lines (values_of request.figures) source (dialect_notes d setup source)) request old new (Err (answers.Write fault)))
    ⊎ ((r : RefusedDialect) × IsRefusedDialect d setup source r ×
    ReportsRefused source request r old new (Err (answers.Write fault)))
ReportsDialect d setup source request old new (Err fault) = (f : FramedData) ×
    IsFramedDialect d setup source f ×
    ReportsJob f (other_lines (values_of request.figures) source (dialect_notes d setup source)) request old new (Err fault)
