-- A program for another control, printed as a program in our own language. Our own.
use Rattle.std.specs.Prelude.{◌≡◌, ◌⊎◌, ℕ, List, Option, Some, None, Bool, true, false, codes, unwrap_or, Result, Ok, Err}
use Rattle.std.specs.Io.KnownBytes.{Appends, Keeps}
use Rattle.ngc_text.specs.Written.{AppendsPrefix}
use Rattle.ngc_canonical.specs.State.{Setup}
use Rattle.ngc_commands.specs.declared.command.Command.{Command}
use Rattle.ngc_dialect_execution.specs.Executed.{PlainLine}
use Rattle.ngc_dialect_execution.specs.Program.{meaning_in, notes_in, plain_in}
use Rattle.ngc_dialect_execution.specs.declared.run.Wanted.{Wanted}
use Rattle.ngc_dialect_names.specs.declared.dialect.Dialect.{Dialect}
use Rattle.ngc_dialect_note_texts.specs.Texts.{notes_text}
use Rattle.ngc_dialect_notes.specs.Notes.{no_notes}
use Rattle.ngc_dialect_notes.specs.declared.notes.Notes.{Notes as ProgramNotes}
use Rattle.ngc_inputs.specs.declared.fault.AnswerFault.{AnswerFault}
use Rattle.ngc_inputs.specs.declared.fault.AnswerFault.TheVariants as answers
use Rattle.ngc_plain_laws.specs.Laws.{HasCommands, IsPrintable, text_of, words_in}
use Rattle.ngc_plain_text.specs.Limits.{are_few}
use Rattle.ngc_report.specs.declared.form.Form.TheVariants.{Words}
use Rattle.ngc_simulator.specs.Dialects.{NotesFault}
use Rattle.ngc_simulator.specs.declared.done.Done.{Done}
use Rattle.ngc_simulator.specs.declared.done.Done.TheVariants.{Quietly, RunThrough, WithNotes}
use Rattle.ngc_simulator.specs.declared.done.Notes.{Notes}

-- what is said where lines don't keep the limits of our language
abbrev pub unprintable_text : List ℕ
unprintable_text =
    codes "Nothing is written: the program has over 100,000 lines in our language, or one of over 256 characters.\n"

-- ---- plain lines

-- The text of the lines was written, with the notes on the program; or nothing was written, since they
-- don't keep the limits of our language, and the notes say so.
abbrev pub IsPrinted : List PlainLine → Option ProgramNotes → Option (List ℕ) → Option (List ℕ) → Bool →
    List ℕ → Type 0
IsPrinted lines notes old new true told = IsPrintable lines × Appends old new (text_of lines)
    × (told ≡ notes_text Words (unwrap_or notes no_notes))
IsPrinted lines notes old new false told = (are_few (words_in lines) ≡ false) × Keeps old new
    × (told ≡ unprintable_text)

abbrev pub PrintsLines : List PlainLine → Option ProgramNotes → Option (List ℕ) → Option (List ℕ) →
    Result Notes AnswerFault → Type 0
PrintsLines lines notes old new (Ok told) =
    IsPrinted lines notes old new told.is_written told.text.items
PrintsLines lines notes old new (Err answers.Memory) = Keeps old new
PrintsLines lines notes old new (Err (answers.Write fault)) =
    IsPrintable lines × AppendsPrefix old new (text_of lines)
PrintsLines lines notes old new (Err _) = ⊥

-- ---- a program

-- notes and plain lines are wanted
abbrev pub everything : Wanted
everything = record { notes = true; lines = true }

-- The plain lines that a program becomes at a setting of block delete. Where they can be printed, their
-- text has the program's actions in our own language, at both settings.
pub record ArePlain (d : Dialect) (setup : Setup) (block_delete : Bool) (source : List ℕ)
    (lines : List PlainLine) : Type 0 where
  pub are : plain_in everything d setup block_delete source ≡ Some lines
  pub commands : List Command
  pub means : meaning_in d setup block_delete source ≡ Ok commands
  pub same : IsPrintable lines → (delete : Bool) → HasCommands setup delete lines commands

-- the lines of a program were printed, or not all
abbrev pub PrintsProgram : Dialect → Setup → Bool → List ℕ → Option (List ℕ) → Option (List ℕ) →
    Result Notes AnswerFault → Type 0
PrintsProgram d setup block_delete source old new outcome =
    (lines : List PlainLine) × ArePlain d setup block_delete source lines
    × PrintsLines lines (notes_in everything d setup block_delete source) old new outcome

-- A program that isn't refused was printed; of one that is refused nothing was written, and the notes
-- say why. Lack of memory shows nothing.
abbrev pub AdaptsWith : Dialect → Setup → Bool → List ℕ → Option (List ℕ) → Option (List ℕ) → Notes →
    Type 0
AdaptsWith d setup block_delete source old new notes =
    PrintsProgram d setup block_delete source old new (Ok notes)
    ⊎ (NotesFault d setup block_delete source None notes × Keeps old new)

abbrev pub AdaptsDialect : Dialect → Setup → Bool → List ℕ → Option (List ℕ) → Option (List ℕ) →
    Result Done AnswerFault → Type 0
AdaptsDialect d setup block_delete source old new (Ok Quietly) = ⊥
AdaptsDialect d setup block_delete source old new (Ok (RunThrough time)) = ⊥
AdaptsDialect d setup block_delete source old new (Ok (WithNotes notes)) =
    AdaptsWith d setup block_delete source old new notes
AdaptsDialect d setup block_delete source old new (Err answers.Memory) = Keeps old new
AdaptsDialect d setup block_delete source old new (Err fault) =
    PrintsProgram d setup block_delete source old new (Err fault)
