-- The lines of a program that is reported, and what the machine file and the tool table say besides the
-- machine and its tools. Our own.
use Rattle.std.specs.Prelude.{ℕ, List, Option, Some, None, Bool, true, false}
use Rattle.ngc_file_figures.specs.Files.{FigureValues, values_of}
use Rattle.ngc_line_reader.specs.Program.{Line, lines_of}
use Rattle.ngc_line_reader.specs.ProgramView.{text_in}
use Rattle.ngc_dialect_notes.specs.Notes.{no_notes}
use Rattle.ngc_dialect_notes.specs.declared.notes.Notes.{Notes}
use Rattle.ngc_program_report.specs.declared.reported.OtherText.{OtherText}
use Rattle.ngc_program_report.specs.declared.reported.ReportedText.{ReportedText}
use Rattle.ngc_program_report.specs.declared.reported.ReportedText.TheVariants.{Own, Other}

-- the notes on a program for another control, at each setting of block delete
pub record SettingNotes : Type 0 where
  pub off : Notes
  pub on : Notes

abbrev pub notes_at : Bool → SettingNotes → Notes
notes_at false n = n.off
notes_at true n = n.on

-- the lines that a report quotes by their numbers, and those of which it examines the words, if they
-- are in our own language, or else the notes on them
pub record ReportedLines : Type 0 where
  pub quoted : List Line
  pub examined : Option (List Line)
  pub notes : SettingNotes
  pub figures : FigureValues

-- the lines of a program in our own language
abbrev pub own_lines : FigureValues → List Line → ReportedLines
own_lines figures lines = record {
  quoted = lines;
  examined = Some lines;
  notes = record { off = no_notes; on = no_notes };
  figures = figures;
}

-- the lines of the text of a program for another control: its words have other meanings
abbrev pub other_lines : FigureValues → List ℕ → SettingNotes → ReportedLines
other_lines figures text notes =
    record { quoted = lines_of text; examined = None; notes = notes; figures = figures }

abbrev pub noted_by : OtherText → SettingNotes
noted_by other = record { off = other.off; on = other.on }

abbrev pub reported : {A : Type 0} → ReportedText A → ReportedLines
reported (Own program figures) = own_lines (values_of figures) (text_in program.now).lines
reported (Other other) =
    other_lines (values_of other.now.figures) other.now.text.now (noted_by other.now)
