-- The notes on a line. Our own.
use Rattle.std.specs.Prelude.{ℕ, nat_lt, List, [], ◌∷◌, Option, Result, Ok, Err}
use Rattle.ngc_dialect_parameters.specs.declared.statement.Statement.{Statement}
use Rattle.ngc_dialect_parameters.specs.declared.statement.Statement.TheVariants as statements
use Rattle.ngc_dialect_parameters.specs.declared.statement.Word.{Word}
use Rattle.ngc_dialect_rules.specs.declared.code.Code.{Code}
use Rattle.ngc_dialect_rules.specs.declared.fault.Fault.{Fault}
use Rattle.ngc_dialect_rules.specs.declared.front.Known.{Known}
use Rattle.ngc_dialect_rules.specs.Words.{codes_of}
use Rattle.ngc_dialect_notes.specs.declared.kind.Kind.TheVariants as kinds
use Rattle.ngc_dialect_notes.specs.declared.notes.Notes.{Notes}
use Rattle.ngc_dialect_notes.specs.CodeNotes.{codes_noted}
use Rattle.ngc_dialect_notes.specs.MotionNotes.{motion_noted}
use Rattle.ngc_dialect_notes.specs.Motions.{motion_on}
use Rattle.ngc_dialect_notes.specs.Notes.{counted, hearing, note_if}
use Rattle.ngc_dialect_notes.specs.WordNotes.{words_noted}

-- by the line's codes and its motion
abbrev pub noted_by : ℕ → Known → List Code → Option Code → List Word → Notes → Notes
noted_by line k codes motion words n =
    motion_noted line k codes words motion
    (words_noted line k codes motion words (codes_noted line k codes words (hearing codes n)))

-- by the codes that the rules find on the line; where they refuse one nothing is noted
abbrev pub noted_if : ℕ → Known → List Word → Result (List Code) Fault → Notes → Notes
noted_if line k words (Ok codes) n = noted_by line k codes (motion_on k codes words) words n
noted_if line k words (Err e) n = n

-- the notes with those on a line that the rules accept: its number, what is known before it, and
-- its words
unfoldable pub noted : ℕ → Known → List Word → Notes → Notes
noted line k words n = noted_if line k words (codes_of k.dialect words []) n

-- $H, which goes to no switch, and /2 to /9, which are taken as /
abbrev pub statement_noted : ℕ → Statement → Notes → Notes
statement_noted line statements.Home n = counted line kinds.Homing n
statement_noted line (statements.Delete level) n = note_if (nat_lt 1 level) line kinds.DeleteLevel n
statement_noted line _ n = n

abbrev pub statements_noted : ℕ → List Statement → Notes → Notes
statements_noted line [] n = n
statements_noted line (s ∷ ss) n = statements_noted line ss (statement_noted line s n)
