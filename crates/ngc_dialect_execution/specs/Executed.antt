-- Plain lines of our own language, executed in order. Our own.
use Rattle.std.specs.Prelude.{ℕ, ℤ, List, [], ◌∷◌, ◌++◌, Option, Some, None, Result, Ok, if◌then◌else◌}
use Rattle.ngc_line_reader.specs.declared.letter.Letter.{Letter}
use Rattle.ngc_line_reader.specs.Words.{pair_of}
use Rattle.ngc_canonical.specs.declared.fault.Fault.{Fault}
use Rattle.ngc_canonical.specs.Meaning.{execute_words}
use Rattle.ngc_canonical.specs.State.{Setup, State}
use Rattle.ngc_canonical.specs.Steps.{◌>>=◌}
use Rattle.ngc_dialect_rules.specs.declared.plain.Plain.{Plain}
use Rattle.ngc_dialect_rules.specs.declared.plain.Plain.TheVariants as plain

-- the words of a plain line, and the line of the source that it is made from
pub record PlainLine : Type 0 where
  pub line : ℕ
  pub words : List (Letter × ℤ)

-- the words of a plain line, executed with the number of the source's line
abbrev pub execute_plain : Setup → PlainLine → State → Result State Fault
execute_plain setup l s = execute_words setup l.words (record s { line = l.line })

-- plain lines in order; after an end nothing is executed
unfoldable pub executed : Setup → List PlainLine → State → Result State Fault
executed setup [] s = Ok s
executed setup (l ∷ ls) s =
    if s.ended then Ok s else (execute_plain setup l s >>= λ t. executed setup ls t)

-- our own interpreter's state, and the plain lines that it has executed, where they are kept
pub record Run : Type 0 where
  pub state : State
  pub kept : Option (List PlainLine)

abbrev pub kept_with : PlainLine → Option (List PlainLine) → Option (List PlainLine)
kept_with l None = None
kept_with l (Some ls) = Some (ls ++ l ∷ [])

-- a plain line, executed and kept
abbrev pub line_run : Setup → PlainLine → Run → Result Run Fault
line_run setup l r =
    execute_plain setup l r.state >>= λ s. Ok (record { state = s; kept = kept_with l r.kept })

-- plain lines in order, executed and kept; after an end nothing is
unfoldable pub run : Setup → List PlainLine → Run → Result Run Fault
run setup [] r = Ok r
run setup (l ∷ ls) r =
    if r.state.ended then Ok r else (line_run setup l r >>= λ u. run setup ls u)

-- The lines that marks end, in order, where `begun` has the words since the last mark. Words
-- without a mark after them are no line.
unfoldable pub lines_from : ℕ → List (Letter × ℤ) → List Plain → List PlainLine
lines_from line begun [] = []
lines_from line begun (plain.Word w ∷ ps) = lines_from line (begun ++ pair_of w ∷ []) ps
lines_from line begun (plain.End ∷ ps) =
    record { line = line; words = begun } ∷ lines_from line [] ps

-- the plain lines that a line of the source became
abbrev pub lines_at : ℕ → List Plain → List PlainLine
lines_at line ps = lines_from line [] ps
