-- Plain lines of our own language: their words in order, with a mark after the last word of each
-- line.
use Rattle.std.specs.Prelude.{◌-◌, ◌*◌, ℤ, pos, Bool, true, false, List, [], ◌∷◌, ◌++◌}
use Rattle.std.specs.Prelude.{Option, Some, None, option_map, ◌&&◌}
use Rattle.std.specs.Prelude.{length, slice_get, if◌then◌else◌}
use Rattle.ngc_fixed_length.specs.declared.units.Units.{Units}
use Rattle.ngc_fixed_length.specs.declared.units.Units.TheVariants.{Millimetres}
use Rattle.ngc_line_reader.specs.declared.letter.Letter.{Letter}
use Rattle.ngc_line_reader.specs.declared.letter.Letter.TheVariants as letters
use Rattle.ngc_line_reader.specs.declared.word.Word.{Word}
use Rattle.ngc_dialect_rules.specs.declared.code.Code.{Code}
use Rattle.ngc_dialect_rules.specs.declared.code.Code.TheVariants.{G, M}
use Rattle.ngc_dialect_rules.specs.declared.plain.Plain.{Plain}
use Rattle.ngc_dialect_rules.specs.declared.plain.Plain.TheVariants as plain
use Rattle.ngc_dialect_rules.specs.declared.plan.Action.{Action}
use Rattle.ngc_dialect_rules.specs.Lengths.{written_in, is_exact}

-- a word of our own language
abbrev pub word : Letter → ℤ → Word
word letter v = record { letter = letter; value = v }

-- the word of a code
abbrev pub code_word : Code → Word
code_word (G tenths) = word letters.G (pos (tenths * 100000))
code_word (M number) = word letters.M (pos (number * 1000000))

abbrev pub a_code : Option Code → Option Word
a_code code = option_map code_word code

abbrev pub a_word : Letter → Option ℤ → Option Word
a_word letter v = option_map (word letter) v

-- ---- lines

-- the words with one more, if there is one
unfoldable pub with_word : Option Word → List Plain → List Plain
with_word None ps = ps
with_word (Some w) ps = ps ++ plain.Word w ∷ []

abbrev pub with_words : List (Option Word) → List Plain → List Plain
with_words [] ps = ps
with_words (w ∷ ws) ps = with_words ws (with_word w ps)

-- whether the last line isn't ended
abbrev pub is_word : Option Plain → Bool
is_word None = false
is_word (Some (plain.Word w)) = true
is_word (Some plain.End) = false

abbrev pub is_open : List Plain → Bool
is_open ps = is_word (slice_get ps (length ps - 1))

-- the last line is ended, if it has words
unfoldable pub ended : List Plain → List Plain
ended ps = if is_open ps then ps ++ plain.End ∷ [] else ps

-- ---- a motion or a change of origins, as a line

abbrev pub machine_place : Bool → Option Code
machine_place is_machine = if is_machine then Some (G 530) else None

-- the word of an axis, in a unit
abbrev pub axis_word : Units → Letter → Option ℤ → Option Word
axis_word units letter None = None
axis_word units letter (Some l) = a_word letter (written_in units l)

abbrev pub action_words : Units → Action → List (Option Word)
action_words units a =
    a_code (machine_place a.is_machine) ∷ a_code a.code ∷ a_word letters.L a.l
    ∷ a_word letters.P a.p
    ∷ axis_word units letters.X a.axes.x ∷ axis_word units letters.Y a.axes.y
    ∷ axis_word units letters.Z a.axes.z
    ∷ axis_word units letters.I a.centre.x ∷ axis_word units letters.J a.centre.y
    ∷ axis_word units letters.K a.centre.z
    ∷ a_word letters.F a.f ∷ []

-- The words end the line that is begun. If inches can't write a length, the line is in
-- millimetres, and G20 follows.
unfoldable pub with_action : Units → Action → List Plain → List Plain
with_action units a ps =
    if is_exact units a.axes && is_exact units a.centre
    then ended (with_words (action_words units a) ps)
    else ended (with_words (Some (code_word (G 200)) ∷ [])
    (ended (with_words (Some (code_word (G 210)) ∷ action_words Millimetres a) (ended ps))))
