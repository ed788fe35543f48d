-- A line in place of another one: new words, and which of the other line's words are kept. Our own.
use Rattle.std.specs.Prelude.{ℕ, ◌==◌, ◌&&◌, ◌||◌, not, Bool, false, List, [], ◌∷◌, ◌++◌, filter, Option, Some, None}
use Rattle.ngc_dialect_parameters.specs.declared.statement.Word.{Word}
use Rattle.ngc_dialect_rules.specs.Bytes as bytes
use Rattle.ngc_dialect_repeats.specs.declared.kept.Kept.{Kept}
use Rattle.ngc_dialect_repeats.specs.declared.kept.Kept.TheVariants as kept
use Rattle.ngc_dialect_repeats.specs.declared.kept.WordLine.{WordLine}

abbrev pub is_polar : ℕ → Bool
is_polar letter = (letter == bytes.AT) || (letter == bytes.CARET)

abbrev pub is_axis : ℕ → Bool
is_axis letter = (letter == bytes.X) || (letter == bytes.Y) || (letter == bytes.Z)

abbrev pub is_offset : ℕ → Bool
is_offset letter = (letter == bytes.I) || (letter == bytes.J) || (letter == bytes.K)

abbrev pub is_place : ℕ → Bool
is_place letter = is_axis letter || is_offset letter || (letter == bytes.R)

abbrev pub keeps : Kept → ℕ → Bool
keeps kept.NotPolar letter = not (is_polar letter)
keeps kept.NotPolarOrHoles letter = not (is_polar letter || (letter == bytes.L))
keeps kept.NotPlaces letter =
    not (is_axis letter || (letter == bytes.R) || (letter == bytes.P))
keeps kept.Offsets letter = is_offset letter
keeps kept.Places letter = is_place letter
keeps (kept.PlacesBut other) letter = is_place letter && not (letter == other)
keeps kept.Nothing letter = false

abbrev pub kept_words : Kept → List Word → List Word
kept_words k words = filter (λ (w : Word). keeps k w.letter) words

abbrev pub one : Option Word → List Word
one None = []
one (Some w) = w ∷ []

-- the words of the line
abbrev pub line_words : WordLine → List Word → List Word
line_words l words =
    ((one l.first ++ one l.second) ++ one l.third) ++ kept_words l.kept words
