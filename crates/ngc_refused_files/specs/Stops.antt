-- What is printed of a file that isn't a TOML document: where its reader stopped, and why. Our own.
use Rattle.std.specs.Prelude.{ℕ, ◌+◌, ◌==◌, nat_lt, nat_eq, ◌≤◌, List, [], ◌++◌, length, codes, decimal, Option, Some, None}
use Rattle.std.specs.Prelude.{Bool, not, ◌&&◌, ◌||◌, if◌then◌else◌}
use Rattle.std.specs.List.{list_any, starts_with}
use Rattle.ngc_file_lines.specs.Places.{Place, place_after}
use Rattle.ngc_refused_files.specs.Refusals.{shown_below}

-- the number of bytes that the reader had read when it stopped, and its words for the cause
pub record Stop : Type 0 where
  pub at : ℕ
  pub why : List ℕ

-- P of one place in the text, and of some words
pub record StopsWhere (bytes : List ℕ) (P : Stop → Type 0) : Type 0 where
  pub stop : Stop
  pub inside : stop.at ≤ length bytes
  pub holds : P stop

abbrev pub is_quote : ℕ → Bool
is_quote b = b == 34 || b == 39

-- a value can't be read, or something follows it
abbrev pub is_of_value : List ℕ → Bool
is_of_value why =
    starts_with nat_eq why (codes "invalid value") || starts_with nat_eq why (codes "unexpected key or value")

-- a value on a line without quotation marks may be a text that lacks them
abbrev pub lacks_quotes : List ℕ → List ℕ → Bool
lacks_quotes why line = is_of_value why && not (list_any is_quote line)

abbrev pub hint_text : Bool → List ℕ
hint_text lacks = if lacks then codes "; write a text in quotes, like \"60 mm\"" else []

-- the mark is below the place, up to column 95
abbrev pub mark_at : ℕ → Option ℕ
mark_at before = if nat_lt before 95 then Some (before + 1) else None

unfoldable pub cause_text : List ℕ → List ℕ → List ℕ
cause_text why line = why ++ hint_text (lacks_quotes why line) ++ codes "\n"

unfoldable pub text_at : List ℕ → List ℕ → Place → List ℕ
text_at name why place =
    (name ++ codes ":" ++ decimal place.number ++ codes ": ") ++ cause_text why place.line
    ++ shown_below place.line (mark_at place.before)

abbrev pub stop_text : List ℕ → List ℕ → Stop → List ℕ
stop_text name bytes stop = text_at name stop.why (place_after stop.at bytes)
