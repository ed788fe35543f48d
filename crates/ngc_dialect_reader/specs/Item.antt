-- Items: words, settings and comments in any number and order (NISTIR 6556, 3.3).
use Rattle.std.specs.Prelude.{ℕ, zero, suc, ◌==◌, ◌&&◌, ◌||◌, not, List, [], ◌∷◌, ◌++◌}
use Rattle.std.specs.Prelude.{length, drop, slice_index, Bool, true, false, Result, Ok, Err}
use Rattle.std.specs.Prelude.{if◌then◌else◌}
use Rattle.ngc_line_reader.specs.Scan.{begins, ◌>>=◌}
use Rattle.ngc_dialect_reader.specs.declared.switches.Switches.{Switches}
use Rattle.ngc_dialect_reader.specs.declared.fault.Cause.TheVariants as causes
use Rattle.ngc_dialect_reader.specs.declared.part.Part.{Part}
use Rattle.ngc_dialect_reader.specs.declared.part.PartKind.TheVariants as kinds
use Rattle.ngc_dialect_reader.specs.Number.{refusal, has_sign}
use Rattle.ngc_dialect_reader.specs.Steps.{Answer, Reader, add, added, closed, needed, name_at}
use Rattle.ngc_dialect_reader.specs.Steps.{is_letter, begins_letter, word_length}
use Rattle.ngc_dialect_reader.specs.Value.{value_at, expression_with, begins_digits}

-- values nest at most 32 deep
abbrev pub top : Switches → Reader
top d = value_at d 32

-- letters that begin words: not N and O; '@' and '^' in some dialects
abbrev pub is_word_letter : Switches → ℕ → Bool
is_word_letter d b =
    (is_letter b && not ((b == 78) || (b == 79))) || (d.polar && ((b == 64) || (b == 94)))

-- whether a value can begin here: a function's name has a bracket after it
abbrev pub begins_value : List ℕ → Bool
begins_value s =
    begins_digits s || (has_sign s || (begins 91 s || (begins 35 s
    || (begins_letter s && begins 91 (drop (word_length s) s)))))

-- whether a number begins, maybe with a sign
abbrev pub begins_number : List ℕ → Bool
begins_number s = begins_digits s || (has_sign s && begins_digits (drop 1 s))

-- a word; its letter is the first byte of s
unfoldable pub word_at : Switches → ℕ → Reader
word_at d letter found s =
    if not (begins_value (drop 1 s)) then Err (refusal causes.WordWithoutValue (length s)) else (
    top d found (drop 1 s) >>= λ x. added (kinds.Word letter) s x.0 x.1)

-- '=' and a setting's value; Fanuc's is an expression without brackets
unfoldable pub assigned_at : Switches → Reader
assigned_at d found s =
    needed 61 causes.EqualsMissing s >>= λ r.
    if d.macros then expression_with d (top d) found r else top d found r

-- a setting: '#', an index or a name in '<>', '=', a value
unfoldable pub setting_at : Switches → Reader
setting_at d found s =
    if not d.expressions then Err (refusal causes.NotInDialect (length s)) else (
    if begins 60 (drop 1 s)
    then (if not d.names then Err (refusal causes.NotInDialect (length s)) else (
    name_at (drop 2 s) >>= λ x.
    assigned_at d found x.1 >>= λ y. added (kinds.SetNamed x.0) s y.0 y.1))
    else (top d found (drop 1 s) >>= λ x.
    assigned_at d x.0 x.1 >>= λ y. added kinds.Set s y.0 y.1))

-- an item that begins with this byte
abbrev pub begun_with : Switches → ℕ → Reader
begun_with d b found s =
    if b == 40 then Ok (found, drop 1 s) else (
    if b == 35 then setting_at d found s else (
    if is_word_letter d b then word_at d b found s else
    Err (refusal causes.UnexpectedCharacter (length s))))

unfoldable pub item_at : Switches → Reader
item_at d found [] = Err (refusal causes.UnexpectedCharacter 0)
item_at d found (b ∷ s) = begun_with d b found (b ∷ s)

-- all items of a text, at most `room`
unfoldable pub items_at : Switches → ℕ → Reader
items_at d zero found s = Err (refusal causes.TooManyParts (length s))
items_at d (suc room) found s =
    if length s == 0 then Ok (found, s) else (
    item_at d found s >>= λ x. items_at d room x.0 x.1)

-- A line of 256 bytes has at most 256 items.
abbrev pub items : Switches → Reader
items d found s = items_at d 257 found s
