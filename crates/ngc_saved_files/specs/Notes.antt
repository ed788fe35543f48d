-- The line about a text that isn't UTF-8. Our own.
use Rattle.std.specs.Prelude.{◌≡◌, ◌⊎◌, ◌==◌, ◌&&◌, ℕ, List, Bool, true, false, Option, codes, not}
use Rattle.std.specs.Io.KnownBytes.{Appends}
use Rattle.ngc_text.specs.Failures.{Rises}
use Rattle.ngc_text.specs.Written.{AppendsPrefix}

abbrev pub wide_line : List ℕ
wide_line = codes "ngc: the file is UTF-16: save it as UTF-8\n"

-- a sink takes nothing
pub record TakesNothing (old new : Option (List ℕ)) (failures failures_now : ℕ) : Type 0 where
  pub same : new ≡ old
  pub counts : failures_now ≡ failures

-- a sink takes a text, or fails after a prefix of it
abbrev pub TakesText : List ℕ → Option (List ℕ) → Option (List ℕ) → ℕ → ℕ → Type 0
TakesText text old new failures failures_now =
    (Appends old new text × (failures_now ≡ failures)) ⊎
    (AppendsPrefix old new text × Rises failures failures_now)

abbrev pub TakesIf : Bool → Option (List ℕ) → Option (List ℕ) → ℕ → ℕ → Type 0
TakesIf true old new failures failures_now = TakesText wide_line old new failures failures_now
TakesIf false old new failures failures_now = TakesNothing old new failures failures_now

-- The line follows if a text was UTF-16 and the command isn't done.
abbrev pub IsNoted : Bool → ℕ → Option (List ℕ) → Option (List ℕ) → ℕ → ℕ → Type 0
IsNoted is_wide status = TakesIf (is_wide && not (status == 0))
