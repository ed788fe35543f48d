-- Dividing a message step by step, with the 32 coefficients that the next step needs as a number.
use Rattle.std.specs.Prelude.{◌≡◌, ℕ, ◌+◌, Bool, List, ◌++◌, length}
use Rattle.ngc_map_picture.specs.Checks.{bits, added, divided}

-- The steps of these coefficients lead from one number to another, whatever coefficients follow and
-- however many steps are left.
abbrev pub Divides : List Bool → ℕ → ℕ → Type 0
Divides coefficients old new = (later : List Bool) (n : ℕ) →
    divided (length coefficients + n) (added (coefficients ++ later) (bits 32 old)) ≡ divided n (added later (bits 32 new))
