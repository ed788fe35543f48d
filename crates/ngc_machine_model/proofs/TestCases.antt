-- A test's two cases.
use Rattle.std.proofs.Common.{◌≡◌, ◌⊎◌, inl, inr, refl, true, false}
use Rattle.std.specs.Prelude.{Bool, MatchBool}

-- a test's two cases, with the test's result
pub match_with : (b : Bool) (A B : Type 0) → MatchBool b A B → ((b ≡ true) × A) ⊎ ((b ≡ false) × B)
match_with true A B h = inl (refl, h)
match_with false A B h = inr (refl, h)
