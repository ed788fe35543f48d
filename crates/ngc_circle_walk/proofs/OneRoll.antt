-- The rule allows only one move.
use Rattle.std.proofs.Common.{◌≡◌, ℕ, ◌+◌, ◌-◌, ◌<◌, inl, inr, subst, arith}
use Rattle.std.proofs.lemmas.Bool.{cases_lt}
use Rattle.ngc_circle_walk.specs.declared.spoke.Roll.{Roll}
use Rattle.ngc_circle_walk.specs.declared.spoke.Roll.TheVariants.{Outward, Diagonal, Inward, Over}
use Rattle.ngc_circle_walk.specs.declared.spoke.Spoke.{Spoke}
use Rattle.ngc_circle_walk.specs.Wheel.{square, IsRoll, next_roll, OneIsDue}
use Rattle.ngc_circle_walk.proofs.Rim.{square_le}

pub only_roll : (g limit : ℕ) (s : Spoke) (r : Roll) → IsRoll g limit s r → r ≡ next_roll g limit s
only_roll g limit s Over h = grind arith
only_roll g limit s Outward h = let a = h.0 in let b = h.1 in grind arith
only_roll g limit s Diagonal h = let a = h.0 in let b = h.1 in let c = h.2 in grind arith
only_roll g limit s Inward h =
    let a = h.0 in
    let b = h.1 in
    let le = square_le (s.x - g) s.x (omega arith) in
    let c : limit < square s.x (s.y + g) = omega arith in
    grind arith

some_roll : (g limit : ℕ) (s : Spoke) → (r : Roll) × IsRoll g limit s r
some_roll g limit s =
    elim (cases_lt s.x g) [
      | inl near ↦ (Over, near)
      | inr far ↦ elim (cases_lt limit (square s.x (s.y + g))) [
        | inr fits ↦ (Outward, (far, fits))
        | inl more ↦ elim (cases_lt limit (square (s.x - g) (s.y + g))) [
          | inr fits ↦ (Diagonal, (far, more, fits))
          | inl refused ↦ (Inward, (far, refused))
        ]
      ]
    ]

pub next_is_due : (g limit : ℕ) (s : Spoke) → IsRoll g limit s (next_roll g limit s)
next_is_due g limit s =
    let some = some_roll g limit s in
    subst (λ (r : Roll). IsRoll g limit s r) (only_roll g limit s some.0 some.1) some.1

pub one_is_due : OneIsDue
one_is_due g limit s = (next_is_due g limit s, only_roll g limit s)
