-- A column's root tells which of its points are within the limit.
use Rattle.std.proofs.Common.{◌≡◌, ℕ, ◌+◌, ◌<◌, ◌≤◌, true, false, inl, inr, max, min, arith, sym, ◌∙◌}
use Rattle.std.specs.Prelude.{nat_le}
use Rattle.std.proofs.lemmas.Bool.{cases_lt}
use Rattle.ngc_circle_walk.specs.Wheel.{square}
use Rattle.ngc_circle_walk.specs.Turning.{IsColumn}
use Rattle.ngc_circle_walk.proofs.Rays.{square_le}

le_true : (a b : ℕ) → a ≤ b → nat_le a b ≡ true
le_true a b h = grind arith

le_false : (a b : ℕ) → b < a → nat_le a b ≡ false
le_false a b h = grind arith

greater_first : (x y : ℕ) → square (max x y) (min x y) ≡ square x y
greater_first x y = elim (cases_lt x y) [
  | inl less ↦ (let a : max x y ≡ y = omega arith in let b : min x y ≡ x = omega arith in rw (a, b) (omega arith))
  | inr more ↦ (let a : max x y ≡ x = omega arith in let b : min x y ≡ y = omega arith in rw (a, b) (omega arith))
]

pub column_has : (limit x y reach : ℕ) → IsColumn limit (max x y) reach → nat_le (min x y) reach ≡ nat_le (square x y) limit
column_has limit x y reach column =
    let e = greater_first x y in
    elim (cases_lt reach (min x y)) [
      | inl more ↦ (
          let up : reach + 1 ≤ min x y = omega arith in
          let a = square_le (reach + 1) (min x y) up in
          le_false (min x y) reach more ∙ sym (le_false (square x y) limit (omega (arith, column.greatest, e))))
      | inr less ↦ (
          let a = square_le (min x y) reach less in
          le_true (min x y) reach less ∙ sym (le_true (square x y) limit (omega (arith, column.reached, e))))
    ]
