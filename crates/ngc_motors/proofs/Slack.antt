-- How far a motor may stand from the path.
use Rattle.std.proofs.Common.{◌≡◌, ℕ, ◌+◌, ◌-◌, ◌*◌, ◌/◌, ◌<◌, ◌≤◌, ℤ, pos, ◌+ℤ◌, ◌*ℤ◌, ◌≤ℤ◌, ◌⊎◌, inl, inr, true, false, cond, ap, sym, subst, arith}
use Rattle.std.specs.Prelude.{IsTrue}
use Rattle.std.proofs.lemmas.Bool.{cases_Bool}
use Rattle.std.proofs.lemmas.Int.{ints, clamps}
use Rattle.std.proofs.Math.Nat.{div-lt_iff_lt-mul, lt-div-mul-add}
use Rattle.ngc_motors.specs.Counts.{AreMotors, MotorData, is_grid_step, is_motor, slack, slack_of}
use Rattle.ngc_motors.specs.declared.step.MotorStep.{MotorStep}
use Rattle.ngc_motors.proofs.Quotients.{times_rises}
use Rattle.ngc_motors.proofs.Sizes.{on_grid}

-- half of a number of nanometres in some steps, rounded up
abbrev pub half_of : ℕ → ℕ → ℕ
half_of n s = (n + 2 * s - 1) / (2 * s)

-- a step is at most twice its half
half_enough : (n s : ℕ) → 0 < s → n ≤ 2 * half_of n s * s
half_enough n s some =
    let wide : 0 < 2 * s = omega (arith, some) in
    let l : n + 2 * s - 1 < half_of n s * (2 * s) + 2 * s = lt-div-mul-add wide in
    let e : 2 * half_of n s * s ≡ half_of n s * (2 * s) = grind arith in
    omega (arith, l, e, wide)

pub half_most : (n s : ℕ) → 0 < s → n ≤ 1000000 * s → half_of n s ≤ 500000
half_most n s some most =
    let wide : 0 < 2 * s = omega (arith, some) in
    let l : half_of n s < 500001 = (div-lt_iff_lt-mul wide).1 (omega (arith, some, most)) in
    omega (arith, l)

same_step : (g : ℤ) (m : MotorStep) → is_grid_step g m ≡ true → slack_of g m ≡ pos 0
same_step g m e = ap (λ b. cond b (pos 0) (pos (half_of m.nanometres m.steps))) e

other_step : (g : ℤ) (m : MotorStep) → is_grid_step g m ≡ false → slack_of g m ≡ pos (half_of m.nanometres m.steps)
other_step g m e = ap (λ b. cond b (pos 0) (pos (half_of m.nanometres m.steps))) e

pub slack_of_range : (g : ℤ) (m : MotorStep) → IsTrue (is_motor g m) → (pos 0 ≤ℤ slack_of g m) × (slack_of g m ≤ℤ pos 500000)
slack_of_range g m motor =
    let on = on_grid g m motor in
    let most = half_most m.nanometres m.steps on.some on.most in
    elim (cases_Bool (is_grid_step g m)) [
      | inl e ↦ (omega (arith, ints, same_step g m e), omega (arith, ints, same_step g m e))
      | inr e ↦ (omega (arith, ints, other_step g m e), omega (arith, ints, other_step g m e, most))
    ]

pub slack_range : (m : MotorData) → AreMotors m → (pos 0 ≤ℤ slack m) × (slack m ≤ℤ pos 500000)
slack_range m are =
    let x = slack_of_range m.grid m.steps.x are.x in
    let y = slack_of_range m.grid m.steps.y are.y in
    let z = slack_of_range m.grid m.steps.z are.z in
    (omega (arith, ints, clamps, x.0), omega (arith, ints, clamps, x.1, y.1, z.1))

-- a motor has the grid's step, or its step is at most twice a distance
abbrev pub IsEnough : ℤ → MotorStep → ℤ → Type 0
IsEnough g m distance =
    (is_grid_step g m ≡ true) ⊎ (pos m.nanometres ≤ℤ ((distance +ℤ distance) *ℤ pos m.steps))

pub enough_more : (g : ℤ) (m : MotorStep) (d e : ℤ) → d ≤ℤ e → IsEnough g m d → IsEnough g m e
enough_more g m d e more enough = elim enough [
  | inl same ↦ inl same
  | inr half ↦ inr (let t = times_rises m.steps (d +ℤ d) (e +ℤ e) (omega (arith, ints, more)) in omega (arith, ints, half, t))
]

own_enough : (g : ℤ) (m : MotorStep) → IsTrue (is_motor g m) → IsEnough g m (slack_of g m)
own_enough g m motor =
    let on = on_grid g m motor in
    let half = half_of m.nanometres m.steps in
    let enough = half_enough m.nanometres m.steps on.some in
    let e : 2 * half * m.steps ≡ (half + half) * m.steps = grind arith in
    let D : ℤ → Type 0 = λ d. pos m.nanometres ≤ℤ ((d +ℤ d) *ℤ pos m.steps) in
    elim (cases_Bool (is_grid_step g m)) [
      | inl same ↦ inl same
      | inr other ↦ inr (subst D (sym (other_step g m other)) (omega (arith, ints, enough, e)))
    ]

pub enough_x : (m : MotorData) → AreMotors m → IsEnough m.grid m.steps.x (slack m)
enough_x m are = enough_more m.grid m.steps.x (slack_of m.grid m.steps.x) (slack m) (omega (arith, ints, clamps)) (own_enough m.grid m.steps.x are.x)

pub enough_y : (m : MotorData) → AreMotors m → IsEnough m.grid m.steps.y (slack m)
enough_y m are = enough_more m.grid m.steps.y (slack_of m.grid m.steps.y) (slack m) (omega (arith, ints, clamps)) (own_enough m.grid m.steps.y are.y)

pub enough_z : (m : MotorData) → AreMotors m → IsEnough m.grid m.steps.z (slack m)
enough_z m are = enough_more m.grid m.steps.z (slack_of m.grid m.steps.z) (slack m) (omega (arith, ints, clamps)) (own_enough m.grid m.steps.z are.z)
