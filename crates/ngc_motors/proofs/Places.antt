-- Places to which counts move the axes, in whole nanometres.
use Rattle.std.proofs.Common.{◌≡◌, ℕ, ◌+◌, ◌*◌, ◌<◌, true, ℤ, pos, negsuc, ◌+ℤ◌, ◌-ℤ◌, ◌*ℤ◌, ◌≤ℤ◌, arith, ap, sym, ◌∙◌}
use Rattle.std.specs.Int.{int_div_euclid}
use Rattle.std.proofs.lemmas.Int.{ints}
use Rattle.ngc_fixed_length.specs.Length.{IsStep}
use Rattle.ngc_motors.specs.Counts.{IsMotorStep, commanded_parts, count, is_grid_step, place_above, place_below}
use Rattle.ngc_motors.specs.Laws.{parts}
use Rattle.ngc_motors.specs.declared.step.MotorStep.{MotorStep}
use Rattle.ngc_motors.proofs.Quotients.{fits, least, minus_times, nearest_law, plus_times, rises, rises_law, times_rises, up_at_most, up_fits}
use Rattle.ngc_motors.proofs.Sizes.{count_same, grid_parts, some_nanometres}

-- ---- whole nanometres

whole_down : (n : ℕ) (k z : ℤ) → 0 < n → z ≡ k *ℤ pos n → int_div_euclid z (pos n) ≡ k
whole_down n k z some is =
    let up = fits n k z some (omega (arith, ints, is)) in
    let l = least n z some in
    let down = up_at_most n k z some (omega (arith, ints, is)) in
    let r = rises n z ((z +ℤ pos n) -ℤ pos 1) some (omega (arith, ints, some)) in
    omega (arith, ints, up, down, r)

whole_up : (n : ℕ) (k z : ℤ) → 0 < n → z ≡ k *ℤ pos n → int_div_euclid ((z +ℤ pos n) -ℤ pos 1) (pos n) ≡ k
whole_up n k z some is =
    let up = fits n k z some (omega (arith, ints, is)) in
    let down = up_at_most n k z some (omega (arith, ints, is)) in
    let r = rises n z ((z +ℤ pos n) -ℤ pos 1) some (omega (arith, ints, some)) in
    omega (arith, ints, up, down, r)

-- motors with the grid's step stand at its points
grid_commanded : (p g : ℤ) (m : MotorStep) → IsStep g → is_grid_step g m ≡ true → commanded_parts m (p *ℤ g) ≡ (p *ℤ g) *ℤ pos m.steps
grid_commanded p g m grid h = ap (λ k. k *ℤ pos m.nanometres) (count_same p g m grid h) ∙ sym (grid_parts p g m h)

pub grid_below : (p g : ℤ) (m : MotorStep) → IsStep g → 0 < m.steps → is_grid_step g m ≡ true → place_below m (p *ℤ g) ≡ p *ℤ g
grid_below p g m grid some h = whole_down m.steps (p *ℤ g) (commanded_parts m (p *ℤ g)) some (grid_commanded p g m grid h)

pub grid_above : (p g : ℤ) (m : MotorStep) → IsStep g → 0 < m.steps → is_grid_step g m ≡ true → place_above m (p *ℤ g) ≡ p *ℤ g
grid_above p g m grid some h = whole_up m.steps (p *ℤ g) (commanded_parts m (p *ℤ g)) some (grid_commanded p g m grid h)

-- ---- where the path rises, so do the places

commanded_rises : (m : MotorStep) (a b : ℤ) → IsMotorStep m → a ≤ℤ b → commanded_parts m a ≤ℤ commanded_parts m b
commanded_rises m a b is h = times_rises m.nanometres (count m a) (count m b) (rises_law m a b (some_nanometres m is) h)

pub below_rises : (m : MotorStep) (a b : ℤ) → IsMotorStep m → a ≤ℤ b → place_below m a ≤ℤ place_below m b
below_rises m a b is h = rises m.steps (commanded_parts m a) (commanded_parts m b) is.some (commanded_rises m a b is h)

pub above_rises : (m : MotorStep) (a b : ℤ) → IsMotorStep m → a ≤ℤ b → place_above m a ≤ℤ place_above m b
above_rises m a b is h =
    let r = commanded_rises m a b is h in
    rises m.steps ((commanded_parts m a +ℤ pos m.steps) -ℤ pos 1) ((commanded_parts m b +ℤ pos m.steps) -ℤ pos 1) is.some (omega (arith, ints, r))

-- ---- places are near the path

-- if a step is at most twice a distance, the places are within that distance
pub below_near : (m : MotorStep) (d place : ℤ) → IsMotorStep m → pos 0 ≤ℤ d → pos m.nanometres ≤ℤ ((d +ℤ d) *ℤ pos m.steps) →
    (place -ℤ d) ≤ℤ place_below m place
below_near m (pos k) place is least half =
    let n = nearest_law m place (some_nanometres m is) in
    let e = minus_times m.steps k place in
    let f : (k + k) * m.steps ≡ k * m.steps + k * m.steps = omega arith in
    fits m.steps (place -ℤ pos k) (commanded_parts m place) is.some (omega (arith, ints, n.low, e, f, half))
below_near m (negsuc k) place is least half = absurd (omega (arith, ints, least))

pub above_near : (m : MotorStep) (d place : ℤ) → IsMotorStep m → pos 0 ≤ℤ d → pos m.nanometres ≤ℤ ((d +ℤ d) *ℤ pos m.steps) →
    (place_above m place -ℤ d) ≤ℤ place
above_near m (pos k) place is least half =
    let n = nearest_law m place (some_nanometres m is) in
    let e = plus_times m.steps k place in
    let f : (k + k) * m.steps ≡ k * m.steps + k * m.steps = omega arith in
    let u = up_at_most m.steps (place +ℤ pos k) (commanded_parts m place) is.some (omega (arith, ints, n.high, e, f, half)) in
    omega (arith, ints, u)
above_near m (negsuc k) place is least half = absurd (omega (arith, ints, least))
