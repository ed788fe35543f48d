-- Where the ends of a travel are moved to, and that motors can stand there.
use Rattle.std.proofs.Common.{◌≡◌, true, ℕ, ◌+◌, ◌*◌, ◌<◌, ◌≤◌, arith, ℤ, pos, ◌+ℤ◌, ◌-ℤ◌, ◌*ℤ◌, ◌≤ℤ◌, ap, refl, unsigned_abs}
use Rattle.std.specs.Prelude.{IsTrue, ◌<ℤ◌, ◌&&◌, Bool}
use Rattle.std.specs.Int.{int_div_euclid}
use Rattle.std.specs.Ordering.{int_eq}
use Rattle.std.proofs.lemmas.Bool.Decides.{Decides-int_eq}
use Rattle.std.proofs.lemmas.Int.{ints, by_lt_z}
use Rattle.ngc_fixed_length.specs.Length.{IsStep}
use Rattle.ngc_motors.specs.Counts.{IsMotorStep, commanded_parts, count, count_down, count_up, ends_at_steps, first_place, is_motor, last_place, nearest, place_above, place_below}
use Rattle.ngc_motors.specs.Laws.{MovedEndsFit, parts}
use Rattle.ngc_motors.specs.declared.step.MotorStep.{MotorStep}
use Rattle.ngc_motors.proofs.Quotients.{down_at_most, doubled, fits, greatest, least, minus_times, nearest_from, nearest_to, one_more, plus_times, rises, times_rises, up_at_most, up_fits}
use Rattle.ngc_motors.proofs.Sizes.{motor_step, parts_size, some_nanometres, twice_within}

-- ---- how far an end moves

-- the low end moves up, by at most a step
pub first_range : (m : MotorStep) (c : ℤ) → IsMotorStep m → (c ≤ℤ first_place m c) × (first_place m c ≤ℤ (c +ℤ pos 1099511627776))
first_range m c is =
    let some = some_nanometres m is in
    let z = parts m c in
    let k = count_up m c *ℤ pos m.nanometres in
    let above : z ≤ℤ k = up_fits m.nanometres z some in
    let below = least m.nanometres ((z +ℤ pos m.nanometres) -ℤ pos 1) some in
    let more = plus_times m.steps 1099511627776 c in
    (fits m.steps c k is.some above, down_at_most m.steps (c +ℤ pos 1099511627776) k is.some (omega (arith, ints, below, more, is.greatest, is.some)))

-- the high end moves down, by at most a step
pub last_range : (m : MotorStep) (c : ℤ) → IsMotorStep m → ((c -ℤ pos 1099511627776) ≤ℤ last_place m c) × (last_place m c ≤ℤ c)
last_range m c is =
    let some = some_nanometres m is in
    let z = parts m c in
    let k = count_down m c *ℤ pos m.nanometres in
    let below : k ≤ℤ z = least m.nanometres z some in
    let above = greatest m.nanometres z some in
    let less = minus_times m.steps 1099511627776 c in
    let f = fits m.steps (c -ℤ pos 1099511627776) k is.some (omega (arith, ints, above, less, is.greatest, is.some)) in
    let r = rises m.steps k ((k +ℤ pos m.steps) -ℤ pos 1) is.some (omega (arith, ints, is.some)) in
    (omega (arith, ints, f, r), up_at_most m.steps c k is.some below)

pub up_size : (m : MotorStep) (c : ℤ) → IsMotorStep m → unsigned_abs c ≤ 9223372036854775808 →
    unsigned_abs (count_up m c *ℤ pos m.nanometres) ≤ 20282409603651670423947251286016
up_size m c is h =
    let some = some_nanometres m is in
    let p = parts_size m c is h in
    let above = up_fits m.nanometres (parts m c) some in
    let below = least m.nanometres ((parts m c +ℤ pos m.nanometres) -ℤ pos 1) some in
    omega (arith, ints, p, above, below, is.greatest)

pub down_size : (m : MotorStep) (c : ℤ) → IsMotorStep m → unsigned_abs c ≤ 9223372036854775808 →
    unsigned_abs (count_down m c *ℤ pos m.nanometres) ≤ 20282409603651670423947251286016
down_size m c is h =
    let some = some_nanometres m is in
    let p = parts_size m c is h in
    let below = least m.nanometres (parts m c) some in
    let above = greatest m.nanometres (parts m c) some in
    omega (arith, ints, p, above, below, is.greatest)

-- ---- motors can stand there

below_next : (n : ℕ) (k z : ℤ) → 0 < n → z <ℤ ((k +ℤ pos 1) *ℤ pos n) → int_div_euclid z (pos n) ≤ℤ k
below_next n k z some h =
    let q = int_div_euclid z (pos n) in
    let l = least n z some in
    by_lt_z k q (λ above. let p = times_rises n (k +ℤ pos 1) q (omega (arith, ints, above)) in absurd (omega (arith, ints, h, l, p))) (λ below. below)

-- a number that is less than s below or above k times n has the nearest number k
nearest_below : (n s : ℕ) (k a : ℤ) → 0 < n → 2 * s ≤ n → a ≤ℤ (k *ℤ pos n) → (k *ℤ pos n) <ℤ (a +ℤ pos s) → nearest a (pos n) ≡ k
nearest_below n s k a some small high low =
    let d = doubled n k in
    let down = nearest_to n k a some high in
    let up = fits (n + n) k ((a +ℤ a) +ℤ pos n) (omega (arith, some)) (omega (arith, ints, d, low, small)) in
    omega (arith, ints, down, up)

nearest_above : (n s : ℕ) (k a : ℤ) → 0 < n → 2 * s ≤ n → (k *ℤ pos n) ≤ℤ a → a <ℤ ((k *ℤ pos n) +ℤ pos s) → nearest a (pos n) ≡ k
nearest_above n s k a some small low high =
    let d = doubled n (k +ℤ pos 1) in
    let o = one_more n k in
    let up = nearest_from n k a some low in
    let down = below_next (n + n) k ((a +ℤ a) +ℤ pos n) (omega (arith, some)) (omega (arith, ints, d, o, high, small)) in
    omega (arith, ints, down, up)

first_fits : (m : MotorStep) (c : ℤ) → IsMotorStep m → 2 * m.steps ≤ m.nanometres → place_below m (first_place m c) ≡ first_place m c
first_fits m c is small =
    let k = count_up m c in
    let z = k *ℤ pos m.nanometres in
    let l = least m.steps z is.some in
    let g = greatest m.steps z is.some in
    let same : count m (first_place m c) ≡ k = nearest_below m.nanometres m.steps k (parts m (first_place m c)) (some_nanometres m is) small l g in
    ap (λ i. int_div_euclid (i *ℤ pos m.nanometres) (pos m.steps)) same

last_fits : (m : MotorStep) (c : ℤ) → IsMotorStep m → 2 * m.steps ≤ m.nanometres → place_above m (last_place m c) ≡ last_place m c
last_fits m c is small =
    let k = count_down m c in
    let z = k *ℤ pos m.nanometres in
    let l = least m.steps ((z +ℤ pos m.steps) -ℤ pos 1) is.some in
    let u = up_fits m.steps z is.some in
    let same : count m (last_place m c) ≡ k = nearest_above m.nanometres m.steps k (parts m (last_place m c)) (some_nanometres m is) small u (omega (arith, ints, l)) in
    ap (λ i. int_div_euclid (((i *ℤ pos m.nanometres) +ℤ pos m.steps) -ℤ pos 1) (pos m.steps)) same

both_true : (a b : Bool) → a ≡ true → b ≡ true → IsTrue (a && b)
both_true a b h i = rw (h, i) refl

pub ends_law : MovedEndsFit
ends_law g m low high is motor =
    let step = motor_step g m is motor in
    let small = twice_within g m is motor in
    both_true (int_eq (place_below m (first_place m low)) (first_place m low)) (int_eq (place_above m (last_place m high)) (last_place m high))
    ((Decides-int_eq (place_below m (first_place m low)) (first_place m low)).1 (first_fits m low step small))
    ((Decides-int_eq (place_above m (last_place m high)) (last_place m high)).1 (last_fits m high step small))
