-- Counts fit in 32 bits.
use Rattle.std.proofs.Common.{◌≡◌, true, false, ℕ, zero, suc, ◌+◌, ◌*◌, ◌<◌, ◌≤◌, arith, ℤ, pos, negsuc, ◌+ℤ◌, ◌-ℤ◌, ◌*ℤ◌, ◌≤ℤ◌, unsigned_abs, ap, sym, refl, ◌∙◌}
use Rattle.std.specs.Prelude.{◌==◌, int_le, neg_ℤ, nat_le, nat_lt, IsTrue, ◌&&◌}
use Rattle.std.specs.Ordering.{int_eq}
use Rattle.std.proofs.lemmas.Bool.{and_parts, eqb-true, leb-true, ltb-true}
use Rattle.std.proofs.lemmas.Bool.Decides.{Decides-int_eq}
use Rattle.std.proofs.lemmas.Int.{ints, unsigned_abs-mul}
use Rattle.std.proofs.lemmas.Nat.{mul-le}
use Rattle.ngc_fixed_length.specs.Length.{IsStep}
use Rattle.ngc_motors.specs.Counts.{IsMotorStep, commanded_parts, count, is_grid_step, is_motor, place_above, place_below, whole_step}
use Rattle.ngc_motors.specs.Laws.{parts}
use Rattle.ngc_motors.specs.declared.step.MotorStep.{MotorStep}
use Rattle.ngc_motors.proofs.Quotients.{nearest_from, nearest_to, whole_law}

-- ---- a motor on a grid

below_of : (a b : ℤ) → int_le a b ≡ true → a ≤ℤ b
below_of a b h = grind (arith, ints)

pub record IsOnGrid (g : ℤ) (m : MotorStep) : Type 0 where
  pub some : 0 < m.steps
  pub bound : m.nanometres ≤ 1099511627776
  pub least : (g *ℤ pos m.steps) ≤ℤ pos m.nanometres
  pub most : m.nanometres ≤ 1000000 * m.steps

pub on_grid : (g : ℤ) (m : MotorStep) → IsTrue (is_motor g m) → IsOnGrid g m
on_grid g m h =
    let (three, most) = and_parts _ (nat_le m.nanometres (1000000 * m.steps)) h in
    let (two, least) = and_parts _ (int_le (g *ℤ pos m.steps) (pos m.nanometres)) three in
    let (some, bound) = and_parts (nat_lt 0 m.steps) (nat_le m.nanometres 1099511627776) two in
    record {
      some = ltb-true _ _ some;
      bound = leb-true _ _ bound;
      least = below_of _ _ least;
      most = leb-true _ _ most;
    }

longer : (g : ℤ) (s n : ℕ) → IsStep g → (g *ℤ pos s) ≤ℤ pos n → s ≤ n
longer (pos g) s n is h =
    let p = mul-le 1 s g s (omega (arith, ints, is.least)) (omega arith) in omega (arith, ints, h, p)
longer (negsuc g) s n is h = absurd (omega (arith, ints, is.least))

pub motor_step : (g : ℤ) (m : MotorStep) → IsStep g → IsTrue (is_motor g m) → IsMotorStep m
motor_step g m is h =
    let on = on_grid g m h in
    record { some = on.some; least = longer g m.steps m.nanometres is on.least; greatest = on.bound }

twice : (g : ℤ) (s n : ℕ) → IsStep g → (g *ℤ pos s) ≤ℤ pos n → 2 * s ≤ n
twice (pos g) s n is h =
    let p = mul-le 2 s g s (omega (arith, ints, is.least)) (omega arith) in omega (arith, ints, h, p)
twice (negsuc g) s n is h = absurd (omega (arith, ints, is.least))

pub twice_within : (g : ℤ) (m : MotorStep) → IsStep g → IsTrue (is_motor g m) → 2 * m.steps ≤ m.nanometres
twice_within g m is h = twice g m.steps m.nanometres is (on_grid g m h).least

pub some_nanometres : (m : MotorStep) → IsMotorStep m → 0 < m.nanometres
some_nanometres m is = omega (arith, is.some, is.least)

-- ---- counts of places

-- what is at most k in size is at most k times n in parts, if a part is at least the n-th of one
pub record AreWithin (k s n : ℕ) (place : ℤ) : Type 0 where
  pub high : (place *ℤ pos s) ≤ℤ (pos k *ℤ pos n)
  pub low : (negsuc k *ℤ pos n) ≤ℤ (place *ℤ pos s)
  pub least : (pos 0 -ℤ pos (k * n)) ≤ℤ (place *ℤ pos s)

pub parts_within : (k s n : ℕ) (place : ℤ) → s ≤ n → unsigned_abs place ≤ k → AreWithin k s n place
parts_within k s n (pos p) less h =
    let l = mul-le p s k n (omega (arith, ints, h)) less in
    record { high = omega (arith, ints, l); low = omega (arith, ints); least = omega (arith, ints) }
parts_within k s n (negsuc p) less h =
    let l = mul-le (suc p) s k n (omega (arith, ints, h)) less in
    let e : suc k * n ≡ k * n + n = omega arith in
    record { high = omega (arith, ints); low = omega (arith, ints, l, e); least = omega (arith, ints, l) }

pub product_size : (z : ℤ) (n k j : ℕ) → unsigned_abs z ≤ k → n ≤ j → unsigned_abs (z *ℤ pos n) ≤ k * j
product_size z n k j h i = rw (unsigned_abs-mul z (pos n)) (mul-le (unsigned_abs z) n k j h i)

-- the parts and the counts of places of 64 bits
pub parts_size : (m : MotorStep) (place : ℤ) → IsMotorStep m → unsigned_abs place ≤ 9223372036854775808 → unsigned_abs (parts m place) ≤ 10141204801825835211973625643008
parts_size m place is h = product_size place m.steps 9223372036854775808 1099511627776 h (omega (arith, is.least, is.greatest))

pub count_size : (m : MotorStep) (place : ℤ) → IsMotorStep m → unsigned_abs place ≤ 9223372036854775808 → unsigned_abs (count m place) ≤ 9223372036854775809
count_size m place is h =
    let some = some_nanometres m is in
    let w = parts_within 9223372036854775808 m.steps m.nanometres place is.least h in
    let high = nearest_to m.nanometres (pos 9223372036854775808) (parts m place) some w.high in
    let low = nearest_from m.nanometres (negsuc 9223372036854775808) (parts m place) some w.low in
    omega (arith, ints, high, low)

-- ---- grid points of 32 bits

pub record IsPlace (p : ℤ) : Type 0 where
  pub least : negsuc 2147483647 ≤ℤ p
  pub greatest : p ≤ℤ pos 2147483647

pub place_small : (p g : ℤ) → IsPlace p → IsStep g → unsigned_abs (p *ℤ g) ≤ 200000000000000
place_small (pos p) (pos g) place grid =
    let l = mul-le p g 2147483648 50000 (omega (arith, ints, place.greatest)) (omega (arith, ints, grid.greatest)) in omega (arith, ints, l)
place_small (negsuc p) (pos g) place grid =
    let l = mul-le (suc p) g 2147483648 50000 (omega (arith, ints, place.least)) (omega (arith, ints, grid.greatest)) in omega (arith, ints, l)
place_small p (negsuc g) place grid = absurd (omega (arith, ints, grid.least))

minus_parts : (n s : ℕ) → neg_ℤ (pos n) *ℤ pos s ≡ neg_ℤ (pos (n * s))
minus_parts zero s = omega (arith, ints)
minus_parts (suc n) s = refl

-- a place in steps of the grid isn't farther than as many motor steps
record IsNoFarther (p g : ℤ) (s n : ℕ) : Type 0 where
  high : ((p *ℤ g) *ℤ pos s) ≤ℤ (pos 2147483647 *ℤ pos n)
  low : (negsuc 2147483647 *ℤ pos n) ≤ℤ ((p *ℤ g) *ℤ pos s)

no_farther : (p g : ℤ) (s n : ℕ) → IsPlace p → IsStep g → (g *ℤ pos s) ≤ℤ pos n → IsNoFarther p g s n
no_farther (pos p) (pos g) s n place grid h =
    let l = mul-le p (g * s) 2147483647 n (omega (arith, ints, place.greatest)) (omega (arith, ints, h)) in
    let e : p * g * s ≡ p * (g * s) = grind arith in
    record { high = omega (arith, ints, l, e); low = omega (arith, ints) }
no_farther (negsuc p) (pos g) s n place grid h =
    let l = mul-le (suc p) (g * s) 2147483648 n (omega (arith, ints, place.least)) (omega (arith, ints, h)) in
    let e : suc p * g * s ≡ suc p * (g * s) = grind arith in
    let f : (negsuc p *ℤ pos g) *ℤ pos s ≡ neg_ℤ (pos (suc p * g * s)) = minus_parts (suc p * g) s in
    record { high = omega (arith, ints, f); low = omega (arith, ints, l, e, f) }
no_farther p (negsuc g) s n place grid h = absurd (omega (arith, ints, grid.least))

pub count_place : (p g : ℤ) (m : MotorStep) → IsPlace p → IsStep g → IsTrue (is_motor g m) → IsPlace (count m (p *ℤ g))
count_place p g m place grid motor =
    let on = on_grid g m motor in
    let some = some_nanometres m (motor_step g m grid motor) in
    let b = no_farther p g m.steps m.nanometres place grid on.least in
    record {
      least = nearest_from m.nanometres (negsuc 2147483647) (parts m (p *ℤ g)) some b.low;
      greatest = nearest_to m.nanometres (pos 2147483647) (parts m (p *ℤ g)) some b.high;
    }

-- ---- motors with the step of the grid

times_one : (z : ℤ) → z *ℤ pos 1 ≡ z
times_one (pos z) = omega (arith, ints)
times_one (negsuc z) = omega (arith, ints)

record IsGridStep (g : ℤ) (m : MotorStep) : Type 0 where
  steps : m.steps ≡ 1
  nanometres : g ≡ pos m.nanometres

grid_step : (g : ℤ) (m : MotorStep) → is_grid_step g m ≡ true → IsGridStep g m
grid_step g m h =
    let (one, same) = and_parts (m.steps == 1) (int_eq g (pos m.nanometres)) h in
    record { steps = eqb-true _ _ one; nanometres = (Decides-int_eq g (pos m.nanometres)).0 same }

-- the parts of a grid point are whole steps of the motor
pub grid_parts : (p g : ℤ) (m : MotorStep) → is_grid_step g m ≡ true → parts m (p *ℤ g) ≡ p *ℤ pos m.nanometres
grid_parts p g m h =
    let is = grid_step g m h in
    ap (λ s. (p *ℤ g) *ℤ pos s) is.steps ∙ times_one (p *ℤ g) ∙ ap (λ z. p *ℤ z) is.nanometres

-- they count its points, and stand there
pub count_same : (p g : ℤ) (m : MotorStep) → IsStep g → is_grid_step g m ≡ true → count m (p *ℤ g) ≡ p
count_same p g m grid h =
    whole_law m p (p *ℤ g) (omega (arith, ints, grid.least, (grid_step g m h).nanometres)) (grid_parts p g m h)

-- a step of whole nanometres is that of the grid with it
pub whole_is_grid : (g : ℤ) → IsStep g → is_grid_step g (whole_step (unsigned_abs g)) ≡ true
whole_is_grid (pos g) is = (Decides-int_eq (pos g) (pos g)).1 refl
whole_is_grid (negsuc g) is = absurd (omega (arith, ints, is.least))
