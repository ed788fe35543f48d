-- The rates that a window allows.
use Rattle.std.proofs.Common.{◌≡◌, inl, inr, ℕ, zero, suc, ◌+◌, ◌-◌, ◌*◌, ◌/◌, ◌%◌, ◌^◌, ◌≤◌, ◌<◌, ◌↔◌, ◌==◌, nat_le, min, max, cond, ℤ, pos, ◌*ℤ◌, unsigned_abs, Bool, true, false, Option, Some, None, List, length, arith, refl, sym, subst, ap, ◌∙◌}
use Rattle.std.proofs.lemmas.Bool.Decides.{nat_tests}
use Rattle.std.proofs.lemmas.Bool.{cases_lt}
use Rattle.std.proofs.lemmas.Grind.{div_ceil_times}
use Rattle.std.proofs.lemmas.Int.{ints}
use Rattle.std.specs.Prelude.{◌||◌}
use Rattle.std.proofs.lemmas.Nat.{mul-le}
use Rattle.std.proofs.Math.Nat.{le-div_iff_mul-le}
use Rattle.ngc_fixed_length.specs.Limits.{MILLION}
use Rattle.ngc_fixed_length.specs.Roots.{whole_root}
use Rattle.ngc_fixed_length.proofs.RootLaws.{at_most, whole_root-greatest}
use Rattle.ngc_fixed_length.proofs.Nearest.{nearest_near}
use Rattle.ngc_fixed_length.specs.Grid.{IsInRange, greatest_distance}
use Rattle.ngc_fixed_length.specs.declared.points.Point3.{Point3}
use Rattle.ngc_fixed_length.specs.declared.points.StepPos.{StepPos}
use Rattle.ngc_machine_files.specs.Machine.{MachineFile}
use Rattle.ngc_commands.specs.declared.command.Action.{Action}
use Rattle.ngc_commands.specs.declared.command.Action.TheVariants.{Move}
use Rattle.ngc_commands.specs.declared.command.Command.{Command}
use Rattle.ngc_commands.specs.declared.movement.Way.{Way}
use Rattle.ngc_planner.proofs.HeadingLaws.{heading_small}
use Rattle.ngc_planner.specs.Headings.{IsHeading, greatest_size, in_millionths, heading_of, difference_of, difference_between, end_vector}
use Rattle.ngc_planner.specs.Window.{is_still, passing_heading}
use Rattle.ngc_planner.specs.Joints.{MayHead, may_head, greatest_root, heading_rate}

-- ---- the greatest root

-- a*a ≤ b*b
squares : (a b : ℕ) → a ≤ b → a * a ≤ b * b
squares a b h = mul-le a a b b h h

-- 4n times v*v*n ≤ j*v + t, where x is 2nv less j
completed : (n j t v x : ℕ) → 2 * n * v ≡ j + x → x * x ≤ j * j + 4 * n * t → n * (v * v * n) ≤ n * (j * v + t)
completed n j t v x e h =
    let square = ap (λ z. z * z) e in
    let part = ap (λ z. j * z) e in
    omega (arith, square, part, h)

sum_squared : (j x : ℕ) → (j + x) * (j + x) ≡ j * j + 2 * (j * x) + x * x
sum_squared j x = omega arith

twice_squared : (n v : ℕ) → (2 * n * v) * (2 * n * v) ≡ 4 * n * (v * v * n)
twice_squared n v = omega arith

four : (n t : ℕ) → 4 * n * t ≡ 4 * (n * t)
four n t = omega arith

summed : (w j p x t q u : ℕ) → w ≡ j + 2 * p + x → 2 * q ≡ j + p → w ≤ 4 * q + 4 * t → u ≡ 4 * t → x ≤ j + u
summed w j p x t q u e f h g = omega (arith, e, f, h, g)

uncompleted : (n j t v x : ℕ) → 2 * n * v ≡ j + x → v * v * n ≤ j * v + t → x * x ≤ j * j + 4 * n * t
uncompleted n j t v x e h =
    let square : (2 * n * v) * (2 * n * v) ≡ (j + x) * (j + x) = ap (λ z. z * z) e in
    let part : j * (2 * n * v) ≡ j * (j + x) = ap (λ z. j * z) e in
    let whole : 4 * n * (v * v * n) ≤ 4 * n * (j * v + t) = mul-le (4 * n) (v * v * n) (4 * n) (j * v + t) (omega arith) h in
    let sum : (j + x) * (j + x) ≡ j * j + 2 * (j * x) + x * x = sum_squared j x in
    let twice : (2 * n * v) * (2 * n * v) ≡ 4 * n * (v * v * n) = twice_squared n v in
    summed (4 * n * (v * v * n)) (j * j) (j * x) (x * x) (n * t) (n * (j * v)) (4 * n * t) (sym twice ∙ (square ∙ sum)) (omega (arith, part)) (omega (arith, whole)) (four n t)

pub less_times : (g a b : ℕ) → 0 < g → g * a ≤ g * b → a ≤ b
less_times g a b some h = grind arith

-- if 2nv is at most j
below_half : (n j t v : ℕ) → 2 * n * v ≤ j → v * v * n ≤ j * v + t
below_half n j t v h = let p = mul-le v (2 * n * v) v j (omega arith) h in omega (arith, p)

root_out : (n j t v x : ℕ) → 1 ≤ n → j * j + 4 * n * t < 4 ^ 64 → 2 * n * v ≡ j + x → x ≤ whole_root (j * j + 4 * n * t) → v * v * n ≤ j * v + t
root_out n j t v x some small e h =
    let root = whole_root-greatest (j * j + 4 * n * t) small in
    let square = squares x (whole_root (j * j + 4 * n * t)) h in
    less_times n (v * v * n) (j * v + t) some (completed n j t v x e (omega (arith, square, root.square)))

root_in : (n j t v x : ℕ) → j * j + 4 * n * t < 4 ^ 64 → 2 * n * v ≡ j + x → v * v * n ≤ j * v + t → x ≤ whole_root (j * j + 4 * n * t)
root_in n j t v x small e h =
    let root = whole_root-greatest (j * j + 4 * n * t) small in
    at_most (j * j + 4 * n * t) x (whole_root (j * j + 4 * n * t)) (uncompleted n j t v x e h) root.greatest

either_out : (low : Bool) (n j t v : ℕ) → low ≡ nat_le (2 * n * v) j → 1 ≤ n → j * j + 4 * n * t < 4 ^ 64 → 2 * n * v ≤ j + whole_root (j * j + 4 * n * t) → v * v * n ≤ j * v + t
either_out true n j t v test some small h = below_half n j t v (grind (arith, nat_tests))
either_out false n j t v test some small h =
    let above : j < 2 * n * v = grind (arith, nat_tests) in
    root_out n j t v (2 * n * v - j) some small (omega (arith, above)) (omega (arith, h, above))

either_in : (low : Bool) (n j t v : ℕ) → low ≡ nat_le (2 * n * v) j → j * j + 4 * n * t < 4 ^ 64 → v * v * n ≤ j * v + t → 2 * n * v ≤ j + whole_root (j * j + 4 * n * t)
either_in true n j t v test small h = let below : 2 * n * v ≤ j = grind (arith, nat_tests) in omega (arith, below)
either_in false n j t v test small h =
    let above : j < 2 * n * v = grind (arith, nat_tests) in
    let within = root_in n j t v (2 * n * v - j) small (omega (arith, above)) h in
    omega (arith, within, above)

times : (n v : ℕ) → v * (2 * n) ≡ 2 * n * v
times n v = omega arith

-- the greatest root is the greatest v with v*v*n ≤ j*v + t
root_law : (n j t v : ℕ) → 1 ≤ n → j * j + 4 * n * t < 4 ^ 64 → (v ≤ greatest_root n j t) ↔ (v * v * n ≤ j * v + t)
root_law n j t v some small =
    let s = j + whole_root (j * j + 4 * n * t) in
    let quotient = le-div_iff_mul-le {k = 2 * n} {x = v} {y = s} (omega arith) in (
      λ h. (let p = quotient.0 h in either_out (nat_le (2 * n * v) j) n j t v refl some small (omega (arith, p, times n v))),
      λ h. (let p = either_in (nat_le (2 * n * v) j) n j t v refl small h in quotient.1 (omega (arith, p, times n v))),
    )

-- ---- the greatest rate

-- if a million is not allowed, the root is within 128 bits
root_bits : (n j t : ℕ) → n ≤ 2000000 → MILLION * j + t < MILLION * MILLION * n → j * j + 4 * n * t < 4 ^ 64
root_bits n j t few over =
    let jump : j ≤ MILLION * n = omega (arith, over) in
    let j_most : j ≤ 2000000000000 = omega (arith, jump, few) in
    let t_most : t ≤ 2000000000000000000 = omega (arith, over, few) in
    let square = squares j 2000000000000 j_most in
    let product = mul-le (4 * n) t 8000000 2000000000000000000 (omega (arith, few)) t_most in
    omega (arith, square, product)

-- the allowed rates extend from 0 up
lower_by : (slow : Bool) (jump turn n way v w : ℕ) → slow ≡ nat_le (v * n) (MILLION * jump) → v ≤ w → MayHead jump turn n way w → MayHead jump turn n way v
lower_by true jump turn n way v w test less h =
    let slow : v * n ≤ MILLION * jump = grind (arith, nat_tests) in
    let p = mul-le v (v * n) v (MILLION * jump) (omega arith) slow in
    omega (arith, p)
lower_by false jump turn n way v w test less h =
    let fast : MILLION * jump < v * n = grind (arith, nat_tests) in
    let x = v * n - MILLION * jump in
    let e : v * n ≡ MILLION * jump + x = omega (arith, fast) in
    let more : MILLION * jump + x ≤ w * n = omega (arith, e, mul-le v n w n less (omega arith)) in
    let here = ap (λ z. v * z) e in
    let there = mul-le w (MILLION * jump + x) w (w * n) (omega arith) more in
    let rest = mul-le v x w x less (omega arith) in
    omega (arith, here, there, rest, h)

-- each rate below an allowed one is allowed
lower : (jump turn n way v w : ℕ) → v ≤ w → MayHead jump turn n way w → MayHead jump turn n way v
lower jump turn n way v w less h = lower_by (nat_le (v * n) (MILLION * jump)) jump turn n way v w refl less h

below_top : (v top most : ℕ) → v ≤ most → (top ≤ most → ⊥) → v ≤ top
below_top v top most h over = elim (cases_lt most top) [ inl less ↦ omega (arith, h, less) | inr more ↦ absurd (over more) ]

rate_by : (all : Bool) (jump turn n way v : ℕ) → all ≡ may_head jump turn n way MILLION → n ≤ 2000000 →
    (v ≤ cond all MILLION (greatest_root n (MILLION * jump) (turn * way))) ↔ ((v ≤ MILLION) × MayHead jump turn n way v)
rate_by true jump turn n way v test few =
    let may : MayHead jump turn n way MILLION = grind (arith, nat_tests) in
    (λ h. (h, lower jump turn n way v MILLION h may), λ h. h.0)
rate_by false jump turn n way v test few =
    let over : MILLION * (jump * MILLION) + turn * way < MILLION * MILLION * n = grind (arith, nat_tests) in
    let j = MILLION * jump in
    let t = turn * way in
    let some : 1 ≤ n = omega (arith, over) in
    let bits = root_bits n j t few (omega (arith, over)) in
    let law = root_law n j t v some bits in
    let top = root_law n j t MILLION some bits in (
      λ h. (let may = law.0 h in
          let within : v ≤ MILLION = below_top v MILLION (greatest_root n j t) h (λ g. (let all = top.0 g in absurd (omega (arith, all, over)))) in
          (within, omega (arith, may))),
      λ h. law.1 (omega (arith, h.1)),
    )

-- the greatest rate is the greatest allowed one up to a million
pub rate_law : (jump turn n way v : ℕ) → n ≤ 2000000 → (v ≤ heading_rate jump turn n way) ↔ ((v ≤ MILLION) × MayHead jump turn n way v)
rate_law jump turn n way v few = rate_by (may_head jump turn n way MILLION) jump turn n way v refl few

-- ---- a rate that is lowered to it

pub may_out : (jump turn n way v : ℕ) → may_head jump turn n way v ≡ true → MayHead jump turn n way v
may_out jump turn n way v h = grind (arith, nat_tests)

may_not_out : (jump turn n way v : ℕ) → may_head jump turn n way v ≡ false → MILLION * (jump * v) + turn * way < v * v * n
may_not_out jump turn n way v h = grind (arith, nat_tests)

pub lowered_keeps : (jump turn n way v : ℕ) → n ≤ 2000000 → v ≤ MILLION → may_head jump turn n way v ≡ true → v ≡ min v (heading_rate jump turn n way)
lowered_keeps jump turn n way v few small h =
    let most = (rate_law jump turn n way v few).1 (small, may_out jump turn n way v h) in
    omega (arith, most)

-- the greatest allowed rate is below one that isn't allowed
below_refused : (jump turn n way v : ℕ) → n ≤ 2000000 → may_head jump turn n way v ≡ false → heading_rate jump turn n way < v
below_refused jump turn n way v few h =
    let over = may_not_out jump turn n way v h in
    elim (cases_lt (heading_rate jump turn n way) v) [
      | inl below ↦ below
      | inr more ↦ absurd (let may = ((rate_law jump turn n way v few).0 more).1 in omega (arith, may, over))
    ]

-- a step of Newton's method: from v + d, where g is beyond what is allowed and s is the slope, it isn't past v
no_farther : (n j t v d g s : ℕ) → g + (j * (v + d) + t) ≡ (v + d) * (v + d) * n → s + j ≡ 2 * ((v + d) * n) → v * v * n ≤ j * v + t → g ≤ d * s
no_farther n j t v d g s e f h = let part = ap (λ z. d * z) f in omega (arith, e, part, h)

-- the slope isn't 0
is_steep : (n j t r : ℕ) → j * r + t < r * r * n → j < r * n
is_steep n j t zero h = absurd (omega (arith, h))
is_steep n j t (suc r) h = elim (cases_lt j (suc r * n)) [
  | inl less ↦ less
  | inr more ↦ absurd (let p = mul-le (suc r) (suc r * n) (suc r) j (omega arith) more in omega (arith, p, h))
]

-- one step from r, where g is beyond what is allowed and s is the slope
pub newton : (jump turn n way r g s : ℕ) → n ≤ 2000000 → may_head jump turn n way r ≡ false → g + (MILLION * jump * r + turn * way) ≡ r * r * n →
    s + MILLION * jump ≡ 2 * (r * n) → 0 < s → heading_rate jump turn n way + g / s ≤ r
newton jump turn n way r g s few over e f some =
    let v = heading_rate jump turn n way in
    let below = below_refused jump turn n way r few over in
    let may = ((rate_law jump turn n way v few).0 (omega arith)).1 in
    let d = r - v in
    let r_is : r ≡ v + d = omega (arith, below) in
    let g_is = subst (λ z. g + (MILLION * jump * z + turn * way) ≡ z * z * n) r_is e in
    let s_is = subst (λ z. s + MILLION * jump ≡ 2 * (z * n)) r_is f in
    let farther = no_farther n (MILLION * jump) (turn * way) v d g s g_is s_is (omega (arith, may)) in
    let least = (le-div_iff_mul-le {k = s} {x = g / s} {y = g} some).0 (omega arith) in
    let quotient : g / s ≤ d = less_times s (g / s) d some (omega (arith, least, farther)) in
    omega (arith, quotient, r_is)

-- what isn't allowed at r, and the slope there
pub record IsOver (j t n r : ℕ) : Type 0 where
  pub over : j * r + t < r * r * n
  pub steep : j < r * n

pub is_over : (jump turn n way r : ℕ) → may_head jump turn n way r ≡ false → IsOver (MILLION * jump) (turn * way) n r
is_over jump turn n way r h =
    let over = may_not_out jump turn n way r h in
    let sum : MILLION * jump * r + turn * way < r * r * n = omega (arith, over) in
    record { over = sum; steep = is_steep n (MILLION * jump) (turn * way) r sum }

-- the whole step, of at least 1: g is what is wanted less what is allowed
pub stepped : (jump turn n way r g q : ℕ) → n ≤ 2000000 → may_head jump turn n way r ≡ false → g ≡ r * r * n - MILLION * jump * r - turn * way →
    q ≡ max (g / (2 * (r * n) - MILLION * jump)) 1 → heading_rate jump turn n way + q ≤ r
stepped jump turn n way r g q few over g_is q_is =
    let o = is_over jump turn n way r over in
    let below = below_refused jump turn n way r few over in
    let sum = newton jump turn n way r g (2 * (r * n) - MILLION * jump) few over (omega (arith, g_is, o.over)) (omega (arith, o.steep)) (omega (arith, o.steep)) in
    omega (arith, q_is, sum, below)

-- ---- path steps

pub apart : (p q : StepPos) → IsInRange p → IsInRange q → greatest_distance p q ≤ 400000000
apart p q a b = omega (arith, ints, a.x, a.y, a.z, b.x, b.y, b.z)

-- ---- headings

in_millionths_small : (g : ℕ) (x : ℤ) → 0 < g → unsigned_abs x ≤ g → unsigned_abs (in_millionths g x) ≤ MILLION
in_millionths_small g x some small = heading_small g x (in_millionths g x) some small (nearest_near (x *ℤ pos MILLION) g some)

heading_by : (none : Bool) (p d : Point3) → none ≡ (greatest_size p == 0) →
    cond none None (Some (record { x = in_millionths (greatest_size p) p.x; y = in_millionths (greatest_size p) p.y; z = in_millionths (greatest_size p) p.z })) ≡ Some d → IsHeading d
heading_by true p d test h = cc
heading_by false p d test h =
    let g = greatest_size p in
    let some : 0 < g = grind (arith, nat_tests) in
    let same : (let q : Point3 = record { x = in_millionths g p.x; y = in_millionths g p.y; z = in_millionths g p.z } in q) ≡ d = cc in
    subst (λ q. IsHeading q) same (record {
      x = in_millionths_small g p.x some (omega arith);
      y = in_millionths_small g p.y some (omega arith);
      z = in_millionths_small g p.z some (omega arith);
    })

pub heading_is : (p d : Point3) → heading_of p ≡ Some d → IsHeading d
heading_is p d h = heading_by (greatest_size p == 0) p d refl h

pub difference_small : (d e : Point3) → IsHeading d → IsHeading e → difference_of d e ≤ 2000000
difference_small d e p q = omega (arith, ints, p.x, p.y, p.z, q.x, q.y, q.z)

passing_by : (ends : Bool) (p d : Point3) → cond ends None (heading_of p) ≡ Some d → IsHeading d
passing_by true p d h = cc
passing_by false p d h = heading_is p d h

pub passing_is : (m : MachineFile) (a : Action) (d : Point3) → passing_heading m a ≡ Some d → IsHeading d
passing_is m (Move k) d h = passing_by (k.stop || is_still m k.way) (end_vector k.way) d h
passing_is m _ d h = cc

between_by : (s t : Option Point3) → ((d : Point3) → s ≡ Some d → IsHeading d) → ((d : Point3) → t ≡ Some d → IsHeading d) → difference_between s t ≤ 2000000
between_by (Some d) (Some e) p q = difference_small d e (p d refl) (q e refl)
between_by (Some d) None p q = omega arith
between_by None t p q = omega arith

pub between_small : (p q : Point3) → difference_between (heading_of p) (heading_of q) ≤ 2000000
between_small p q = between_by (heading_of p) (heading_of q) (λ d h. heading_is p d h) (λ d h. heading_is q d h)

-- n millionths of r nanometres in steps of g, rounded up
pub round_small : (n r g q : ℕ) → n ≤ 2000000 → r ≤ 2000020000 → 500 ≤ g → g ≤ 50000 → q ≡ n * r / g + min 1 (n * r % g) → q ≤ 400000000000000
round_small n r g q few near least greatest is =
    let whole = mul-le n r 2000000 2000020000 few near in
    let times = (div_ceil_times (n * r) g (omega (arith, least))).1 in
    let some : q * 500 ≤ q * g = mul-le q 500 q g (omega arith) least in
    let rounded : q * g < n * r + g = rw is times in
    omega (arith, whole, some, rounded, greatest)
