-- How far a command must move to be clear of an obstacle.
use Rattle.std.proofs.Common.{◌≡◌, ◌∙◌, ap, refl, sym, arith, true, false, ℕ, zero, suc, ◌*◌, ◌<◌, ◌≤◌, ◌/◌, ◌%◌, ◌+◌, ℤ, pos, negsuc, neg_ℤ, ◌+ℤ◌, ◌-ℤ◌, ◌*ℤ◌, ◌≤ℤ◌, unsigned_abs, List, [], ◌∷◌, Option, None, Some}
use Rattle.std.specs.Prelude.{Bool, ◌&&◌, ◌||◌, int_le, nat_le, max, min, fold, map, if◌then◌else◌}
use Rattle.std.specs.List.{list_all}
use Rattle.std.proofs.Math.Nat.{mul-le-mul_right, lt_of_mul-lt-mul_right, add-mul}
use Rattle.std.proofs.lemmas.Int.{ints}
use Rattle.std.proofs.lemmas.Grind.{div_ceil_times}
use borrow.Author.Differences.{sum_is_lem}
use Rattle.ngc_fixed_length.specs.Length.{IsStep}
use Rattle.ngc_fixed_length.specs.declared.points.GridBox.{GridBox}
use Rattle.ngc_machine_files.specs.declared.machine.Fixture.{Fixture}
use Rattle.ngc_machine_files.specs.declared.parts.Part.{Part}
use Rattle.ngc_machine_files.specs.declared.tools.Tool.{Tool}
use Rattle.ngc_collision.specs.Body.{Solid, are_apart, bodies, filled, span, stacked}
use Rattle.ngc_findings.specs.Shifts.{whole_steps, is_beside, is_past, is_passed, shifts_of, no_shifts, longest, shifts_past}
use Rattle.ngc_findings.specs.Shifts.{toward, signed, moved, ShiftIsReported, ShiftClears}
use Rattle.ngc_findings.specs.Shifts.{opposite, room_on, shift_inside, ShiftStaysInside}
use Rattle.ngc_report.specs.Printed.{PrintedIsEnough}
use Rattle.ngc_findings.specs.Rooms.{is_inside_on, room}
use Rattle.ngc_machine_files.specs.Machine.{MachineFile}
use Rattle.ngc_findings.specs.declared.margins.Axis.{Axis}
use Rattle.ngc_findings.specs.declared.margins.Axis.TheVariants.{X, Y, Z}
use Rattle.ngc_findings.specs.declared.margins.Side.{Side}
use Rattle.ngc_findings.specs.declared.margins.Side.TheVariants.{Below, Above}
use Rattle.ngc_findings.specs.declared.shifts.Shifts.{Shifts}
use Rattle.ngc_findings.proofs.Tests.{le_of, le_test, same}

-- ---- whole steps

nat_of : (m n : ℕ) → nat_le m n ≡ true → m ≤ n
nat_of m n h = grind (arith, ints)

nat_test : (m n : ℕ) → m ≤ n → nat_le m n ≡ true
nat_test m n h = grind (arith, ints)

-- a number of steps below another is a step below it at least
fewer : (a b s : ℕ) → a * s < b * s + s → a ≤ b
fewer a b s h =
    let e : a * s < (b + 1) * s = omega (arith, h, add-mul b 1 s) in
    let f : a < b + 1 = lt_of_mul-lt-mul_right s e in
    omega (arith, f)

steps_law : (s : ℕ) (z : ℤ) (n : ℕ) → 0 < s → nat_le (whole_steps (pos s) z) (n * s) ≡ int_le z (pos (n * s))
steps_law s (pos m) n some =
    let bounds = div_ceil_times m s some in
    same _ _
    (λ h. let e = nat_of _ _ h in le_test (pos m) (pos (n * s)) (omega (arith, ints, e, bounds.0)))
    (λ h. let e = le_of (pos m) (pos (n * s)) h in
    let few : m / s + min 1 (m % s) ≤ n = fewer (m / s + min 1 (m % s)) n s (omega (arith, ints, e, bounds.1)) in
    nat_test _ _ (mul-le-mul_right s few))
steps_law s (negsuc m) n some = nat_test 0 (n * s) (omega arith) ∙ sym (le_test (negsuc m) (pos (n * s)) (omega (arith, ints)))

-- ---- a box that moves

abbrev slid : Axis → ℤ → Solid → Solid
slid X d b = record {
  low = record { x = b.low.x +ℤ d; y = b.low.y; z = b.low.z };
  high = record { x = b.high.x +ℤ d; y = b.high.y; z = b.high.z };
}
slid Y d b = record {
  low = record { x = b.low.x; y = b.low.y +ℤ d; z = b.low.z };
  high = record { x = b.high.x; y = b.high.y +ℤ d; z = b.high.z };
}
slid Z d b = record {
  low = record { x = b.low.x; y = b.low.y; z = b.low.z +ℤ d };
  high = record { x = b.high.x; y = b.high.y; z = b.high.z +ℤ d };
}

less_later : (a d r : ℤ) → (a +ℤ d) -ℤ r ≡ (a -ℤ r) +ℤ d
less_later a d r = omega (arith, ints)

more_later : (a d r : ℤ) → (a +ℤ d) +ℤ r ≡ (a +ℤ r) +ℤ d
more_later a d r = omega (arith, ints)

filled_slid : (part : Part) (foot : ℤ) (axis : Axis) (d : ℤ) (b : Solid) → filled part foot (slid axis d b) ≡ slid axis d (filled part foot b)
filled_slid part foot X d b = rw (less_later b.low.x d part.radius, more_later b.high.x d part.radius) refl
filled_slid part foot Y d b = rw (less_later b.low.y d part.radius, more_later b.high.y d part.radius) refl
filled_slid part foot Z d b =
    rw (more_later b.low.z d foot, more_later b.high.z d foot, more_later (b.high.z +ℤ foot) d part.length) refl

stacked_slid : (foot : ℤ) (parts : List Part) (axis : Axis) (d : ℤ) (b : Solid) → stacked foot parts (slid axis d b) ≡ map (slid axis d) (stacked foot parts b)
stacked_slid foot [] axis d b = refl
stacked_slid foot (part ∷ parts) axis d b =
    ap (λ h. h ∷ stacked (foot +ℤ part.length) parts (slid axis d b)) (filled_slid part foot axis d b)
    ∙ ap (λ t. slid axis d (filled part foot b) ∷ t) (stacked_slid (foot +ℤ part.length) parts axis d b)

bodies_slid : (tool : Option Tool) (axis : Axis) (d : ℤ) (b : Solid) → bodies tool (slid axis d b) ≡ map (slid axis d) (bodies tool b)
bodies_slid None axis d b = refl
bodies_slid (Some tool) axis d b = stacked_slid tool.bottom tool.parts axis d b

scale-sum : (s : ℕ) (a c : ℤ) → (a +ℤ c) *ℤ pos s ≡ (a *ℤ pos s) +ℤ (c *ℤ pos s)
scale-sum s a c = let e = ap (λ t. t * s) (sum_is_lem a c) in omega (arith, ints)

times : (side : Side) (n s : ℕ) → signed side n *ℤ pos s ≡ signed side (n * s)
times Above n s = refl
times Below zero s = omega (arith, ints)
times Below (suc n) s = refl

span_moved : (s n : ℕ) (axis : Axis) (side : Side) (b : GridBox) → span (pos s) (moved axis side n b) ≡ slid axis (signed side (n * s)) (span (pos s) b)
span_moved s n X side b =
    rw (scale-sum s b.low.x (signed side n), scale-sum s b.high.x (signed side n), times side n s) refl
span_moved s n Y side b =
    rw (scale-sum s b.low.y (signed side n), scale-sum s b.high.y (signed side n), times side n s) refl
span_moved s n Z side b =
    rw (scale-sum s b.low.z (signed side n), scale-sum s b.high.z (signed side n), times side n s) refl

-- ---- one part

up_law : (high low : ℤ) (d : ℕ) → int_le (high -ℤ low) (pos d) ≡ int_le high (low +ℤ pos d)
up_law high low d =
    same _ _ (λ h. let e = le_of (high -ℤ low) (pos d) h in le_test high (low +ℤ pos d) (omega (arith, ints, e)))
    (λ h. let e = le_of high (low +ℤ pos d) h in le_test (high -ℤ low) (pos d) (omega (arith, ints, e)))

down_law : (high low : ℤ) (d : ℕ) → int_le (high -ℤ low) (pos d) ≡ int_le (high +ℤ neg_ℤ (pos d)) low
down_law high low d =
    same _ _ (λ h. let e = le_of (high -ℤ low) (pos d) h in le_test (high +ℤ neg_ℤ (pos d)) low (omega (arith, ints, e)))
    (λ h. let e = le_of (high +ℤ neg_ℤ (pos d)) low h in le_test (high -ℤ low) (pos d) (omega (arith, ints, e)))

part_on : (s n : ℕ) → 0 < s → (f : Fixture) (axis : Axis) (side : Side) (b : Solid) (beside : Bool) → is_beside axis f b ≡ beside →
    nat_le (toward axis side (shifts_of (pos s) f b)) (n * s) ≡ (beside || is_past axis side f (slid axis (signed side (n * s)) b))
part_on s n some f X Below b true h = rw h (nat_test 0 (n * s) (omega arith))
part_on s n some f X Above b true h = rw h (nat_test 0 (n * s) (omega arith))
part_on s n some f Y Below b true h = rw h (nat_test 0 (n * s) (omega arith))
part_on s n some f Y Above b true h = rw h (nat_test 0 (n * s) (omega arith))
part_on s n some f Z Below b true h = rw h (nat_test 0 (n * s) (omega arith))
part_on s n some f Z Above b true h = rw h (nat_test 0 (n * s) (omega arith))
part_on s n some f X Below b false h = rw h (steps_law s (b.high.x -ℤ f.low.x) n some ∙ down_law b.high.x f.low.x (n * s))
part_on s n some f X Above b false h = rw h (steps_law s (f.high.x -ℤ b.low.x) n some ∙ up_law f.high.x b.low.x (n * s))
part_on s n some f Y Below b false h = rw h (steps_law s (b.high.y -ℤ f.low.y) n some ∙ down_law b.high.y f.low.y (n * s))
part_on s n some f Y Above b false h = rw h (steps_law s (f.high.y -ℤ b.low.y) n some ∙ up_law f.high.y b.low.y (n * s))
part_on s n some f Z Below b false h = rw h (steps_law s (b.high.z -ℤ f.low.z) n some ∙ down_law b.high.z f.low.z (n * s))
part_on s n some f Z Above b false h = rw h (steps_law s (f.high.z -ℤ b.low.z) n some ∙ up_law f.high.z b.low.z (n * s))

-- a shift along an axis leaves a part beside the fixture
still_beside : (axis : Axis) (d : ℤ) (f : Fixture) (b : Solid) → is_beside axis f (slid axis d b) ≡ is_beside axis f b
still_beside X d f b = refl
still_beside Y d f b = refl
still_beside Z d f b = refl

part_law : (s n : ℕ) → 0 < s → (f : Fixture) (axis : Axis) (side : Side) (b : Solid) →
    nat_le (toward axis side (shifts_of (pos s) f b)) (n * s) ≡ is_passed axis side f (slid axis (signed side (n * s)) b)
part_law s n some f axis side b =
    part_on s n some f axis side b (is_beside axis f b) refl
    ∙ ap (λ t. t || is_past axis side f (slid axis (signed side (n * s)) b)) (sym (still_beside axis (signed side (n * s)) f b))

-- ---- all parts

max_law : (a b d : ℕ) → nat_le (max a b) d ≡ (nat_le a d && nat_le b d)
max_law a b d = grind (arith, ints)

longest_law : (axis : Axis) (side : Side) (p q : Shifts) (d : ℕ) →
    nat_le (toward axis side (longest p q)) d ≡ (nat_le (toward axis side p) d && nat_le (toward axis side q) d)
longest_law X Below p q d = max_law p.x.down q.x.down d
longest_law X Above p q d = max_law p.x.up q.x.up d
longest_law Y Below p q d = max_law p.y.down q.y.down d
longest_law Y Above p q d = max_law p.y.up q.y.up d
longest_law Z Below p q d = max_law p.z.down q.z.down d
longest_law Z Above p q d = max_law p.z.up q.z.up d

and_true : (p : Bool) → (p && true) ≡ p
and_true true = refl
and_true false = refl

and_assoc : (p q r : Bool) → ((p && q) && r) ≡ (p && (q && r))
and_assoc true q r = refl
and_assoc false q r = refl

parts_law : (s n : ℕ) → 0 < s → (f : Fixture) (axis : Axis) (side : Side) (most : Shifts) (bs : List Solid) →
    nat_le (toward axis side (fold longest most (map (shifts_of (pos s) f) bs))) (n * s)
    ≡ (nat_le (toward axis side most) (n * s) && list_all (is_passed axis side f) (map (slid axis (signed side (n * s))) bs))
parts_law s n some f axis side most [] = sym (and_true (nat_le (toward axis side most) (n * s)))
parts_law s n some f axis side most (b ∷ bs) =
    let rest = list_all (is_passed axis side f) (map (slid axis (signed side (n * s))) bs) in
    parts_law s n some f axis side (longest most (shifts_of (pos s) f b)) bs
    ∙ ap (λ t. t && rest) (longest_law axis side most (shifts_of (pos s) f b) (n * s))
    ∙ and_assoc (nat_le (toward axis side most) (n * s)) (nat_le (toward axis side (shifts_of (pos s) f b)) (n * s)) rest
    ∙ ap (λ t. nat_le (toward axis side most) (n * s) && (t && rest)) (part_law s n some f axis side b)

none_toward : (axis : Axis) (side : Side) (d : ℕ) → nat_le (toward axis side no_shifts) d ≡ true
none_toward X Below d = nat_test 0 d (omega arith)
none_toward X Above d = nat_test 0 d (omega arith)
none_toward Y Below d = nat_test 0 d (omega arith)
none_toward Y Above d = nat_test 0 d (omega arith)
none_toward Z Below d = nat_test 0 d (omega arith)
none_toward Z Above d = nat_test 0 d (omega arith)

tells : (s n : ℕ) → 0 < s → (tool : Option Tool) (b : GridBox) (f : Fixture) (axis : Axis) (side : Side) →
    nat_le (toward axis side (shifts_past (pos s) tool b f)) (n * s)
    ≡ list_all (is_passed axis side f) (bodies tool (span (pos s) (moved axis side n b)))
tells s n some tool b f axis side =
    let bs = bodies tool (span (pos s) b) in
    let d = signed side (n * s) in
    parts_law s n some f axis side no_shifts bs
    ∙ ap (λ t. t && list_all (is_passed axis side f) (map (slid axis d) bs)) (none_toward axis side (n * s))
    ∙ sym (ap (list_all (is_passed axis side f)) (ap (bodies tool) (span_moved s n axis side b) ∙ bodies_slid tool axis d (span (pos s) b)))

positive : (s : ℕ) → IsStep (pos s) → 0 < s
positive s k = omega (arith, ints, k.least)

pub tells_law : ShiftIsReported
tells_law (pos s) tool b f axis side n k = tells s n (positive s k) tool b f axis side
tells_law (negsuc m) tool b f axis side n k = absurd (omega (arith, ints, k.least))

-- ---- clear of the fixture

-- a part that is past the fixture or beside it is apart from it
passed_apart : (axis : Axis) (side : Side) (f : Fixture) (b : Solid) → is_passed axis side f b ≡ true → are_apart f b ≡ true
passed_apart X Below f b h = grind arith
passed_apart X Above f b h = grind arith
passed_apart Y Below f b h = grind arith
passed_apart Y Above f b h = grind arith
passed_apart Z Below f b h = grind arith
passed_apart Z Above f b h = grind arith

both : (p q : Bool) → (p && q) ≡ true → (p ≡ true) × (q ≡ true)
both true q h = (refl, h)
both false q h = absurd (grind arith)

and : (p q : Bool) → p ≡ true → q ≡ true → (p && q) ≡ true
and true q h k = k
and false q h k = h

all_apart : (axis : Axis) (side : Side) (f : Fixture) (bs : List Solid) → list_all (is_passed axis side f) bs ≡ true → list_all (are_apart f) bs ≡ true
all_apart axis side f [] h = refl
all_apart axis side f (b ∷ bs) h =
    let parts = both (is_passed axis side f b) (list_all (is_passed axis side f) bs) h in
    and (are_apart f b) (list_all (are_apart f) bs) (passed_apart axis side f b parts.0) (all_apart axis side f bs parts.1)

pub clears_law : ShiftClears
clears_law step tool b f axis side n k h =
    all_apart axis side f (bodies tool (span step (moved axis side n b)))
    (sym (tells_law step tool b f axis side n k) ∙ nat_test _ _ h)

pub printed_law : PrintedIsEnough
printed_law n = (div_ceil_times n 1000 (omega arith)).0

-- ---- inside the travel

abbrev taken : Option ℕ → ℕ
taken None = 0
taken (Some n) = n

abbrev kept : Option ℕ → Bool
kept None = false
kept (Some n) = true

fits_of : (t : Bool) (a d : ℕ) → (if t then Some a else None) ≡ Some d → (a ≡ d) × (t ≡ true)
fits_of true a d h = (ap taken h, refl)
fits_of false a d h = absurd (grind (arith, ap kept h))

inside_up : (s n : ℕ) → 0 < s → (l h least greatest : ℤ) →
    shift_inside (pos s) Below (record { below = (l *ℤ pos s) -ℤ least; above = greatest -ℤ (h *ℤ pos s) }) ≡ Some (n * s) →
    is_inside_on (record { below = ((l +ℤ pos n) *ℤ pos s) -ℤ least; above = greatest -ℤ ((h +ℤ pos n) *ℤ pos s) }) ≡ true
inside_up s n some l h least greatest is =
    let below = (l *ℤ pos s) -ℤ least in
    let above = greatest -ℤ (h *ℤ pos s) in
    let shift = whole_steps (pos s) (neg_ℤ below) in
    let fits = fits_of (int_le (pos shift) above) shift (n * s) is in
    let enough : int_le (neg_ℤ below) (pos (n * s)) ≡ true =
    sym (steps_law s (neg_ℤ below) n some) ∙ nat_test shift (n * s) (omega (arith, fits.0)) in
    let from = le_of (neg_ℤ below) (pos (n * s)) enough in
    let to = le_of (pos shift) above fits.1 in
    let low : pos 0 ≤ℤ (((l +ℤ pos n) *ℤ pos s) -ℤ least) = rw (scale-sum s l (pos n)) (omega (arith, ints, from)) in
    let high : pos 0 ≤ℤ (greatest -ℤ ((h +ℤ pos n) *ℤ pos s)) = rw (scale-sum s h (pos n)) (omega (arith, ints, to, fits.0)) in
    and _ _ (le_test (pos 0) _ low) (le_test (pos 0) _ high)

inside_down : (s n : ℕ) → 0 < s → (l h least greatest : ℤ) →
    shift_inside (pos s) Above (record { below = (l *ℤ pos s) -ℤ least; above = greatest -ℤ (h *ℤ pos s) }) ≡ Some (n * s) →
    is_inside_on
    (record { below = ((l +ℤ neg_ℤ (pos n)) *ℤ pos s) -ℤ least; above = greatest -ℤ ((h +ℤ neg_ℤ (pos n)) *ℤ pos s) })
    ≡ true
inside_down s n some l h least greatest is =
    let below = (l *ℤ pos s) -ℤ least in
    let above = greatest -ℤ (h *ℤ pos s) in
    let shift = whole_steps (pos s) (neg_ℤ above) in
    let fits = fits_of (int_le (pos shift) below) shift (n * s) is in
    let enough : int_le (neg_ℤ above) (pos (n * s)) ≡ true =
    sym (steps_law s (neg_ℤ above) n some) ∙ nat_test shift (n * s) (omega (arith, fits.0)) in
    let from = le_of (neg_ℤ above) (pos (n * s)) enough in
    let to = le_of (pos shift) below fits.1 in
    let low : pos 0 ≤ℤ (((l +ℤ neg_ℤ (pos n)) *ℤ pos s) -ℤ least) =
    rw (scale-sum s l (neg_ℤ (pos n)), times Below n s) (omega (arith, ints, to, fits.0)) in
    let high : pos 0 ≤ℤ (greatest -ℤ ((h +ℤ neg_ℤ (pos n)) *ℤ pos s)) =
    rw (scale-sum s h (neg_ℤ (pos n)), times Below n s) (omega (arith, ints, from)) in
    and _ _ (le_test (pos 0) _ low) (le_test (pos 0) _ high)

inside_on : (machine : MachineFile) (s : ℕ) → machine.step ≡ pos s → 0 < s → (b : GridBox) (axis : Axis) (side : Side) (n : ℕ) →
    shift_inside (pos s) side (room_on axis (room machine b)) ≡ Some (n * s) →
    is_inside_on (room_on axis (room machine (moved axis (opposite side) n b))) ≡ true
inside_on m s is some b X Below n h = rw is (inside_up s n some b.low.x b.high.x m.low.x m.high.x (rw is at h))
inside_on m s is some b X Above n h = rw is (inside_down s n some b.low.x b.high.x m.low.x m.high.x (rw is at h))
inside_on m s is some b Y Below n h = rw is (inside_up s n some b.low.y b.high.y m.low.y m.high.y (rw is at h))
inside_on m s is some b Y Above n h = rw is (inside_down s n some b.low.y b.high.y m.low.y m.high.y (rw is at h))
inside_on m s is some b Z Below n h = rw is (inside_up s n some b.low.z b.high.z m.low.z m.high.z (rw is at h))
inside_on m s is some b Z Above n h = rw is (inside_down s n some b.low.z b.high.z m.low.z m.high.z (rw is at h))

step_of : (step : ℤ) → IsStep step → step ≡ pos (unsigned_abs step)
step_of (pos s) k = refl
step_of (negsuc m) k = absurd (omega (arith, ints, k.least))

pub inside_law : ShiftStaysInside
inside_law m b axis side n k h =
    let is = step_of m.step k in
    let some : 0 < unsigned_abs m.step = omega (arith, ints, k.least) in
    inside_on m (unsigned_abs m.step) is some b axis side n
    (sym (ap (λ z. shift_inside z side (room_on axis (room m b))) is) ∙ h)
