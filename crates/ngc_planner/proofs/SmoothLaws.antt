-- Where a path is smooth, a window allows each rate that the turns of the axes allow.
use Rattle.std.proofs.Common.{◌≡◌, ◌⊎◌, inl, inr, ℕ, ◌+◌, ◌*◌, ◌≤◌, ◌<◌, ◌==◌, min, max, cond, ℤ, pos, ◌*ℤ◌, ◌-ℤ◌, unsigned_abs, Bool, true, false, Option, Some, None, List, [], ◌∷◌, arith, refl, sym, subst, ap, ◌∙◌}
use Rattle.std.specs.Prelude.{◌||◌}
use Rattle.std.proofs.lemmas.Grind.{div_ceil_times}
use Rattle.std.proofs.lemmas.Bool.{cases_lt}
use Rattle.std.proofs.lemmas.Bool.Decides.{nat_tests}
use Rattle.std.proofs.lemmas.Int.{ints, unsigned_abs-mul}
use Rattle.std.proofs.lemmas.Nat.{mul-le}
use Rattle.ngc_fixed_length.specs.Limits.{MILLION}
use Rattle.ngc_fixed_length.specs.Grid.{distance}
use Rattle.ngc_fixed_length.proofs.Nearest.{nearest_near}
use Rattle.ngc_fixed_length.specs.Places.{from, height, at_height, zero_point}
use Rattle.ngc_fixed_length.specs.declared.modes.Plane.{Plane}
use Rattle.ngc_fixed_length.specs.declared.modes.Plane.TheVariants.{XY, ZX, YZ}
use Rattle.ngc_fixed_length.specs.declared.points.Point2.{Point2}
use Rattle.ngc_fixed_length.specs.declared.points.Point3.{Point3}
use Rattle.ngc_arc_geometry.specs.Shape.{ArcShape, start_of, end_of}
use Rattle.ngc_arc_geometry.specs.Radii.{inner_radius}
use Rattle.ngc_machine_files.specs.Machine.{MachineFile}
use Rattle.ngc_machine_files.specs.MachineRanges.{IsMachine}
use Rattle.ngc_machine_files.specs.declared.machine.AxisTurns.{AxisTurns}
use Rattle.ngc_commands.specs.declared.command.Action.TheVariants.{Move}
use Rattle.ngc_commands.specs.declared.command.Command.{Command}
use Rattle.ngc_commands.specs.declared.movement.Motion.{Motion}
use Rattle.ngc_commands.specs.declared.movement.Way.{Way}
use Rattle.ngc_commands.specs.declared.movement.Way.TheVariants.{Line, Arc}
use Rattle.ngc_planner.proofs.HeadingLaws.{few_times}
use Rattle.ngc_planner.proofs.TurnLaws.{differences_small, axes_rate_law}
use Rattle.ngc_planner.proofs.WindowLaws.{less_times, difference_small, heading_is}
use Rattle.ngc_planner.specs.Bounds.{MayTurnOn}
use Rattle.ngc_planner.proofs.BoundLaws.{arc_turn_range}
use Rattle.ngc_planner.specs.Headings.{IsHeading, greatest_size, in_millionths, heading_of, turned, is_level, arc_vector, differences, difference_of, difference_between, is_below_half, turned_on, start_vector, end_vector, start_heading, end_heading}
use Rattle.ngc_planner.specs.Joints.{AxesMayHead, rate_from_all}
use Rattle.ngc_planner.specs.Smooth.{LeadsTo, LeadSmoothlyTo, IsFreeWhereSmooth}
use Rattle.ngc_planner.specs.Turns.{axis_turns, plane_turn, arc_turn}
use Rattle.ngc_planner.specs.Window.{Passed, is_still, way_at_greatest, way_round, turn_way, way_of, passing_heading, way_on, passed_with, passed_on}

-- ---- differences of headings

apart_by : (x y z : ℤ) → distance x z ≤ distance x y + distance y z
apart_by x y z = omega (arith, ints)

none_apart : (x : ℤ) → distance x x ≡ 0
none_apart x = omega (arith, ints)

-- over this distance the turn of each axis allows the rate v to turn from d to e
pub record AxesTurn (turns : AxisTurns) (v : ℕ) (d e : Point3) (way : ℕ) : Type 0 where
  pub x : v * v * distance d.x e.x ≤ turns.x * way
  pub y : v * v * distance d.y e.y ≤ turns.y * way
  pub z : v * v * distance d.z e.z ≤ turns.z * way

no_turn : (v turn way : ℕ) (x : ℤ) → v * v * distance x x ≤ turn * way
no_turn v turn way x = rw (none_apart x) (omega arith)

none_turned : (turns : AxisTurns) (v : ℕ) (d : Point3) (way : ℕ) → AxesTurn turns v d d way
none_turned turns v d way = record { x = no_turn v turns.x way d.x; y = no_turn v turns.y way d.y; z = no_turn v turns.z way d.z }

axis_farther : (v turn w way : ℕ) (c d e : ℤ) → v * v * distance c d ≤ turn * w → v * v * distance d e ≤ turn * way → v * v * distance c e ≤ turn * (way + w)
axis_farther v turn w way c d e first near =
    let whole = mul-le (v * v) (distance c e) (v * v) (distance c d + distance d e) (omega arith) (apart_by c d e) in
    omega (arith, whole, first, near)

farther : (turns : AxisTurns) (v : ℕ) (c d e : Point3) (w way : ℕ) → AxesTurn turns v c d w → AxesTurn turns v d e way → AxesTurn turns v c e (way + w)
farther turns v c d e w way first near = record {
  x = axis_farther v turns.x w way c.x d.x e.x first.x near.x;
  y = axis_farther v turns.y w way c.y d.y e.y first.y near.y;
  z = axis_farther v turns.z w way c.z d.z e.z first.z near.z;
}

-- ---- the distance that a turn needs

-- v*v*g ≤ turn*r, and n*r fits into way times g
round_way : (v g turn r n way : ℕ) → 0 < g → v * v * g ≤ turn * r → n * r ≤ way * g → v * v * n ≤ turn * way
round_way v g turn r n way some h fits =
    let a : n * (v * v * g) ≤ n * (turn * r) = mul-le n (v * v * g) n (turn * r) (omega arith) h in
    let b : turn * (n * r) ≤ turn * (way * g) = mul-le turn (n * r) turn (way * g) (omega arith) fits in
    less_times g (v * v * n) (turn * way) some (omega (arith, a, b))

greatest_way : (v m n turn way : ℕ) → v ≤ m → n * (m * m) ≤ way * turn → v * v * n ≤ turn * way
greatest_way v m n turn way h fits =
    let a : v * v ≤ m * m = mul-le v v m m h h in
    let b : n * (v * v) ≤ n * (m * m) = mul-le n (v * v) n (m * m) (omega arith) a in
    omega (arith, b, fits)

either_way : (x turn a b : ℕ) → x ≤ turn * a → x ≤ turn * b → (min a b ≡ a) ⊎ (min a b ≡ b) → x ≤ turn * min a b
either_way x turn a b p q (inl e) = rw e p
either_way x turn a b p q (inr e) = rw e q

which : (a b : ℕ) → (min a b ≡ a) ⊎ (min a b ≡ b)
which a b = elim (cases_lt a b) [ inl less ↦ inl (omega (arith, less)) | inr more ↦ inr (omega (arith, more)) ]

turn_allowed : (m : MachineFile) (a : ArcShape) (v : ℕ) → IsMachine m → v ≤ m.max_rate → MayTurnOn m (Arc a) v → v * v * turned_on a ≤ arc_turn m a * turn_way m a
turn_allowed m a v ranges most turns =
    let g = unsigned_abs m.step in
    let some : 0 < g = omega (arith, ints, ranges.step.least) in
    let r = max (inner_radius a) g in
    let n = turned_on a in
    let t = arc_turn m a in
    let round = round_way v g t r n (way_round m a n) some turns (div_ceil_times (n * r) g some).0 in
    let greatest = greatest_way v m.max_rate n t (way_at_greatest m a n) most (div_ceil_times (n * (m.max_rate * m.max_rate)) t (omega (arith, (arc_turn_range m a ranges).least))).0 in
    either_way (v * v * n) t (way_round m a n) (way_at_greatest m a n) round greatest (which (way_round m a n) (way_at_greatest m a n))

-- ---- an arc without height moves no third axis

none_in_millionths : (g : ℕ) (x : ℤ) → 0 < g → x ≡ pos 0 → unsigned_abs (in_millionths g x) ≤ 0
none_in_millionths g x some none =
    let r = in_millionths g x in
    let near : 2 * unsigned_abs ((x *ℤ pos MILLION) -ℤ (r *ℤ pos g)) ≤ g = nearest_near (x *ℤ pos MILLION) g some in
    let size : unsigned_abs (r *ℤ pos g) ≡ unsigned_abs r * g = unsigned_abs-mul r (pos g) in
    let flat : x *ℤ pos MILLION ≡ pos 0 = omega (arith, ints, none) in
    let far : 2 * unsigned_abs (r *ℤ pos g) ≤ g = omega (arith, ints, near, flat) in
    few_times 0 g (unsigned_abs r) some (omega (arith, size, far))

abbrev scaled : ℕ → Point3 → Point3
scaled g p = record { x = in_millionths g p.x; y = in_millionths g p.y; z = in_millionths g p.z }

scaled_flat : (plane : Plane) (g : ℕ) (p : Point3) → 0 < g → height plane p ≡ pos 0 → unsigned_abs (height plane (scaled g p)) ≤ 0
scaled_flat XY g p some flat = none_in_millionths g p.z some flat
scaled_flat ZX g p some flat = none_in_millionths g p.y some flat
scaled_flat YZ g p some flat = none_in_millionths g p.x some flat

flat_by : (none : Bool) (plane : Plane) (p d : Point3) → none ≡ (greatest_size p == 0) → cond none None (Some (scaled (greatest_size p) p)) ≡ Some d → height plane p ≡ pos 0 →
    unsigned_abs (height plane d) ≤ 0
flat_by true plane p d test h flat = cc
flat_by false plane p d test h flat =
    let g = greatest_size p in
    let some : 0 < g = grind (arith, nat_tests) in
    let same : scaled g p ≡ d = cc in
    subst (λ q. unsigned_abs (height plane q) ≤ 0) same (scaled_flat plane g p some flat)

at_its_height : (plane : Plane) (u : Point2) → height plane (at_height plane u (pos 0)) ≡ pos 0
at_its_height XY u = refl
at_its_height ZX u = refl
at_its_height YZ u = refl

zero_height : (plane : Plane) → height plane zero_point ≡ pos 0
zero_height XY = refl
zero_height ZX = refl
zero_height YZ = refl

vector_by : (level : Bool) (plane : Plane) (u : Point2) → height plane (cond level (at_height plane u (pos 0)) zero_point) ≡ pos 0
vector_by true plane u = at_its_height plane u
vector_by false plane u = zero_height plane

arc_flat : (a : ArcShape) (p : Point2) (d : Point3) → heading_of (arc_vector a p) ≡ Some d → unsigned_abs (height a.plane d) ≤ 0
arc_flat a p d h = flat_by (greatest_size (arc_vector a p) == 0) a.plane (arc_vector a p) d refl h (vector_by (is_level a) a.plane (turned a.turn (from a.centre p)))

axis_turned : (v n a t u way : ℕ) → v * v * n ≤ t * way → a ≤ n → t ≤ u → v * v * a ≤ u * way
axis_turned v n a t u way h few less =
    let p = mul-le (v * v) a (v * v) n (omega arith) few in
    let q = mul-le t way u way less (omega arith) in
    omega (arith, h, p, q)

axis_flat : (v u way : ℕ) (x y : ℤ) → unsigned_abs x ≤ 0 → unsigned_abs y ≤ 0 → v * v * distance x y ≤ u * way
axis_flat v u way x y p q = let none : distance x y ≡ 0 = omega (arith, ints, p, q) in rw none (omega arith)

-- what the turn of a plane allows, those of all axes do
plane_turned : (plane : Plane) (turns : AxisTurns) (v : ℕ) (d e : Point3) (way : ℕ) → v * v * difference_of d e ≤ plane_turn plane turns * way →
    unsigned_abs (height plane d) ≤ 0 → unsigned_abs (height plane e) ≤ 0 → AxesTurn turns v d e way
plane_turned XY turns v d e way h first last = record {
  x = axis_turned v (difference_of d e) (distance d.x e.x) (min turns.x turns.y) turns.x way h (omega arith) (omega arith);
  y = axis_turned v (difference_of d e) (distance d.y e.y) (min turns.x turns.y) turns.y way h (omega arith) (omega arith);
  z = axis_flat v turns.z way d.z e.z first last;
}
plane_turned ZX turns v d e way h first last = record {
  x = axis_turned v (difference_of d e) (distance d.x e.x) (min turns.z turns.x) turns.x way h (omega arith) (omega arith);
  y = axis_flat v turns.y way d.y e.y first last;
  z = axis_turned v (difference_of d e) (distance d.z e.z) (min turns.z turns.x) turns.z way h (omega arith) (omega arith);
}
plane_turned YZ turns v d e way h first last = record {
  x = axis_flat v turns.x way d.x e.x first last;
  y = axis_turned v (difference_of d e) (distance d.y e.y) (min turns.y turns.z) turns.y way h (omega arith) (omega arith);
  z = axis_turned v (difference_of d e) (distance d.z e.z) (min turns.y turns.z) turns.z way h (omega arith) (omega arith);
}

-- ---- the turn of a motion

turn_by : (below : Bool) (d e : Point3) (s t : Option Point3) → s ≡ Some d → t ≡ Some e → IsHeading d → IsHeading e → difference_of d e ≤ cond below (difference_between s t) (2 * MILLION)
turn_by true d e s t starts ends first last = rw (starts, ends) (omega arith)
turn_by false d e s t starts ends first last = difference_small d e first last

same_heading : (d e : Point3) (s : Option Point3) → s ≡ Some d → s ≡ Some e → d ≡ e
same_heading d e s p q = cc

motion_turn : (m : MachineFile) (w : Way) (d e : Point3) (v : ℕ) → IsMachine m → v ≤ m.max_rate → LeadsTo m v d e w → AxesTurn (axis_turns m) v d e (way_of m w)
motion_turn m (Line b f) d e v ranges most leads =
    let one : d ≡ e = same_heading d e (start_heading (Line b f)) leads.starts leads.ends in
    subst (λ z. AxesTurn (axis_turns m) v d z (way_of m (Line b f))) one (none_turned (axis_turns m) v d (way_of m (Line b f)))
motion_turn m (Arc a) d e v ranges most leads =
    let first = heading_is (start_vector (Arc a)) d leads.starts in
    let last = heading_is (end_vector (Arc a)) e leads.ends in
    let turned : difference_of d e ≤ turned_on a = turn_by (is_below_half a) d e (start_heading (Arc a)) (end_heading (Arc a)) leads.starts leads.ends first last in
    let allowed = turn_allowed m a v ranges most leads.turns in
    let less : v * v * difference_of d e ≤ v * v * turned_on a = mul-le (v * v) (difference_of d e) (v * v) (turned_on a) (omega arith) turned in
    let longer : arc_turn m a * turn_way m a ≤ arc_turn m a * way_of m (Arc a) = mul-le (arc_turn m a) (turn_way m a) (arc_turn m a) (way_of m (Arc a)) (omega arith) (omega arith) in
    plane_turned a.plane (axis_turns m) v d e (way_of m (Arc a)) (omega (arith, allowed, less, longer))
    (arc_flat a (start_of a) d leads.starts) (arc_flat a (end_of a) e leads.ends)

-- ---- the walk back

passing_by : (ends : Bool) (p d : Point3) (h : Option Point3) → cond ends None h ≡ Some p → h ≡ Some d → p ≡ d
passing_by true p d h e f = cc
passing_by false p d h e f = cc

passing_end : (m : MachineFile) (k : Motion) (p d : Point3) → passing_heading m (Move k) ≡ Some p → end_heading k.way ≡ Some d → p ≡ d
passing_end m k p d h ends = passing_by (k.stop || is_still m k.way) p d (end_heading k.way) h ends

turns_on : (jump : ℕ) (turns : AxisTurns) (v : ℕ) (d e : Point3) (way : ℕ) → AxesTurn turns v d e way → AxesMayHead jump turns (differences d e) way v
turns_on jump turns v d e way h = record { x = omega (arith, h.x); y = omega (arith, h.y); z = omega (arith, h.z) }

smooth_with : (h : Option Point3) (m : MachineFile) (d e : Point3) (v way : ℕ) (ps : List Passed) → ((p : Point3) → h ≡ Some p → p ≡ d) → IsHeading d → IsHeading e →
    v ≤ MILLION → AxesTurn (axis_turns m) v d e way → v ≤ rate_from_all m e ps → v ≤ rate_from_all m e (passed_with h way ps)
smooth_with None m d e v way ps only first next small near afterwards = small
smooth_with (Some p) m d e v way ps only first next small near afterwards =
    let one : d ≡ p = sym (only p refl) in
    let here = subst (λ q. AxesTurn (axis_turns m) v q e way) one near in
    let few = differences_small p e (subst (λ q. IsHeading q) one first) next in
    let less = (axes_rate_law m.jump (axis_turns m) (differences p e) way v few).1 (small, turns_on m.jump (axis_turns m) v p e way here) in
    omega (arith, less, afterwards)

smooth_on : (m : MachineFile) (d e : Point3) (v way : ℕ) (cs : List Command) → IsMachine m → v ≤ m.max_rate → IsHeading d → IsHeading e → v ≤ MILLION →
    AxesTurn (axis_turns m) v d e way → LeadSmoothlyTo m v d cs → v ≤ rate_from_all m e (passed_on m way cs)
smooth_on m d e v way [] ranges most first next small near leads = small
smooth_on m d e v way (c ∷ cs) ranges most first next small near (inl none) = rw none small
smooth_on m d e v way (c ∷ cs) ranges most first next small near (inr (k, p, is, path, leads)) =
    let ps = passed_on m (way + way_on m c.action) cs in
    let turn = subst (λ a. AxesTurn (axis_turns m) v p d (way_on m a)) (sym is) (motion_turn m k.way p d v ranges most path) in
    let start = heading_is (start_vector k.way) p path.starts in
    smooth_with (passing_heading m c.action) m d e v way ps (λ q h. passing_end m k q d (ap (λ a. passing_heading m a) (sym is) ∙ h) path.ends) first next small near
    (smooth_on m p e v (way + way_on m c.action) cs ranges most start next small (farther (axis_turns m) v p d e (way_on m c.action) way turn near) leads)

pub free_where_smooth : IsFreeWhereSmooth
free_where_smooth m before w x d e v ranges most path leads starts =
    let small : v ≤ MILLION = omega (arith, most, ranges.max_rate.greatest) in
    let first = heading_is (start_vector w) d path.starts in
    let next = heading_is (end_vector w) e path.ends in
    let turn = motion_turn m w d e v ranges most path in
    let none = turns_on m.jump (axis_turns m) v e e 0 (none_turned (axis_turns m) v e 0) in
    let here = (axes_rate_law m.jump (axis_turns m) (differences e e) 0 v (differences_small e e next next)).1 (small, none) in
    let afterwards = smooth_on m d e v (way_of m w) before ranges most first next small turn leads in
    omega (arith, here, afterwards)
