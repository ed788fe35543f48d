-- A motion never steps on an axis on which its ends agree, unless it is an arc and the axis is in
-- its plane.
use Rattle.std.proofs.Common.{◌≡◌, ℕ, ◌+◌, ◌-◌, ◌<◌, ◌≤◌, ap, subst, sym, ◌∙◌, arith, List, length, false, ℤ}
use Rattle.std.specs.Prelude.{Bool, nat_lt, unsigned_abs, ◌-ℤ◌}
use Rattle.std.proofs.lemmas.Int.{ints}
use Rattle.std.proofs.lemmas.Bool.{true≢false, ltb-false}
use Rattle.ngc_fixed_length.specs.declared.modes.Plane.{Plane}
use Rattle.ngc_fixed_length.specs.declared.modes.Plane.TheVariants.{XY, ZX, YZ}
use Rattle.ngc_fixed_length.specs.declared.points.StepPos.{StepPos}
use Rattle.ngc_fixed_length.specs.declared.points.Point3.{Point3}
use Rattle.ngc_fixed_length.specs.Grid.{grid, distance, greatest_distance}
use Rattle.ngc_fixed_length.specs.LinePath.{point, FollowsLine, IsLineOf}
use Rattle.ngc_fixed_length.specs.Places.{height}
use Rattle.ngc_commands.specs.declared.movement.Way.{Way}
use Rattle.ngc_commands.specs.declared.movement.Way.TheVariants.{Line, Arc}
use Rattle.ngc_commands.specs.ProgramPath.{IsPathOf}
use Rattle.ngc_planner.specs.declared.axes.Axes.{Axes}
use Rattle.ngc_planner.specs.Axes.{differing, with_plane, axes_of}

-- ---- one axis

pub data Axis : Type 0 where
  X : Axis
  Y : Axis
  Z : Axis

-- a point's coordinate on it
abbrev pub on : Axis → StepPos → ℤ
on X p = p.x
on Y p = p.y
on Z p = p.z

abbrev pub has : Axis → Axes → Bool
has X a = a.x
has Y a = a.y
has Z a = a.z

-- no move of a path steps on it
abbrev pub IsStill : Axis → List StepPos → Type 0
IsStill axis path = (k : ℕ) → k < length path - 1 → on axis (point path k) ≡ on axis (point path (k + 1))

-- ---- paths

-- n moves from p to q that follow a line on the axis
pub record Follows (axis : Axis) (step : ℤ) (n : ℕ) (b e : ℤ) (p q : StepPos) (path : List StepPos) : Type 0 where
  pub count : length path ≡ n + 1
  pub starts : point path 0 ≡ p
  pub ends : point path n ≡ q
  pub follows : FollowsLine step n b e (λ k. on axis (point path k))

-- if nothing turns back and the ends agree, nothing moves
stays : (step : ℤ) (n : ℕ) (b e : ℤ) (place : ℕ → ℤ) → FollowsLine step n b e place → place 0 ≡ place n → (k : ℕ) → k ≤ n → place k ≡ place 0
stays step n b e place f agree k h =
    let s = subst (λ q. distance (place 0) (place k) + distance (place k) q ≡ distance (place 0) q) (sym agree)
    (f.straight 0 k n (omega arith) h (omega arith)) in
    omega (arith, ints, s)

agree : (a c : ℤ) → nat_lt 0 (distance a c) ≡ false → a ≡ c
agree a c h = let l : unsigned_abs (c -ℤ a) ≤ 0 = ltb-false 0 (unsigned_abs (c -ℤ a)) h in omega (arith, ints, l)

ends_agree : (axis : Axis) (p q : StepPos) → has axis (differing p q) ≡ false → on axis p ≡ on axis q
ends_agree X p q h = agree p.x q.x h
ends_agree Y p q h = agree p.y q.y h
ends_agree Z p q h = agree p.z q.z h

still : (axis : Axis) (step : ℤ) (n : ℕ) (b e : ℤ) (p q : StepPos) (path : List StepPos) → Follows axis step n b e p q path → has axis (differing p q) ≡ false →
    IsStill axis path
still axis step n b e p q path f h k less =
    let c = f.count in
    let ends : on axis (point path 0) ≡ on axis (point path n) = ap (on axis) f.starts ∙ ends_agree axis p q h ∙ sym (ap (on axis) f.ends) in
    let s = stays step n b e (λ i. on axis (point path i)) f.follows ends in
    s k (omega (arith, c, less)) ∙ sym (s (k + 1) (omega (arith, c, less)))

pub line_follows : (axis : Axis) (step : ℤ) (b e : Point3) (n : ℕ) (path : List StepPos) → IsLineOf step b e n path →
    (c : ℤ) × (d : ℤ) × Follows axis step n c d (grid step b) (grid step e) path
line_follows X step b e n path l = (b.x, e.x, record { count = l.count; starts = l.starts; ends = l.ends; follows = l.x })
line_follows Y step b e n path l = (b.y, e.y, record { count = l.count; starts = l.starts; ends = l.ends; follows = l.y })
line_follows Z step b e n path l = (b.z, e.z, record { count = l.count; starts = l.starts; ends = l.ends; follows = l.z })

-- the heights of a path's points above a plane
abbrev pub heights : Plane → List StepPos → ℕ → ℤ
heights plane path k = height plane (record { x = (point path k).x; y = (point path k).y; z = (point path k).z })

-- an arc's path, in its plane's coordinates
pub record Rises (plane : Plane) (step : ℤ) (n : ℕ) (b e : ℤ) (p q : StepPos) (path : List StepPos) : Type 0 where
  pub count : length path ≡ n + 1
  pub starts : point path 0 ≡ p
  pub ends : point path n ≡ q
  pub rises : FollowsLine step n b e (heights plane path)

still_arc : (axis : Axis) (plane : Plane) (step : ℤ) (n : ℕ) (b e : ℤ) (p q : StepPos) (path : List StepPos) → Rises plane step n b e p q path →
    has axis (with_plane plane (differing p q)) ≡ false → IsStill axis path
still_arc X XY step n b e p q path r h = absurd (true≢false h)
still_arc Y XY step n b e p q path r h = absurd (true≢false h)
still_arc Z XY step n b e p q path r h = still Z step n b e p q path (record { count = r.count; starts = r.starts; ends = r.ends; follows = r.rises }) h
still_arc X ZX step n b e p q path r h = absurd (true≢false h)
still_arc Y ZX step n b e p q path r h = still Y step n b e p q path (record { count = r.count; starts = r.starts; ends = r.ends; follows = r.rises }) h
still_arc Z ZX step n b e p q path r h = absurd (true≢false h)
still_arc X YZ step n b e p q path r h = still X step n b e p q path (record { count = r.count; starts = r.starts; ends = r.ends; follows = r.rises }) h
still_arc Y YZ step n b e p q path r h = absurd (true≢false h)
still_arc Z YZ step n b e p q path r h = absurd (true≢false h)

pub still_way : (axis : Axis) (step : ℤ) (way : Way) (path : List StepPos) → IsPathOf step way path → has axis (axes_of step way) ≡ false → IsStill axis path
still_way axis step (Line b e) path w h =
    let n = greatest_distance (grid step b) (grid step e) in
    let f = line_follows axis step b e n path w in
    still axis step n f.0 f.1 (grid step b) (grid step e) path f.2 h
still_way axis step (Arc a) path w h =
    still_arc axis a.plane step w.0 (height a.plane a.start) (height a.plane a.end) (grid step a.start) (grid step a.end) path
    (record { count = w.1.weak.count; starts = w.1.weak.starts; ends = w.1.weak.ends; rises = w.1.rises }) h
