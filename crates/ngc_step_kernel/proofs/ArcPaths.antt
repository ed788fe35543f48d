-- A course that follows an arc in its plane, with its heights, is a path that follows the arc.
use Rattle.std.proofs.Common.{◌≡◌, max, refl, sym, ◌∙◌, ap, subst, ℤ, unsigned_abs, List}
use Rattle.ngc_fixed_length.specs.Grid.{grid, distance}
use Rattle.ngc_fixed_length.specs.Length.{IsStep}
use Rattle.ngc_fixed_length.specs.Places.{height}
use Rattle.ngc_fixed_length.specs.Rounding.{nearest}
use Rattle.ngc_fixed_length.specs.declared.modes.Plane.{Plane}
use Rattle.ngc_fixed_length.specs.declared.modes.Plane.TheVariants.{XY, ZX, YZ}
use Rattle.ngc_fixed_length.specs.declared.modes.Turn.{Turn}
use Rattle.ngc_fixed_length.specs.declared.points.Point3.{Point3}
use Rattle.ngc_fixed_length.specs.declared.points.StepPos.{StepPos}
use Rattle.ngc_arc_geometry.specs.Shape.{ArcShape}
use Rattle.ngc_arc_geometry.specs.ArcPath.{IsArcOf, IsArcPath}
use Rattle.ngc_step_kernel.specs.declared.plan.Plan.{Plan}
use Rattle.ngc_step_kernel.specs.Course.{course_at, IsPlan}
use Rattle.ngc_step_kernel.specs.PlaneCourse.{laid, FollowsInPlane}
use Rattle.ngc_step_kernel.specs.Round.{round_points, seen_height}
use Rattle.ngc_step_kernel.specs.UnitPath.{IsUnitPath}
use Rattle.ngc_step_kernel.proofs.LiftedCourses.{lifts}

height_seen : (plane : Plane) (s : ℤ) (p : Point3) → seen_height plane (grid s p) ≡ nearest (height plane p) s
height_seen XY s p = refl
height_seen ZX s p = refl
height_seen YZ s p = refl

pub arc_path : (s : ℤ) (a : ArcShape) (p : Plan) (plane : Plane) (t : Turn) (low high : ℤ) (path : List StepPos) → IsStep s → plane ≡ a.plane → t ≡ a.turn →
    low ≡ seen_height plane (grid s a.start) → high ≡ seen_height plane (grid s a.end) → IsPlan p →
    FollowsInPlane a (unsigned_abs s) p.moves (λ j. laid (unsigned_abs s) a.turn (course_at p j)) →
    path ≡ round_points plane t p (max p.moves (distance low high)) low high →
    IsUnitPath (grid s a.start) (grid s a.end) (max p.moves (distance low high)) path → IsArcPath s a path
arc_path s a p plane t low high path step same turn starts ends plan follows is unit =
    let n = max p.moves (distance low high) in
    let at : path ≡ round_points a.plane a.turn p n low high = is ∙ ap (λ (q : Plane). round_points q t p n low high) same
    ∙ ap (λ (u : Turn). round_points a.plane u p n low high) turn in
    let low_is = starts ∙ ap (λ (q : Plane). seen_height q (grid s a.start)) same ∙ height_seen a.plane s a.start in
    let high_is = ends ∙ ap (λ (q : Plane). seen_height q (grid s a.end)) same ∙ height_seen a.plane s a.end in
    let of = lifts s a p n low high step low_is high_is refl plan follows (subst (λ l. IsUnitPath (grid s a.start) (grid s a.end) n l) at unit) in
    (n, subst (λ l. IsArcOf s a n l) (sym at) of)
