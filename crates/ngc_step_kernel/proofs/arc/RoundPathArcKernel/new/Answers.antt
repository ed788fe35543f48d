use Rattle.std.proofs.Common.{◌≡◌, ◌∙◌, ap, subst, ℤ, unsigned_abs, to_z, of_z, arith}
use Rattle.std.specs.Int.{w32, w64}
use Rattle.std.proofs.lemmas.Int.{ints, to_z-of_z}
use Rattle.ngc_fixed_length.specs.Grid.{grid}
use Rattle.ngc_fixed_length.specs.declared.points.Point3.{Point3}
use Rattle.ngc_fixed_length.specs.declared.points.StepPos.{StepPos}
use Rattle.ngc_step_kernel.specs.Course.{course_at}
use Rattle.ngc_step_kernel.specs.PlaneCourse.{laid, FollowsInPlane}
use Rattle.ngc_step_kernel.specs.Round.{grid_point_in_plane, seen_height}
use Rattle.ngc_step_kernel.proofs.ArcPaths.{arc_path}
use Rattle.ngc_step_kernel.proofs.EndLemmas.{end_seen, unit_back}
use Rattle.ngc_step_kernel.proofs.arc.RoundPathArcKernel.new.Goals as goal

pub around-plan-requires-clause-start_at : goal.around-plan-requires-clause-start_at
around-plan-requires-clause-start_at g c =
    let a = c.args.arc.now in
    let k : to_z w64 (of_z w64 c.nanometres.result) ≡ c.nanometres.result =
    to_z-of_z w64 c.nanometres.result (record { sfits = c.nanometres.type_inv }) in
    let size : c.unsigned_abs-size.result ≡ unsigned_abs c.args.step =
    c.unsigned_abs-size.ensures.value ∙ ap (λ (z : ℤ). unsigned_abs z) (k ∙ c.nanometres.ensures.value) in
    rw (c.of.ensures.value, c.spot-start.ensures.value, c.to_grid-from.ensures.value, c.start.ensures.value, c.plane-plane.ensures, c.turn-turn.ensures, size)
    (end_seen c.args.step a.plane a.turn a.centre a.start c.requires)

pub around-plan-requires-clause-end_at : goal.around-plan-requires-clause-end_at
around-plan-requires-clause-end_at g c =
    let a = c.args.arc.now in
    let k : to_z w64 (of_z w64 c.nanometres.result) ≡ c.nanometres.result =
    to_z-of_z w64 c.nanometres.result (record { sfits = c.nanometres.type_inv }) in
    let size : c.unsigned_abs-size.result ≡ unsigned_abs c.args.step =
    c.unsigned_abs-size.ensures.value ∙ ap (λ (z : ℤ). unsigned_abs z) (k ∙ c.nanometres.ensures.value) in
    rw (c.of.ensures.value, c.spot-end.ensures.value, c.to_grid-to.ensures.value, c.end.ensures.value, c.plane-plane.ensures, c.turn-turn.ensures, size)
    (end_seen c.args.step a.plane a.turn a.centre a.end c.requires)

pub returns-clause-arc : goal.returns-clause-arc
returns-clause-arc g c =
    let a = c.args.arc.now in
    let k : to_z w32 (of_z w32 c.height-low.result) ≡ c.height-low.result =
    to_z-of_z w32 c.height-low.result (record { sfits = c.height-low.type_inv }) in
    let k' : to_z w32 (of_z w32 c.height-high.result) ≡ c.height-high.result =
    to_z-of_z w32 c.height-high.result (record { sfits = c.height-high.type_inv }) in
    let low = to_z w32 (of_z w32 c.height-low.result) in
    let high = to_z w32 (of_z w32 c.height-high.result) in
    let from = c.to_grid-from.ensures.value ∙ ap (λ (p : Point3). grid c.args.step p) c.start.ensures.value in
    let to = c.to_grid-to.ensures.value ∙ ap (λ (p : Point3). grid c.args.step p) c.end.ensures.value in
    let starts = k ∙ c.height-low.ensures.value ∙ ap (λ (p : StepPos). seen_height c.plane-plane.result p) from in
    let ends = k' ∙ c.height-high.ensures.value ∙ ap (λ (p : StepPos). seen_height c.plane-plane.result p) to in
    let kk : to_z w64 (of_z w64 c.nanometres.result) ≡ c.nanometres.result =
    to_z-of_z w64 c.nanometres.result (record { sfits = c.nanometres.type_inv }) in
    let size : c.unsigned_abs-size.result ≡ unsigned_abs c.args.step =
    c.unsigned_abs-size.ensures.value ∙ ap (λ (z : ℤ). unsigned_abs z) (kk ∙ c.nanometres.ensures.value) in
    let plan = c.around-plan.result in
    let follows = subst (λ n. FollowsInPlane a n plan.moves (λ j. laid n a.turn (course_at plan j))) size
    (c.around-plan.ensures.follows a c.of.ensures.value c.of.ensures.arc) in
    let unit = unit_back c.plane-plane.result c.turn-turn.result (grid c.args.step a.start)
    (grid c.args.step a.end) plan.start plan.end low high _ c.along.result.points
    (c.around-plan.ensures.start ∙ c.spot-start.ensures.value ∙ ap (λ (p : StepPos). grid_point_in_plane c.plane-plane.result c.turn-turn.result p) from)
    (c.around-plan.ensures.end ∙ c.spot-end.ensures.value ∙ ap (λ (p : StepPos). grid_point_in_plane c.plane-plane.result c.turn-turn.result p) to)
    starts ends c.along.ensures.unit in
    arc_path c.args.step a plan c.plane-plane.result c.turn-turn.result low high c.along.result.points c.requires c.plane-plane.ensures c.turn-turn.ensures
    starts ends c.around-plan.ensures.plan follows c.along.ensures.points unit

pub to_grid-from-requires : goal.to_grid-from-requires
to_grid-from-requires g c = c.requires

pub to_grid-to-requires : goal.to_grid-to-requires
to_grid-to-requires g c = c.requires

pub spot-start-requires : goal.spot-start-requires
spot-start-requires g c = c.to_grid-from.ensures.range

pub spot-end-requires : goal.spot-end-requires
spot-end-requires g c = c.to_grid-to.ensures.range

pub around-plan-requires-clause-view : goal.around-plan-requires-clause-view
around-plan-requires-clause-view g c = c.of.ensures.range

pub around-plan-requires-clause-start : goal.around-plan-requires-clause-start
around-plan-requires-clause-start g c = c.spot-start.ensures.range

pub around-plan-requires-clause-end : goal.around-plan-requires-clause-end
around-plan-requires-clause-end g c = c.spot-end.ensures.range

pub around-plan-requires-clause-least : goal.around-plan-requires-clause-least
around-plan-requires-clause-least g c = (
    let k = to_z-of_z w64 c.nanometres.result (record { sfits = c.nanometres.type_inv }) in
    rw (c.unsigned_abs-size.ensures.value, k, c.nanometres.ensures.value) (omega (arith, ints, c.requires.least)))

pub around-plan-requires-clause-greatest : goal.around-plan-requires-clause-greatest
around-plan-requires-clause-greatest g c = (
    let k = to_z-of_z w64 c.nanometres.result (record { sfits = c.nanometres.type_inv }) in
    rw (c.unsigned_abs-size.ensures.value, k, c.nanometres.ensures.value) (omega (arith, ints, c.requires.least, c.requires.greatest)))

pub around-plan-requires-clause-roots : goal.around-plan-requires-clause-roots
around-plan-requires-clause-roots g c = omega arith

pub height-low-requires : goal.height-low-requires
height-low-requires g c = c.to_grid-from.ensures.range

pub height-high-requires : goal.height-high-requires
height-high-requires g c = c.to_grid-to.ensures.range

pub along-requires-clause-plan : goal.along-requires-clause-plan
along-requires-clause-plan g c = c.around-plan.ensures.plan

pub along-requires-clause-low : goal.along-requires-clause-low
along-requires-clause-low g c = rw (to_z-of_z w32 c.height-low.result (record { sfits = c.height-low.type_inv })) c.height-low.ensures.range

pub along-requires-clause-high : goal.along-requires-clause-high
along-requires-clause-high g c = rw (to_z-of_z w32 c.height-high.result (record { sfits = c.height-high.type_inv })) c.height-high.ensures.range

pub returns-clause-place : goal.returns-clause-place
returns-clause-place g c = c.along.ensures.place

pub returns-clause-roots : goal.returns-clause-roots
returns-clause-roots g c = omega (arith, c.along.ensures.roots, c.around-plan.ensures.roots)
