use Rattle.std.proofs.Common.{min, ap, ◌∙◌}
use Rattle.ngc_machine_files.specs.Machine.{file_of}
use Rattle.ngc_planner.specs.Joints.{rate_from_all}
use Rattle.ngc_planner.specs.Trail.{measured}
use Rattle.ngc_planner.proofs.TrailLaws.{measured_on}
use Rattle.ngc_planner.proofs.TurnLaws.{differences_small, whole_window}
use Rattle.ngc_planner.proofs.joints.window_rate.Goals as goal

pub axes_lowered-rate-requires-clause-differences : goal.axes_lowered-rate-requires-clause-differences
axes_lowered-rate-requires-clause-differences g c =
    rw c.differences-differences.ensures (differences_small c.args.heading.now c.args.next.now c.requires.heading c.requires.next)

pub returns-clause-value : goal.returns-clause-value
returns-clause-value g c =
    let m = file_of c.args.machine.now in
    let e = c.args.next.now in
    let rate = c.axes_lowered-rate.result in
    let way = c.way_of.result in
    λ cs is. whole_window m e c.args.heading.now c.args.way.now cs rate c.lowered.result way c.requires.heading c.requires.next c.way_of.ensures.value
    (rw c.differences-differences.ensures at c.axes_lowered-rate.ensures.value)
    (c.lowered.ensures.value ∙ (ap (λ ps. min rate (rate_from_all m e (measured way ps))) is ∙ ap (λ qs. min rate (rate_from_all m e qs)) (measured_on m way cs)))
