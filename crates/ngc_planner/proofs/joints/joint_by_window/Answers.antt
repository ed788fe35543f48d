use Rattle.std.proofs.Common.{sym, ◌∙◌}
use Rattle.ngc_planner.specs.Headings.{start_vector, end_vector}
use Rattle.ngc_planner.proofs.WindowLaws.{heading_is}
use Rattle.ngc_planner.proofs.joints.joint_by_window.Goals as goal

pub window_rate-requires-clause-heading : goal.window_rate-requires-clause-heading
window_rate-requires-clause-heading g c =
    heading_is (end_vector c.args.way.now) c.in-Some-Some.heading (sym c.end_heading.ensures ∙ c.in-Some-Some.is-0)

pub window_rate-requires-clause-next : goal.window_rate-requires-clause-next
window_rate-requires-clause-next g c =
    heading_is (start_vector c.args.next.now) c.in-Some-Some.next (sym c.start_heading.ensures ∙ c.in-Some-Some.is-1)
