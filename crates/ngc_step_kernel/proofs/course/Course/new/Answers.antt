use Rattle.std.proofs.Common.{arith}
use Rattle.ngc_step_kernel.proofs.CourseLemmas.{course_begins}
use Rattle.ngc_circle_walk.proofs.Wheeling.{first_spoke}
use Rattle.ngc_step_kernel.proofs.course.Course.new.Goals as goal

pub new-requires-clause-small : goal.new-requires-clause-small
new-requires-clause-small g c = rw (first_spoke _ _ _) at (c.requires.small 0 (omega arith))

pub returns-clause-state : goal.returns-clause-state
returns-clause-state g c = course_begins _ _ _ _ c.requires c.new.ensures.place c.new.ensures.pace c.new.ensures.rim
