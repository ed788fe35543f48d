use Rattle.ngc_step_kernel.proofs.CourseLemmas.{here_small, joins_on, enters_on, rolls_on, ends_on}
use Rattle.ngc_step_kernel.proofs.course.Course.advance.Goals as goal
use Rattle.ngc_step_kernel.proofs.course.Course.advance.Goals.{then-self, else-self+then-self-2, else-self+else-self-2+then-self-3}
use Rattle.ngc_step_kernel.proofs.course.Course.advance.Goals.{else-self+else-self-2+else-self-3}

pub moved-self-requires : goal.moved-self-requires
moved-self-requires g c =
    let small = here_small _ _ _ _ _ _ c.requires.state in
    elim c.if-self.branch [
      | then-self w ↦ rw w.self-is small
      | else-self+then-self-2 w ↦ rw w.self-is small
      | else-self+else-self-2+then-self-3 w ↦ rw w.self-is small
      | else-self+else-self-2+else-self-3 w ↦ rw w.self-is small
    ]

pub returns-clause-state : goal.returns-clause-state
returns-clause-state g c =
    let s = c.requires.state in
    let room = c.requires.room in
    elim c.if-self.branch [
      | then-self w ↦ rw (c.moved-self.ensures, w.self-is, w.step-is, w.towards-step.ensures) (joins_on _ _ _ _ _ _ s room w.if-self.true)
      | else-self+then-self-2 w ↦ rw (c.moved-self.ensures, w.self-is, w.step-is, w.towards.ensures)
          (enters_on _ _ _ _ _ _ s room w.if-self.false w.if-self-2.true)
      | else-self+else-self-2+then-self-3 w ↦ rw (c.moved-self.ensures, w.self-is, w.step-is, w.of.ensures, w.spoke-quadrant.ensures)
          (rolls_on _ _ _ _ _ _ _ _ _ _ s room w.if-self-2.false w.if-self-3.true w.advance.ensures.roll w.advance.ensures.place w.advance.ensures.pace
          w.advance.ensures.rim)
      | else-self+else-self-2+else-self-3 w ↦ rw (c.moved-self.ensures, w.self-is, w.step-is, w.towards-else-self-3.ensures)
          (ends_on _ _ _ _ _ _ s room w.if-self-3.false)
    ]
