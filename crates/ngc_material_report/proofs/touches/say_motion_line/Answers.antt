use Rattle.ngc_material_report.specs.Sentences.{motion_line}
use Rattle.ngc_material_report.proofs.touches.say_motion_line.Goals as goal

pub returns : goal.returns
unfolding motion_line
returns g c = rw (← c.number.ensures, ← c.verb.ensures, ← c.motion.ensures) c.say.ensures
