use Rattle.ngc_drawing.proofs.Sweeps.{moved}
use Rattle.ngc_drawing.proofs.sweep.Sweeping.action.Goals as goal

pub returns-in-Move : goal.returns-in-Move
returns-in-Move g c =
    moved c.args.view c.args.most c.args.tools.now c.args.self.now c.args.list.now.items c.motion.new.list.items c.args.action.now c.in-Move.field-0
    c.args.motions.now c.motion.result
    c.in-Move.is c.motion.ensures
