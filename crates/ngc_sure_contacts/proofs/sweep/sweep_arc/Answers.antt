use Rattle.std.proofs.Common.{sym, ◌∙◌}
use Rattle.ngc_sure_contacts.proofs.Sinking.{swept_arc}
use Rattle.ngc_sure_contacts.proofs.sweep.sweep_arc.Goals as goal

pub returns-in-XY : goal.returns-in-XY
returns-in-XY c =
    swept_arc c.args.stock.now c.args.cylinder.now c.args.arc.now c.args.heights.now c.sweep_round.new.heights (sym c.plane.ensures ∙ c.in-XY.is) c.sweep_round.ensures
