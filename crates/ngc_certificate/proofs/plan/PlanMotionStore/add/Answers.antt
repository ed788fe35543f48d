use Rattle.ngc_certificate.proofs.PlanLaws.{cut_added, on_both}
use Rattle.ngc_certificate.proofs.plan.PlanMotionStore.add.Goals as goal

pub returns-in-Arc-2 : goal.returns-in-Arc-2
returns-in-Arc-2 g c =
    on_both c.add_cut.result _ _ _
    (λ motions arcs. cut_added c.args.step c.args._commands.now c.args.self.now.arcs c.add_cut.new.self.arcs c.args.self.now.motions.items
    c.add_cut.new.self.motions.items c.args.index c.args.way.now c.args.pieces.now c.requires.are arcs motions c.requires.way)
    c.add_cut.ensures.motions c.add_cut.ensures.arcs
