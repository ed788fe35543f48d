use Rattle.ngc_material.proofs.Uppers.{none_with, upper_first}
use Rattle.ngc_material.proofs.touch.first_touch.Goals as goal

pub returns-in-None-clause-none : goal.returns-in-None-clause-none
returns-in-None-clause-none c = none_with c.upper_touch.result _ _ c.in-None.ensures.none c.upper_touch.ensures.none

pub returns-in-None-clause-some : goal.returns-in-None-clause-some
returns-in-None-clause-some c =
    upper_first c.args.stock.now c.args.discs.now c.args.tool.now c.args.line.now.start c.args.line.now.end c.args.heights.now c.upper_touch.result
    c.in-None.ensures.none c.upper_touch.ensures.some
