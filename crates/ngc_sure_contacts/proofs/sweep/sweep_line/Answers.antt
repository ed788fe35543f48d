use Rattle.ngc_sure_contacts.proofs.Sinking.{above_line}
use Rattle.ngc_sure_contacts.proofs.sweep.sweep_line.Goals as goal

pub returns-else-line_level-stock : goal.returns-else-line_level-stock
returns-else-line_level-stock c =
    above_line c.args.stock.now c.args.cylinder.now c.args.line.now.start c.args.line.now.end c.args.heights.now c.line_level.result c.line_level.ensures c.if-line_level-stock.false
