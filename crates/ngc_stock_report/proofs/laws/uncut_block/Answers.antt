use Rattle.ngc_stock_report.proofs.UncutBlocks.{uncut_block}
use Rattle.ngc_stock_report.proofs.laws.uncut_block.Goals as goal

pub returns : goal.returns
returns c = uncut_block
