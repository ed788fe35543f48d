use Rattle.ngc_commands.specs.Reached.{at_start}
use Rattle.ngc_material.proofs.DeepestFeeds.{deepest_cuts}
use Rattle.ngc_stock_report.proofs.laws.deepest_report.Goals as goal

pub returns : goal.returns
returns c most table m before after command w walk = deepest_cuts w.stock table (at_start m) w.found w.cuts before after command walk.grid walk.cuts
