use Rattle.ngc_commands.specs.Reached.{at_start}
use Rattle.ngc_material.proofs.Remains.{remains}
use Rattle.ngc_material.specs.Walks.{with_feeds}
use Rattle.ngc_stock_report.proofs.laws.remains_report.Goals as goal

pub returns : goal.returns
returns c most table m commands w k q walk small cell left =
    remains w.stock table (at_start m) (with_feeds 0 commands w.found) w.heights k q walk.grid walk.left small cell left
