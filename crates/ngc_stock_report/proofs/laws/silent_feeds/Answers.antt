use Rattle.ngc_commands.specs.Reached.{at_start}
use Rattle.ngc_material.proofs.Reports.{clear_feeds}
use Rattle.ngc_stock_report.proofs.laws.silent_feeds.Goals as goal

pub returns : goal.returns
returns c most table m before after command stock found cuts heights traverses walk = clear_feeds stock table (at_start m) found before after command walk.grid walk.found
