use Rattle.std.proofs.Common.{◌∷◌, ◌++◌}
use Rattle.ngc_commands.specs.Reached.{at_start}
use Rattle.ngc_material.proofs.Reports.{nothing}
use Rattle.ngc_stock.proofs.Silences.{silence}
use Rattle.ngc_stock_report.proofs.laws.silent_report.Goals as goal

pub returns : goal.returns
returns c most table m before after command stock feeds cuts heights traverses walk =
    silence stock table (at_start m) before after command walk.grid (nothing stock table (at_start m) (before ++ command ∷ after) feeds walk.found)
