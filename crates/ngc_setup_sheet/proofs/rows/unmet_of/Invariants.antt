use Rattle.std.proofs.Common.{◌≡◌, drop}
use Rattle.toml.specs.View.{view}
use Rattle.ngc_setup_sheet.specs.Mistakes.{unmet}
use Rattle.ngc_setup_sheet.proofs.rows.unmet_of.Given as goal

abbrev pub invariant-loop-row : goal.invariant-loop-row
invariant-loop-row l = unmet l.fault (view l.tree) l.rows ≡ unmet l.fault (view l.tree) (drop l.row-index l.rows)
