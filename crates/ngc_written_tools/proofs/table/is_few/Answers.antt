use Rattle.ngc_machine_figures.proofs.Items.{item_count-items}
use Rattle.ngc_written_tools.specs.Tables.{is_few}
use Rattle.ngc_written_tools.proofs.table.is_few.Goals as goal

pub returns-clause-value : goal.returns-clause-value
unfolding is_few
returns-clause-value c = rw (item_count-items c.args.values.now)
