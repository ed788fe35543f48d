use Rattle.ngc_commands.specs.Reached.{at_start}
use Rattle.ngc_sure_contacts.proofs.Walking.{contact_in}
use Rattle.ngc_stock_report.proofs.laws.sure_report.Goals as goal

pub returns : goal.returns
returns c most table m commands w i t contact walk at has =
    contact_in w.stock table (at_start m) commands w.found w.traverses i t contact walk.sure at has
