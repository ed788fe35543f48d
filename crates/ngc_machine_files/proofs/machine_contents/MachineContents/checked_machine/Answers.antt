use Rattle.std.proofs.Common.{sym, ◌∙◌}
use Rattle.ngc_machine_files.proofs.GoodFiles.{IsGood-from_ranges}
use Rattle.ngc_machine_files.proofs.machine_contents.MachineContents.checked_machine.Goals as goal

pub machine-requires : goal.machine-requires
machine-requires c = IsGood-from_ranges _ (sym c.check.ensures ∙ c.in_ok-check.was)
