use Rattle.ngc_run_through.proofs.ResultForms.{are_switches}
use Rattle.ngc_run_through.proofs.through.run_to_end_as.Goals as goal

pub run_with_switches-requires : goal.run_with_switches-requires
run_with_switches-requires g c = are_switches c.args.form _ _ _ _ c.commands.ensures c.as_slice.ensures.value c.in-Ok.ensures.are
