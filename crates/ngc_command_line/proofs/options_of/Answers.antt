use Rattle.ngc_command_line.specs.declared.options.Recording.TheVariants.{Log, Pulses}
use Rattle.ngc_command_line.proofs.options_of.Goals as goal

pub run_options-requires-clause-values : goal.run_options-requires-clause-values
run_options-requires-clause-values c = c.requires.whole.run Log c.in-run.is

pub run_options-requires-in-pulses-clause-values : goal.run_options-requires-in-pulses-clause-values
run_options-requires-in-pulses-clause-values c = c.requires.whole.run Pulses c.in-pulses.is
