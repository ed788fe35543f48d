use Rattle.std.proofs.Common.{sym, ◌∙◌}
use Rattle.ngc_pulses.proofs.SampleLaws.{change_begun}
use Rattle.ngc_pulses.proofs.samples.PulseSamples.tick.Goals as goal

pub returns-in-Err-clause-fault : goal.returns-in-Err-clause-fault
returns-in-Err-clause-fault g c = change_begun c.args.self.now (record { position = c.args.position; switch = c.args.switch }) _ _ _ (sym c.is_rest.ensures ∙ c.if-is_rest.false) c.in-Err.ensures.fault
