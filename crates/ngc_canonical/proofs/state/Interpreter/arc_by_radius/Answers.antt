use Rattle.std.proofs.Common.{◌∙◌, ap, sym}
use Rattle.ngc_canonical.specs.Steps.{faulted}
use Rattle.ngc_canonical.specs.declared.fault.Fault.TheVariants as faults
use Rattle.ngc_canonical.proofs.ArcLaws.{end_of_radius}
use Rattle.ngc_canonical.proofs.state.Interpreter.arc_by_radius.Goals as goal

pub returns-in-Ok-clause-value : goal.returns-in-Ok-clause-value
returns-in-Ok-clause-value g c = ap (faulted faults.Arc) (sym c.in-Ok.is ∙ c.radius_format.ensures)

pub returns-in-Ok-clause-end : goal.returns-in-Ok-clause-end
returns-in-Ok-clause-end g c = end_of_radius c.args.self.now.modes.units c.args.ends.now c.args.radius c.in-Ok.arc (sym c.radius_format.ensures ∙ c.in-Ok.is)

pub returns-in-Err-clause-value : goal.returns-in-Err-clause-value
returns-in-Err-clause-value g c = ap (faulted faults.Arc) (sym c.in-Err.is ∙ c.radius_format.ensures)
