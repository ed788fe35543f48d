use Rattle.std.proofs.Common.{◌∙◌, ap, sym}
use Rattle.ngc_canonical.specs.Steps.{faulted}
use Rattle.ngc_canonical.specs.declared.fault.Fault.TheVariants as faults
use Rattle.ngc_canonical.proofs.ArcLaws.{end_of_centre}
use Rattle.ngc_canonical.proofs.state.Interpreter.arc_by_centre.Goals as goal

pub returns-in-Ok-clause-value : goal.returns-in-Ok-clause-value
returns-in-Ok-clause-value g c = ap (faulted faults.Arc) (sym c.in-Ok.is ∙ c.centre_format.ensures)

pub returns-in-Ok-clause-end : goal.returns-in-Ok-clause-end
returns-in-Ok-clause-end g c =
    end_of_centre c.args.self.now.modes.units c.args.ends.now c.args.offsets.now c.in-Ok.arc (sym c.centre_format.ensures ∙ c.in-Ok.is)

pub returns-in-Err-clause-value : goal.returns-in-Err-clause-value
returns-in-Err-clause-value g c = ap (faulted faults.Arc) (sym c.in-Err.is ∙ c.centre_format.ensures)
