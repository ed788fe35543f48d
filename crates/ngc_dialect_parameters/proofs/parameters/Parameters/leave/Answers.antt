use Rattle.ngc_dialect_parameters.proofs.StoredLaws.{call_left}
use Rattle.ngc_dialect_parameters.proofs.parameters.Parameters.leave.Goals as goal

pub returns-in-Some-clause-left : goal.returns-in-Some-clause-left
returns-in-Some-clause-left g c =
    call_left c.args.self.now c.set_locals.new.self c.in-Some.call c.pop.new.self.items c.in-Some.ensures.items (rw c.as_slice.ensures.value at c.set_locals.ensures)
