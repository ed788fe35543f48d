use Rattle.std.proofs.Common.{ap, ◌∙◌}
use Rattle.ngc_dialect_numbers.specs.Numbers.{truth}
use Rattle.ngc_dialect_parameters.specs.Stored.{stored_in}
use Rattle.ngc_dialect_flow.proofs.ReturnLaws.{returned_as}
use Rattle.ngc_dialect_flow.proofs.returning.leave_with.Goals as goal

pub returns : goal.returns
returns g c =
    returned_as c.args.value (stored_in c.args.parameters.now) (stored_in c.set_named.new.self) (stored_in c.set_named-2.new.self) (stored_in c.leave.new.self) c.or_zero.result c.truth.result c.or_zero.ensures (c.truth.ensures ∙ ap truth c.is_some.ensures) c.in-Ok.ensures.set
    c.in-Ok-set_named.ensures.set c.leave.ensures.left
