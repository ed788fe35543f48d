use Rattle.ngc_dialect_parameters.proofs.StoredLaws.{nothing_stored}
use Rattle.ngc_dialect_parameters.proofs.parameters.Parameters.new.Goals as goal

pub returns-clause-none : goal.returns-clause-none
returns-clause-none g c =
    nothing_stored c.args.dialect c.loop-numbers.numbers.items c.new.result c.new-2.result c.new-3.result.items c.loop-numbers.invariant.unset
    c.new.ensures.values c.new-2.ensures.values c.new.ensures.count c.new-2.ensures.count c.new-3.ensures.items
