use Rattle.std.proofs.Common.{sym, ◌∙◌}
use Rattle.ngc_canned_cycles.proofs.Range.{lengths}
use Rattle.ngc_canned_cycles.proofs.cycle.Cycle.is_in_range.Goals as goal

pub returns-clause-lengths : goal.returns-clause-lengths
returns-clause-lengths c = λ t. lengths _ _ (sym c.has_coordinates.ensures.value ∙ t) c.has_coordinates.ensures.length_u c.has_coordinates.ensures.length_v
