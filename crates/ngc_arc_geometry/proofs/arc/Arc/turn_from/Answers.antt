use Rattle.std.proofs.Common.{◌∙◌, sym, rules}
use Rattle.ngc_arc_geometry.proofs.Machine.{area_kept, area_negated, area_negated_fits}
use Rattle.ngc_arc_geometry.proofs.arc.Arc.turn_from.Goals as goal

pub overflow_sub-result : goal.overflow_sub-result
overflow_sub-result c = area_negated_fits c.cross-area.result c.cross-area.ensures.bound

pub returns-in-Clockwise : goal.returns-in-Clockwise
returns-in-Clockwise c =
    let negated = area_negated c.cross-area.result c.cross-area.ensures.bound in
    let sense = sym c.turn.ensures ∙ c.in-Clockwise.is in
    rw (negated, c.cross-area.ensures.value, c.between.ensures, c.between-2.ensures, c.centre-centre.ensures.value, sense) (search rules)

pub returns-in-Counterclockwise : goal.returns-in-Counterclockwise
returns-in-Counterclockwise c =
    let kept = area_kept c.cross-area.result c.cross-area.ensures.bound in
    let sense = sym c.turn.ensures ∙ c.in-Counterclockwise.is in
    rw (kept, c.cross-area.ensures.value, c.between.ensures, c.between-2.ensures, c.centre-centre.ensures.value, sense) (search rules)
