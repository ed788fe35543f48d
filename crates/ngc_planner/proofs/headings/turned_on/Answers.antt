use Rattle.ngc_planner.proofs.WindowLaws.{between_small}
use Rattle.ngc_planner.proofs.headings.turned_on.Goals as goal

pub returns-then-is_below_half-clause-bound : goal.returns-then-is_below_half-clause-bound
returns-then-is_below_half-clause-bound c =
    rw (c.difference_between.ensures, c.heading.ensures, c.heading-then-is_below_half.ensures) (between_small c.arc_vector-start.result c.arc_vector-end.result)
