-- The quadrants about a centre, in the direction of turning. Our own.
use Rattle.std.specs.Prelude.{ℕ, ◌+◌, ◌-◌, ◌%◌}
use Rattle.ngc_circle_walk.specs.declared.spoke.Quadrant.{Quadrant}
use Rattle.ngc_circle_walk.specs.declared.spoke.Quadrant.TheVariants.{First, Second, Third, Fourth}

abbrev pub following : Quadrant → Quadrant
following First = Second
following Second = Third
following Third = Fourth
following Fourth = First

-- the numbers of the quadrants, and the number of quadrants from one to another
abbrev pub number : Quadrant → ℕ
number First = 0
number Second = 1
number Third = 2
number Fourth = 3

abbrev pub quadrants_to : Quadrant → Quadrant → ℕ
quadrants_to p q = (number q + 4 - number p) % 4
