-- Each call has one term less.
use Rattle.ngc_quantities.proofs.sum.+sum_by.Given as goal

abbrev pub decreases-sum_by : goal.decreases-sum_by
decreases-sum_by l = l.more
