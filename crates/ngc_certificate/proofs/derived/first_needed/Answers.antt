use Rattle.std.proofs.Common.{arith}
use Rattle.std.proofs.lemmas.Int.{ints, clamps}
use Rattle.ngc_certificate.proofs.derived.first_needed.Goals as goal

pub returns-clause-narrow : goal.returns-clause-narrow
returns-clause-narrow c on_line = let bound = c.first_between.ensures.bound on_line in omega (arith, ints, clamps, bound)
