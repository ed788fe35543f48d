use Rattle.std.proofs.Common.{◌≡◌, drop}
use Rattle.ngc_drawing.specs.Pictures.{scale_in}
use Rattle.ngc_drawing.proofs.picture.first_within.Given as goal

abbrev pub invariant-loop-length : goal.invariant-loop-length
invariant-loop-length l = scale_in l.most (drop l.length-index l.lengths) ≡ scale_in l.most l.lengths
