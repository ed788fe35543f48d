use Rattle.std.proofs.Common.{refl}
use Rattle.ngc_map_picture.specs.Checks.{adler}
use Rattle.ngc_map_picture.proofs.sums.Sums.value.Goals as goal

pub returns : goal.returns
unfolding adler
returns c bytes are = rw (c.from.ensures, c.from-2.ensures, are.low_sum, are.high_sum) refl
