use Rattle.std.proofs.Common.{refl}
use Rattle.ngc_map_picture.proofs.Summed.{summed_more}
use Rattle.ngc_map_picture.proofs.sums.Sums.add.Goals as goal

pub returns : goal.returns
returns c bytes are = summed_more c.args.self.now _ bytes c.args.byte (rw (c.from.ensures, c.from-2.ensures) refl) (rw (c.from.ensures, c.from-2.ensures, c.from-3.ensures) refl) are
