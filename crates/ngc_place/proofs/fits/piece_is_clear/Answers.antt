use Rattle.ngc_machine_files.specs.Machine.{file_of}
use Rattle.ngc_collision.specs.Inside.{place_of}
use Rattle.ngc_place.proofs.Tests.{piece_is}
use Rattle.ngc_place.proofs.fits.piece_is_clear.Goals as goal

pub returns : goal.returns
returns g c =
    piece_is (file_of c.args.machine.now) c.args.tool.now (place_of c.args.lowest.now.start) (place_of c.args.lowest.now.end)
    (place_of c.args.highest.now.start) (place_of c.args.highest.now.end) c.args.count c.args.k _ _ _ _ _
    c.of_piece-cuts.ensures.from c.of_piece-cuts.ensures.to c.low-low.ensures c.high-high.ensures c.box_is_clear.ensures
