use Rattle.std.proofs.Common.{◌≡◌, ◌-◌, arith, ap, sym, ◌∙◌}
use Rattle.ngc_machine_files.specs.Machine.{file_of}
use Rattle.ngc_collision.specs.Inside.{place_of}
use Rattle.ngc_place.specs.Holds.{pieces_clear}
use Rattle.ngc_place.proofs.Tests.{piece_passes, piece_fails, no_piece}
use Rattle.ngc_place.proofs.fits.pieces_are_clear.Goals as goal

pub loop-k-init : goal.loop-k-init
loop-k-init g c =
    let e : c.args.count ≡ c.args.count - 0 = omega arith in
    ap (pieces_clear (file_of c.args.machine.now) c.args.tool.now (place_of c.args.lowest.now.start) (place_of c.args.lowest.now.end)
    (place_of c.args.highest.now.start) (place_of c.args.highest.now.end) c.args.count 0) e

pub loop-k-preserved : goal.loop-k-preserved
loop-k-preserved g c =
    c.loop-k.invariant
    ∙ piece_passes (file_of c.args.machine.now) c.args.tool.now (place_of c.args.lowest.now.start) (place_of c.args.lowest.now.end)
    (place_of c.args.highest.now.start) (place_of c.args.highest.now.end) c.args.count c.loop-k.k _
    c.loop-k-test.true c.piece_is_clear.ensures c.if-not-piece_is_clear.false

pub returns-then-not-piece_is_clear : goal.returns-then-not-piece_is_clear
returns-then-not-piece_is_clear g c =
    sym (c.loop-k.invariant
    ∙ piece_fails (file_of c.args.machine.now) c.args.tool.now (place_of c.args.lowest.now.start) (place_of c.args.lowest.now.end)
    (place_of c.args.highest.now.start) (place_of c.args.highest.now.end) c.args.count c.loop-k.k _
    c.loop-k-test.true c.piece_is_clear.ensures c.if-not-piece_is_clear.true)

pub returns : goal.returns
returns g c =
    sym (c.loop-k.invariant
    ∙ no_piece (file_of c.args.machine.now) c.args.tool.now (place_of c.args.lowest.now.start) (place_of c.args.lowest.now.end)
    (place_of c.args.highest.now.start) (place_of c.args.highest.now.end) c.args.count c.loop-k.k c.loop-k-test.false)
