use Rattle.std.proofs.Common.{sym, ◌∙◌}
use Rattle.ngc_machine_files.specs.Machine.{file_of}
use Rattle.ngc_collision.specs.Inside.{place_of}
use Rattle.ngc_place.proofs.Tests.{in_pieces, first_tries, skipped, refused, taken, last_try}
use Rattle.ngc_place.proofs.fits.line_is_clear.Goals as goal

pub loop-count-init : goal.loop-count-init
loop-count-init g c = first_tries (file_of c.args.machine.now) c.args.cuts c.args.tool.now (place_of c.args.lowest.now.start) (place_of c.args.lowest.now.end)
    (place_of c.args.highest.now.start) (place_of c.args.highest.now.end)

pub loop-count-preserved-then-count-cuts : goal.loop-count-preserved-then-count-cuts
loop-count-preserved-then-count-cuts g c =
    c.loop-count.invariant
    ∙ skipped (in_pieces (file_of c.args.machine.now) c.args.tool.now (place_of c.args.lowest.now.start) (place_of c.args.lowest.now.end)
    (place_of c.args.highest.now.start) (place_of c.args.highest.now.end))
    c.args.cuts c.loop-count.count-index c.loop-count-test.true c.if-count-cuts.true

pub loop-count-preserved : goal.loop-count-preserved
loop-count-preserved g c =
    c.loop-count.invariant
    ∙ refused (in_pieces (file_of c.args.machine.now) c.args.tool.now (place_of c.args.lowest.now.start) (place_of c.args.lowest.now.end)
    (place_of c.args.highest.now.start) (place_of c.args.highest.now.end))
    c.args.cuts c.loop-count.count-index _ _ c.loop-count-test.true c.if-count-cuts.false c.from.ensures
    c.pieces_are_clear.ensures c.if-pieces_are_clear.false

pub returns-then-pieces_are_clear : goal.returns-then-pieces_are_clear
returns-then-pieces_are_clear g c =
    sym (c.loop-count.invariant
    ∙ taken (in_pieces (file_of c.args.machine.now) c.args.tool.now (place_of c.args.lowest.now.start) (place_of c.args.lowest.now.end)
    (place_of c.args.highest.now.start) (place_of c.args.highest.now.end))
    c.args.cuts c.loop-count.count-index _ _ c.loop-count-test.true c.if-count-cuts.false c.from.ensures
    c.pieces_are_clear.ensures c.if-pieces_are_clear.true)

pub returns : goal.returns
returns g c =
    sym (c.loop-count.invariant
    ∙ last_try (in_pieces (file_of c.args.machine.now) c.args.tool.now (place_of c.args.lowest.now.start) (place_of c.args.lowest.now.end)
    (place_of c.args.highest.now.start) (place_of c.args.highest.now.end))
    c.args.cuts c.loop-count.count-index _ _ c.loop-count-test.false c.from-2.ensures c.pieces_are_clear-2.ensures)
