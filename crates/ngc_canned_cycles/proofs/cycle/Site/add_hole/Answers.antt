use Rattle.std.proofs.Common.{append_assoc, arith}
use Rattle.ngc_canned_cycles.proofs.cycle.Site.add_hole.Goals as goal

pub returns-in-Drill : goal.returns-in-Drill
returns-in-Drill g c =
    rw (c.in-Drill.is, c.add-in-Drill.ensures.items, c.add.ensures.items, c.feed.ensures, c.traverse.ensures) (append_assoc c.args.moves.now.items _ _)

pub returns-in-DrillWithDwell : goal.returns-in-DrillWithDwell
returns-in-DrillWithDwell g c =
    rw (c.in-DrillWithDwell.is, c.add-in-DrillWithDwell-3.ensures.items, c.add-in-DrillWithDwell-2.ensures.items, c.add-in-DrillWithDwell.ensures.items)
    (rw (c.feed-in-DrillWithDwell.ensures, c.traverse-in-DrillWithDwell.ensures, append_assoc c.args.moves.now.items) (append_assoc c.args.moves.now.items _ _))

pub returns-in-Peck : goal.returns-in-Peck
returns-in-Peck g c =
    rw (c.in-Peck.is, c.add-in-Peck.ensures.items, c.add_pecks.ensures.items, c.peck_count-count.ensures.value, c.traverse-in-Peck.ensures)
    (append_assoc c.args.moves.now.items _ _)

pub returns-in-Bore : goal.returns-in-Bore
returns-in-Bore g c =
    rw (c.in-Bore.is, c.add-in-Bore-2.ensures.items, c.add-in-Bore.ensures.items, c.feed-in-Bore.ensures, c.feed-in-Bore-2.ensures)
    (append_assoc c.args.moves.now.items _ _)

pub returns-in-BoreWithStop : goal.returns-in-BoreWithStop
returns-in-BoreWithStop g c =
    rw (c.in-BoreWithStop.is, c.add-in-BoreWithStop-5.ensures.items, c.add-in-BoreWithStop-4.ensures.items, c.add-in-BoreWithStop-3.ensures.items)
    (rw (c.add-in-BoreWithStop-2.ensures.items, c.add-in-BoreWithStop.ensures.items, c.feed-in-BoreWithStop.ensures, c.traverse-in-BoreWithStop.ensures)
    (rw (append_assoc c.args.moves.now.items, append_assoc c.args.moves.now.items, append_assoc c.args.moves.now.items)
    (append_assoc c.args.moves.now.items _ _)))

pub returns-in-BoreWithDwell : goal.returns-in-BoreWithDwell
returns-in-BoreWithDwell g c =
    rw (c.in-BoreWithDwell.is, c.add-in-BoreWithDwell-3.ensures.items, c.add-in-BoreWithDwell-2.ensures.items, c.add-in-BoreWithDwell.ensures.items)
    (rw (c.feed-in-BoreWithDwell.ensures, c.feed-in-BoreWithDwell-2.ensures, append_assoc c.args.moves.now.items) (append_assoc c.args.moves.now.items _ _))

-- there is enough space
pub add-requires : goal.add-requires
add-requires g c = let room = rw c.in-Drill.is at c.requires.room in omega (arith, room)

pub add-requires-in-Drill : goal.add-requires-in-Drill
add-requires-in-Drill g c = let room = rw c.in-Drill.is at c.requires.room in omega (arith, room)

pub add-requires-in-DrillWithDwell : goal.add-requires-in-DrillWithDwell
add-requires-in-DrillWithDwell g c = let room = rw c.in-DrillWithDwell.is at c.requires.room in omega (arith, room)

pub add-requires-in-DrillWithDwell-2 : goal.add-requires-in-DrillWithDwell-2
add-requires-in-DrillWithDwell-2 g c = let room = rw c.in-DrillWithDwell.is at c.requires.room in omega (arith, room)

pub add-requires-in-DrillWithDwell-3 : goal.add-requires-in-DrillWithDwell-3
add-requires-in-DrillWithDwell-3 g c = let room = rw c.in-DrillWithDwell.is at c.requires.room in omega (arith, room)

pub add-requires-in-Bore : goal.add-requires-in-Bore
add-requires-in-Bore g c = let room = rw c.in-Bore.is at c.requires.room in omega (arith, room)

pub add-requires-in-Bore-2 : goal.add-requires-in-Bore-2
add-requires-in-Bore-2 g c = let room = rw c.in-Bore.is at c.requires.room in omega (arith, room)

pub add-requires-in-BoreWithStop : goal.add-requires-in-BoreWithStop
add-requires-in-BoreWithStop g c = let room = rw c.in-BoreWithStop.is at c.requires.room in omega (arith, room)

pub add-requires-in-BoreWithStop-2 : goal.add-requires-in-BoreWithStop-2
add-requires-in-BoreWithStop-2 g c = let room = rw c.in-BoreWithStop.is at c.requires.room in omega (arith, room)

pub add-requires-in-BoreWithStop-3 : goal.add-requires-in-BoreWithStop-3
add-requires-in-BoreWithStop-3 g c = let room = rw c.in-BoreWithStop.is at c.requires.room in omega (arith, room)

pub add-requires-in-BoreWithStop-4 : goal.add-requires-in-BoreWithStop-4
add-requires-in-BoreWithStop-4 g c = let room = rw c.in-BoreWithStop.is at c.requires.room in omega (arith, room)

pub add-requires-in-BoreWithStop-5 : goal.add-requires-in-BoreWithStop-5
add-requires-in-BoreWithStop-5 g c = let room = rw c.in-BoreWithStop.is at c.requires.room in omega (arith, room)

pub add-requires-in-BoreWithDwell : goal.add-requires-in-BoreWithDwell
add-requires-in-BoreWithDwell g c = let room = rw c.in-BoreWithDwell.is at c.requires.room in omega (arith, room)

pub add-requires-in-BoreWithDwell-2 : goal.add-requires-in-BoreWithDwell-2
add-requires-in-BoreWithDwell-2 g c = let room = rw c.in-BoreWithDwell.is at c.requires.room in omega (arith, room)

pub add-requires-in-BoreWithDwell-3 : goal.add-requires-in-BoreWithDwell-3
add-requires-in-BoreWithDwell-3 g c = let room = rw c.in-BoreWithDwell.is at c.requires.room in omega (arith, room)
