use Rattle.std.proofs.Common.{refl, None}
use Rattle.ngc_dialect_notes.proofs.Places.{placed, unchanged}
use Rattle.ngc_dialect_notes.proofs.notes.count_in.Goals as goal

pub returns-in-None : goal.returns-in-None
returns-in-None c =
    placed c.args.line c.args.kind c.loop-i.places c.args.places.now c.loop-i.i _ _ None (rw c.loop-i.invariant.long c.loop-i-test.true) c.in-None.is
    c.loop-i.invariant.same (rw c.first_note.ensures refl)

pub returns-then-is_of : goal.returns-then-is_of
returns-then-is_of c =
    placed c.args.line c.args.kind c.loop-i.places c.args.places.now c.loop-i.i _ _ None (rw c.loop-i.invariant.long c.loop-i-test.true) c.in-Some.is
    c.loop-i.invariant.same (rw (c.again.ensures, ← c.is_of.ensures, c.if-is_of.true) refl)

pub returns : goal.returns
returns c =
    unchanged c.args.line c.args.kind c.loop-i.places c.args.places.now c.loop-i.i (rw c.loop-i.invariant.long c.loop-i-test.false) c.loop-i.invariant.same
