use Rattle.ngc_place.proofs.MarkLaws.{AreFirst}
use Rattle.ngc_place.proofs.marking.marks.Given as goal

abbrev pub invariant-loop-index : goal.invariant-loop-index
invariant-loop-index g l = AreFirst l.step l.by l.start l.marks.items l.commands l.others l.index
