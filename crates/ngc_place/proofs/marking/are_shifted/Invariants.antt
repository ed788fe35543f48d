use Rattle.ngc_place.proofs.MarkLaws.{IsLeft}
use Rattle.ngc_place.proofs.marking.are_shifted.Given as goal

abbrev pub invariant-loop-index : goal.invariant-loop-index
invariant-loop-index l = IsLeft l.step l.by l.start l.program.moving.now l.program.commands.now l.others l.index
