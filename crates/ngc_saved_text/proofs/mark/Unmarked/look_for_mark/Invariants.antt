use Rattle.std.proofs.Common.{◌≡◌, ◌-◌, length, true}
use Rattle.std.specs.Io.KnownBytes.{Keeps}
use Rattle.ngc_saved_text.specs.Saved.{unmarked_remaining}
use Rattle.ngc_saved_text.specs.Sources.{unmarked_at_start, unmarked_front, unmarked_inner}
use Rattle.ngc_saved_text.proofs.mark.Unmarked.look_for_mark.Given as goal

abbrev pub invariant-loop-self : goal.invariant-loop-self
invariant-loop-self g l =
    (unmarked_at_start l.self ≡ true) ×
    Keeps
    (unmarked_remaining true (unmarked_front l.initial.self) (g.S.Source.remaining (unmarked_inner l.initial.self)))
    (unmarked_remaining true (unmarked_front l.self) (g.S.Source.remaining (unmarked_inner l.self))) ×
    (g.S.Source.failures (unmarked_inner l.self) ≡ g.S.Source.failures (unmarked_inner l.initial.self))

abbrev pub decreases-loop-self : goal.decreases-loop-self
decreases-loop-self g l = 3 - length (unmarked_front l.self)
