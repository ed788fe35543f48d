use Rattle.std.proofs.Common.{◌+◌, [], ap, sym, ◌∙◌}
use Rattle.ngc_events.specs.Arriving.{Arriving}
use Rattle.ngc_events.specs.Events.{parsed_event}
use Rattle.ngc_events.proofs.ArrivalLaws.{one_more}
use Rattle.ngc_events.proofs.arriving.EventLines.take.Goals as goal

pub returns-in-Ok-complete-clause-takes : goal.returns-in-Ok-complete-clause-takes
returns-in-Ok-complete-clause-takes c = λ text lines h.
    one_more text c.args.piece.now c.in-Some.part.now c.in-Some.rest.now lines c.in-Ok-complete.line _ _ h c.in-Some.ensures
    (sym c.in-Ok-complete.ensures.line ∙ ap (λ (a : Arriving). parsed_event a.begun) c.in-Ok.ensures.ok)
    (c.in-Ok-complete.ensures.next ∙ ap (λ (a : Arriving). record { complete = a.complete + 1; begun = [] }) c.in-Ok.ensures.ok)
