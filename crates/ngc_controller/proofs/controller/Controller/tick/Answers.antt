use Rattle.std.proofs.Common.{◌∷◌, [], List}
use Rattle.ngc_machine_model.specs.State.{Job, State, Queued}
use Rattle.ngc_machine_model.specs.Progress.{TravelsAtLeast}
use Rattle.ngc_machine_model.specs.Step.{Outcome}
use Rattle.ngc_controller.specs.Fields.{TravelsOn}
use Rattle.ngc_controller.proofs.controller.Controller.tick.Goals as goal

at_least : (job : Job) (ring : List Queued) (old : State) (outcome : Outcome) (new : State) → TravelsOn job ring old outcome new → TravelsAtLeast job ring old new.rate
at_least job [] old outcome new travels = absurd travels
at_least job (l ∷ ls) old outcome new travels = travels.1

pub returns-then-moves-clause-goes_on : goal.returns-then-moves-clause-goes_on
returns-then-moves-clause-goes_on g c = at_least _ _ _ _ _ c.travel.ensures.travels
