-- The storage of a ramp's motions. Our own.
use Rattle.ngc_planner.specs.declared.legs.Store.{Store}
use Rattle.ngc_planner.specs.declared.legs.Store.TheVariants.{Few, Many}
use Rattle.ngc_planner.specs.Queue.{Waiting}
use Rattle.ngc_planner.specs.Ramp.{LEGS}

abbrev pub waiting_in : {A : Type 0} → Store A → Waiting
waiting_in (Few legs) = record { legs = legs.items; room = LEGS }
waiting_in (Many queue) = queue
