-- The meaning of a controller. Our own.
use Rattle.std.specs.Prelude.{ℕ, ◌-◌, List, length, nat_lt, Option, None, slice_get, if◌then◌else◌}
use Rattle.ngc_checker.specs.Accepted.{AcceptedData}
use Rattle.ngc_events.specs.declared.reply.Reply.{Reply}
use Rattle.ngc_machine_model.specs.State.{Job, State}

-- what it runs, the machine's state, the latest replies in order, and the accepted program, from
-- which the job is taken
pub record ControllerData : Type 0 where
  pub job : Job
  pub state : State
  pub recent : List Reply
  pub accepted : AcceptedData

-- the number of replies that are stored
abbrev pub KEPT : ℕ
KEPT = 256

-- the reply i places before the last
abbrev pub from_the_last : ℕ → List Reply → Option Reply
from_the_last i replies =
    if nat_lt i (length replies) then slice_get replies (length replies - i - 1) else None
