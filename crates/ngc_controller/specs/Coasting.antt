-- Ticks with nothing to report, many at once. Our own.
use Rattle.std.specs.Prelude.{ℕ, zero, suc, ◌+◌, ◌*◌, nat_lt, List, [], ◌∷◌, replicate, None, Ok}
use Rattle.std.specs.Prelude.{if◌then◌else◌}
use Rattle.ngc_fixed_length.specs.LinePath.{point}
use Rattle.ngc_events.specs.declared.event.Event.TheVariants.{Tick}
use Rattle.ngc_events.specs.declared.reply.Reply.TheVariants.{Ticked}
use Rattle.ngc_machine_model.specs.State.{Job, Queued, State, path_steps, place_before}
use Rattle.ngc_machine_model.specs.Stretch.{Stretch}

-- n ticks at the rate of the last one, in which no pulse is due: the position stays at the current
-- point of the head's path
abbrev pub travelled_on : ℕ → Queued → State → State
travelled_on n l s =
    record s { travelled = s.travelled + n * s.rate; position = point l.path (place_before s) }

-- n ticks of a dwell
abbrev pub dwelt_on : ℕ → State → State
dwelt_on n s = record s { rate = 0; dwelt = s.dwelt + n }

-- n ticks, by the kind of the head
abbrev pub coasted_on : ℕ → List Queued → State → State
coasted_on n [] s = s
coasted_on n (l ∷ ls) s = if nat_lt 0 (path_steps l) then travelled_on n l s else dwelt_on n s

-- the state after n ticks with nothing to report
abbrev pub coasted : ℕ → State → State
coasted zero s = s
coasted (suc n) s = coasted_on (suc n) s.ring s

-- n ticks of the machine may lead to this state, each with this outcome
abbrev pub CoastsFor : Job → State → ℕ → Type 0
CoastsFor job s n =
    Stretch job s (coasted n s) (replicate n Tick) (replicate n (Ok (Ticked None None)))
