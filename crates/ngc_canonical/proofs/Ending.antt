-- Among a line's effects, only the last one stops.
use Rattle.std.proofs.Common.{◌≡◌, List, [], ◌∷◌, ◌++◌, Option, Some, None, Bool, true, false, Result, Ok, Err, refl}
use Rattle.std.specs.Prelude.{ℤ, IfOk, option_map, option_to_list}
use Rattle.ngc_fixed_length.specs.declared.modes.FeedMode.{FeedMode}
use Rattle.ngc_fixed_length.specs.declared.modes.FeedMode.TheVariants.{PerMinute, InverseTime}
use Rattle.ngc_line_reader.specs.declared.letter.Letter.{Letter}
use Rattle.ngc_modal_state.specs.Block.{block_of}
use Rattle.ngc_modal_state.specs.declared.block.Block.{Block}
use Rattle.ngc_modal_state.specs.declared.code.Coolant.TheVariants as coolant
use Rattle.ngc_modal_state.specs.declared.code.LengthCode.{LengthCode}
use Rattle.ngc_modal_state.specs.declared.code.LengthCode.TheVariants as lengths
use Rattle.ngc_modal_state.specs.declared.code.MotionMode.{MotionMode}
use Rattle.ngc_modal_state.specs.declared.code.MotionMode.TheVariants as motions
use Rattle.ngc_modal_state.specs.declared.code.NonModal.{NonModal}
use Rattle.ngc_modal_state.specs.declared.code.NonModal.TheVariants as once
use Rattle.ngc_modal_state.specs.declared.code.Stopping.{Stopping}
use Rattle.ngc_modal_state.specs.declared.effect.Effect.{Effect}
use Rattle.ngc_modal_state.specs.declared.effect.Effect.TheVariants as acts
use Rattle.ngc_modal_state.specs.declared.fault.ModalFault.{ModalFault}
use Rattle.ngc_modal_state.specs.declared.modes.Modes.{Modes}
use Rattle.ngc_modal_state.specs.Effects.{mark, feed_effect, inverse_feed, dwell_effect, length_effect, system_at, frame_effect, move_effect, standing}
use Rattle.ngc_modal_state.specs.Effects.{first_effects, mode_effects, last_effects, in_order, effects}
use Rattle.ngc_modal_state.specs.Faults.{◌>>◌}
use Rattle.ngc_modal_state.specs.Use.{check, user, feed_mode_of, whole}
use Rattle.ngc_canonical.specs.declared.fault.Fault.TheVariants.{Modal}
use Rattle.ngc_canonical.specs.Meaning.{effects_of}
use Rattle.ngc_canonical.specs.Steps.{faulted}
use Rattle.ngc_canonical.proofs.JoinedMotions.{after}

-- an effect that doesn't stop
abbrev pub IsPassing : Effect → Type 0
IsPassing (acts.Stopping code) = ⊥
IsPassing _ = Unit {0}

abbrev pub IsLastIfStop : Effect → List Effect → Type 0
IsLastIfStop (acts.Stopping code) later = later ≡ []
IsLastIfStop _ later = Unit {0}

abbrev pub StopIsLast : List Effect → Type 0
StopIsLast [] = Unit {0}
StopIsLast (effect ∷ effects) = IsLastIfStop effect effects × StopIsLast effects

-- an effect that doesn't stop, if there is one
record Passes (effect : Option Effect) : Type 0 where
  ahead : (rest : List Effect) → StopIsLast rest → StopIsLast (option_to_list effect ++ rest)

passing_last : (effect : Effect) (later : List Effect) → IsPassing effect → IsLastIfStop effect later
passing_last (acts.Stopping code) later passing = absurd passing
passing_last effect later passing = tt

none : Passes None
none = record { ahead = λ rest last. last }

one : (effect : Effect) → IsPassing effect → Passes (Some effect)
one effect passing = record { ahead = λ rest last. (passing_last effect rest passing, last) }

each : {A : Type 0} (f : A → Effect) (o : Option A) → ((a : A) → IsPassing (f a)) → Passes (option_map f o)
each f None passing = none
each f (Some a) passing = one (f a) (passing a)

marked : (effect : Effect) (stands : Bool) → IsPassing effect → Passes (mark effect stands)
marked effect true passing = one effect passing
marked effect false passing = none

feed : (mode : FeedMode) (m : Modes) (b : Block) → Passes (feed_effect mode m b)
feed PerMinute m b = each _ b.f (λ a. tt)
feed InverseTime m b = none

dwell : (code : Option NonModal) (b : Block) → Passes (dwell_effect code b)
dwell (Some once.Dwell) b = each acts.Dwell b.p (λ a. tt)
dwell _ b = none

tool_length : (code : Option LengthCode) (b : Block) → Passes (length_effect code b)
tool_length None b = none
tool_length (Some lengths.Apply) b = each _ b.h (λ a. tt)
tool_length (Some lengths.Cancel) b = one (acts.ToolLength None) tt

frame : (code : Option NonModal) (b : Block) → Passes (frame_effect code b)
frame None b = none
frame (Some once.Dwell) b = none
frame (Some once.SetOrigin) b = each _ (system_at b.p) (λ a. tt)
frame (Some once.Home28) b = one _ tt
frame (Some once.Home30) b = one _ tt
frame (Some once.MachinePlace) b = none
frame (Some once.SetOffset) b = one _ tt
frame (Some once.ClearOffset) b = one acts.ClearOffset tt
frame (Some once.SuspendOffset) b = one acts.SuspendOffset tt
frame (Some once.RestoreOffset) b = one acts.RestoreOffset tt

move : (code : MotionMode) (f : Option ℤ) (b : Block) → Passes (move_effect code f b)
move motions.Traverse f b = marked _ _ tt
move motions.Straight f b = marked _ _ tt
move (motions.Arc turn) f b = marked _ _ tt
move motions.Cancel f b = none
move (motions.Cycle hole) f b = one _ tt

ahead : (effect : Option Effect) (rest : List Effect) → Passes effect → StopIsLast rest → StopIsLast (option_to_list effect ++ rest)
ahead effect rest passes last = passes.ahead rest last

stopping : (o : Option Stopping) → StopIsLast (option_to_list (option_map acts.Stopping o) ++ [])
stopping None = tt
stopping (Some code) = (refl, tt)

-- in the order of execution
in_order_last : (m : Modes) (b : Block) → StopIsLast (in_order m b)
unfolding standing first_effects mode_effects last_effects
in_order_last m b =
    ahead _ _ (each acts.FeedMode b.feed_mode (λ a. tt))
    (ahead _ _ (feed (feed_mode_of m b) m b)
    (ahead _ _ (each acts.Speed b.s (λ a. tt))
    (ahead _ _ (each (λ v. acts.SelectTool (whole v)) b.t (λ a. tt))
    (ahead _ _ (marked acts.ChangeTool b.change_tool tt)
    (ahead _ _ (each acts.Spindle b.spindle (λ a. tt))
    (ahead _ _ (marked (acts.Coolant coolant.Mist) b.mist tt)
    (ahead _ _ (marked (acts.Coolant coolant.Flood) b.flood tt)
    (ahead _ _ (marked (acts.Coolant coolant.Off) b.coolant_off tt)
    (ahead _ _ (each acts.Override b.overrides (λ a. tt))
    (ahead _ _ (dwell b.once b)
    (ahead _ _ (each acts.Plane b.plane (λ a. tt))
    (ahead _ _ (each acts.Units b.units (λ a. tt))
    (ahead _ _ (marked acts.CutterCompensationOff b.radius_off tt)
    (ahead _ _ (tool_length b.tool_length b)
    (ahead _ _ (each acts.System b.system (λ a. tt))
    (ahead _ _ (each acts.Path b.path (λ a. tt))
    (ahead _ _ (each acts.Distance b.distance (λ a. tt))
    (ahead _ _ (each acts.Return b.return_mode (λ a. tt))
    (ahead _ _ (frame b.once b)
    (ahead _ _ (each acts.Motion b.motion (λ a. tt))
    (ahead _ _ (move (user m b) (inverse_feed (feed_mode_of m b) b.f) b)
    (stopping b.stopping))))))))))))))))))))))

checked : (r : Result (Unit {0}) ModalFault) (found : List Effect) → StopIsLast found → IfOk (faulted Modal (r >> Ok found)) StopIsLast
checked (Ok u) found last = last
checked (Err e) found last = tt

pub stops_last : (m : Modes) (words : List (Letter × ℤ)) → IfOk (effects_of m words) StopIsLast
stops_last m words =
    after StopIsLast (faulted Modal (block_of words)) (λ block. faulted Modal (effects m block))
    (λ block. checked (check m block) (in_order m block) (in_order_last m block))
