-- A line's effects, in order of execution (NISTIR 6556, 3.8).
use Rattle.std.specs.Prelude.{ℕ, ◌≤◌, ℤ, List, [], ◌∷◌, ◌++◌, Option, Some, None, Result, Ok}
use Rattle.std.specs.Prelude.{option_map, option_to_list, flat_map, length, unwrap_or, Bool, ◌||◌}
use Rattle.std.specs.Prelude.{if◌then◌else◌}
use Rattle.ngc_fixed_length.specs.declared.modes.System.{System}
use Rattle.ngc_fixed_length.specs.declared.modes.System.TheVariants.{First, Second, Third, Fourth}
use Rattle.ngc_fixed_length.specs.declared.modes.System.TheVariants.{Fifth, Sixth, Seventh, Eighth}
use Rattle.ngc_fixed_length.specs.declared.modes.System.TheVariants.{Ninth}
use Rattle.ngc_fixed_length.specs.declared.modes.FeedMode.{FeedMode}
use Rattle.ngc_fixed_length.specs.declared.modes.FeedMode.TheVariants.{PerMinute, InverseTime}
use Rattle.ngc_modal_state.specs.Tables.{at_number}
use Rattle.ngc_modal_state.specs.declared.code.MotionMode.{MotionMode}
use Rattle.ngc_modal_state.specs.declared.code.MotionMode.TheVariants as motions
use Rattle.ngc_modal_state.specs.declared.code.LengthCode.{LengthCode}
use Rattle.ngc_modal_state.specs.declared.code.LengthCode.TheVariants as lengths
use Rattle.ngc_modal_state.specs.declared.code.NonModal.{NonModal}
use Rattle.ngc_modal_state.specs.declared.code.NonModal.TheVariants as once
use Rattle.ngc_modal_state.specs.declared.code.Coolant.TheVariants as coolant
use Rattle.ngc_modal_state.specs.declared.modes.Modes.{Modes}
use Rattle.ngc_modal_state.specs.declared.block.Block.{Block}
use Rattle.ngc_modal_state.specs.declared.effect.Home.TheVariants as homes
use Rattle.ngc_modal_state.specs.declared.effect.ArcWords.{ArcWords}
use Rattle.ngc_modal_state.specs.declared.effect.CycleWords.{CycleWords}
use Rattle.ngc_modal_state.specs.declared.effect.Effect.{Effect}
use Rattle.ngc_modal_state.specs.declared.effect.Effect.TheVariants as acts
use Rattle.ngc_modal_state.specs.declared.fault.ModalFault.{ModalFault}
use Rattle.ngc_modal_state.specs.Faults.{◌>>◌}
use Rattle.ngc_modal_state.specs.Kinds.{is_machine_place}
use Rattle.ngc_modal_state.specs.Use.{check, user, has_axes, has_arc_words, feed_mode_of, whole}

-- the table of ranks
abbrev pub rank : Effect → ℕ
rank (acts.FeedMode mode) = 2
rank (acts.Feed value units) = 3
rank (acts.Speed value) = 4
rank (acts.SelectTool n) = 5
rank acts.ChangeTool = 6
rank (acts.Spindle code) = 7
rank (acts.Coolant code) = 8
rank (acts.Override on) = 9
rank (acts.Dwell value) = 10
rank (acts.Plane plane) = 11
rank (acts.Units units) = 12
rank acts.CutterCompensationOff = 13
rank (acts.ToolLength h) = 14
rank (acts.System system) = 15
rank (acts.Path path) = 16
rank (acts.Distance distance) = 17
rank (acts.Return mode) = 18
rank (acts.GoHome home axes) = 19
rank (acts.SetOrigin system axes) = 19
rank (acts.SetOffset axes) = 19
rank acts.ClearOffset = 19
rank acts.SuspendOffset = 19
rank acts.RestoreOffset = 19
rank (acts.Motion code) = 20
rank (acts.Traverse machine axes) = 20
rank (acts.Straight machine axes f) = 20
rank (acts.Arc turn axes words f) = 20
rank (acts.Cycle hole axes words) = 20
rank (acts.Stopping code) = 21

-- F sets the feed in feed per minute, converted by the units that the line leaves in force
abbrev pub feed_effect : FeedMode → Modes → Block → Option Effect
feed_effect PerMinute m b = option_map (λ v. acts.Feed v (unwrap_or b.units m.units)) b.f
feed_effect InverseTime m b = None

-- F of a motion in inverse time
abbrev pub inverse_feed : FeedMode → Option ℤ → Option ℤ
inverse_feed PerMinute f = None
inverse_feed InverseTime f = f

abbrev pub dwell_effect : Option NonModal → Block → Option Effect
dwell_effect (Some once.Dwell) b = option_map acts.Dwell b.p
dwell_effect _ b = None

abbrev pub length_effect : Option LengthCode → Block → Option Effect
length_effect (Some lengths.Apply) b = option_map (λ v. acts.ToolLength (Some (whole v))) b.h
length_effect (Some lengths.Cancel) b = Some (acts.ToolLength None)
length_effect None b = None

abbrev pub systems : List (ℕ × System)
systems = (1, First) ∷ (2, Second) ∷ (3, Third) ∷ (4, Fourth) ∷ (5, Fifth) ∷ (6, Sixth)
    ∷ (7, Seventh) ∷ (8, Eighth) ∷ (9, Ninth) ∷ []

abbrev pub system_at : Option ℤ → Option System
system_at None = None
system_at (Some v) = at_number (whole v) systems

abbrev pub frame_effect : Option NonModal → Block → Option Effect
frame_effect (Some once.SetOrigin) b =
    option_map (λ system. acts.SetOrigin system b.axes) (system_at b.p)
frame_effect (Some once.Home28) b = Some (acts.GoHome homes.First b.axes)
frame_effect (Some once.Home30) b = Some (acts.GoHome homes.Second b.axes)
frame_effect (Some once.SetOffset) b = Some (acts.SetOffset b.axes)
frame_effect (Some once.ClearOffset) b = Some acts.ClearOffset
frame_effect (Some once.SuspendOffset) b = Some acts.SuspendOffset
frame_effect (Some once.RestoreOffset) b = Some acts.RestoreOffset
frame_effect (Some once.Dwell) b = None
frame_effect (Some once.MachinePlace) b = None
frame_effect None b = None

abbrev pub arc_words : Block → ArcWords
arc_words b = record { i = b.i; j = b.j; k = b.k; r = b.r }

abbrev pub cycle_words : Block → CycleWords
cycle_words b = record { l = b.l; p = b.p; q = b.q; r = b.r }

-- an effect, if it is present
abbrev pub mark : Effect → Bool → Option Effect
mark effect stands = if stands then Some effect else None

-- the line's motion, if it moves; an arc without axis words is refused when it is made
abbrev pub move_effect : MotionMode → Option ℤ → Block → Option Effect
move_effect motions.Traverse f b =
    mark (acts.Traverse (is_machine_place b.once) b.axes) (has_axes b)
move_effect motions.Straight f b =
    mark (acts.Straight (is_machine_place b.once) b.axes f) (has_axes b)
move_effect (motions.Arc turn) f b =
    mark (acts.Arc turn b.axes (arc_words b) f) (has_axes b || has_arc_words b)
move_effect motions.Cancel f b = None
move_effect (motions.Cycle hole) f b = Some (acts.Cycle hole b.axes (cycle_words b))

-- the effects of a line's words, in the order of the table of ranks: up to the dwell
unfoldable pub first_effects : Modes → Block → List (Option Effect)
first_effects m b =
    option_map acts.FeedMode b.feed_mode ∷
    feed_effect (feed_mode_of m b) m b ∷
    option_map acts.Speed b.s ∷
    option_map (λ v. acts.SelectTool (whole v)) b.t ∷
    mark acts.ChangeTool b.change_tool ∷
    option_map acts.Spindle b.spindle ∷
    mark (acts.Coolant coolant.Mist) b.mist ∷
    mark (acts.Coolant coolant.Flood) b.flood ∷
    mark (acts.Coolant coolant.Off) b.coolant_off ∷
    option_map acts.Override b.overrides ∷
    dwell_effect b.once b ∷ []

-- the modes
unfoldable pub mode_effects : Block → List (Option Effect)
mode_effects b =
    option_map acts.Plane b.plane ∷
    option_map acts.Units b.units ∷
    mark acts.CutterCompensationOff b.radius_off ∷
    length_effect b.tool_length b ∷
    option_map acts.System b.system ∷
    option_map acts.Path b.path ∷
    option_map acts.Distance b.distance ∷
    option_map acts.Return b.return_mode ∷ []

-- and the motions
unfoldable pub last_effects : Modes → Block → List (Option Effect)
last_effects m b =
    frame_effect b.once b ∷
    option_map acts.Motion b.motion ∷
    move_effect (user m b) (inverse_feed (feed_mode_of m b) b.f) b ∷
    option_map acts.Stopping b.stopping ∷ []

-- those that are present
unfoldable pub standing : List (Option Effect) → List Effect
standing effects = flat_map option_to_list effects

abbrev pub in_order : Modes → Block → List Effect
in_order m b = standing (first_effects m b ++ (mode_effects b ++ last_effects m b))

-- the effects of a block, if each of its words has one use and none is missing
abbrev pub effects : Modes → Block → Result (List Effect) ModalFault
effects m b = check m b >> Ok (in_order m b)

-- ---- laws

-- ranks that begin at least at low and never fall
abbrev pub RanksFrom : ℕ → List Effect → Type 0
RanksFrom low [] = Unit {0}
RanksFrom low (effect ∷ effects) = (low ≤ rank effect) × RanksFrom (rank effect) effects

-- the effects of a line are in order of their ranks, and there are at most 24
abbrev pub IsOrdered : Type 0
IsOrdered = (m : Modes) (b : Block) → RanksFrom 0 (in_order m b)

abbrev pub IsShort : Type 0
IsShort = (m : Modes) (b : Block) → length (in_order m b) ≤ 24
