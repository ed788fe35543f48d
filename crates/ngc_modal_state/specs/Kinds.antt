-- Kinds of codes (NISTIR 6556, 3.5).
use Rattle.std.specs.Prelude.{ℕ, ◌==◌, Option, Some, Bool, true, false, not}
use Rattle.ngc_fixed_length.specs.declared.modes.FeedMode.{FeedMode}
use Rattle.ngc_fixed_length.specs.declared.modes.FeedMode.TheVariants.{PerMinute, InverseTime}
use Rattle.ngc_modal_state.specs.declared.code.CycleCode.{CycleCode}
use Rattle.ngc_modal_state.specs.declared.code.CycleCode.TheVariants.{Drill, DrillWithDwell, Peck}
use Rattle.ngc_modal_state.specs.declared.code.CycleCode.TheVariants.{Bore, BoreWithStop}
use Rattle.ngc_modal_state.specs.declared.code.CycleCode.TheVariants.{BoreWithDwell}
use Rattle.ngc_modal_state.specs.declared.code.MotionMode.{MotionMode}
use Rattle.ngc_modal_state.specs.declared.code.MotionMode.TheVariants.{Traverse, Straight, Arc}
use Rattle.ngc_modal_state.specs.declared.code.MotionMode.TheVariants.{Cancel, Cycle}
use Rattle.ngc_modal_state.specs.declared.code.LengthCode.{LengthCode}
use Rattle.ngc_modal_state.specs.declared.code.LengthCode.TheVariants as lengths
use Rattle.ngc_modal_state.specs.declared.code.NonModal.{NonModal}
use Rattle.ngc_modal_state.specs.declared.code.NonModal.TheVariants as once

abbrev pub is_straight : MotionMode → Bool
is_straight Traverse = true
is_straight Straight = true
is_straight _ = false

abbrev pub is_arc : MotionMode → Bool
is_arc (Arc turn) = true
is_arc _ = false

abbrev pub is_cycle : MotionMode → Bool
is_cycle (Cycle hole) = true
is_cycle _ = false

abbrev pub is_cancel : MotionMode → Bool
is_cancel Cancel = true
is_cancel _ = false

abbrev pub feeds : MotionMode → Bool
feeds Straight = true
feeds (Arc turn) = true
feeds _ = false

abbrev pub hole_dwells : CycleCode → Bool
hole_dwells DrillWithDwell = true
hole_dwells BoreWithStop = true
hole_dwells BoreWithDwell = true
hole_dwells _ = false

abbrev pub hole_pecks : CycleCode → Bool
hole_pecks Peck = true
hole_pecks _ = false

abbrev pub dwells : MotionMode → Bool
dwells (Cycle hole) = hole_dwells hole
dwells _ = false

abbrev pub pecks : MotionMode → Bool
pecks (Cycle hole) = hole_pecks hole
pecks _ = false

-- the number of a hole's code
abbrev pub hole_number : CycleCode → ℕ
hole_number Drill = 81
hole_number DrillWithDwell = 82
hole_number Peck = 83
hole_number Bore = 85
hole_number BoreWithStop = 86
hole_number BoreWithDwell = 89

-- the second is a cycle with another code than the first
abbrev pub begins_cycle : MotionMode → MotionMode → Bool
begins_cycle (Cycle before) (Cycle hole) = not (hole_number before == hole_number hole)
begins_cycle _ (Cycle hole) = true
begins_cycle _ _ = false

abbrev pub is_inverse : FeedMode → Bool
is_inverse InverseTime = true
is_inverse PerMinute = false

abbrev pub is_dwell : Option NonModal → Bool
is_dwell (Some once.Dwell) = true
is_dwell _ = false

abbrev pub sets_origin : Option NonModal → Bool
sets_origin (Some once.SetOrigin) = true
sets_origin _ = false

abbrev pub sets_offset : Option NonModal → Bool
sets_offset (Some once.SetOffset) = true
sets_offset _ = false

abbrev pub is_machine_place : Option NonModal → Bool
is_machine_place (Some once.MachinePlace) = true
is_machine_place _ = false

-- G10 G28 G30 G92
abbrev pub takes_axes : Option NonModal → Bool
takes_axes (Some once.SetOrigin) = true
takes_axes (Some once.Home28) = true
takes_axes (Some once.Home30) = true
takes_axes (Some once.SetOffset) = true
takes_axes _ = false

abbrev pub applies_length : Option LengthCode → Bool
applies_length (Some lengths.Apply) = true
applies_length _ = false
