-- The code of a G or M word's value (NISTIR 6556, 3.5 and 3.6). A code is written in tenths: 592 is
-- G59.2. A value must be a code exactly. This is our own rule: the manual allows a small
-- difference.
use Rattle.std.specs.Prelude.{ℕ, ◌/◌, ◌%◌, ◌==◌, ℤ, pos, negsuc, List, [], ◌∷◌, ◌++◌, Option, Some}
use Rattle.std.specs.Prelude.{None, Result, Ok, Err, Bool, true, false, if◌then◌else◌}
use Rattle.ngc_fixed_length.specs.declared.units.Units.TheVariants.{Millimetres, Inches}
use Rattle.ngc_fixed_length.specs.declared.modes.Plane.TheVariants.{XY, ZX, YZ}
use Rattle.ngc_fixed_length.specs.declared.modes.Distance.TheVariants.{Absolute, Incremental}
use Rattle.ngc_fixed_length.specs.declared.modes.FeedMode.TheVariants.{PerMinute, InverseTime}
use Rattle.ngc_fixed_length.specs.declared.modes.RetractMode.TheVariants.{Series, Retract}
use Rattle.ngc_fixed_length.specs.declared.modes.Turn.TheVariants.{Clockwise, Counterclockwise}
use Rattle.ngc_fixed_length.specs.declared.modes.System.TheVariants.{First, Second, Third, Fourth}
use Rattle.ngc_fixed_length.specs.declared.modes.System.TheVariants.{Fifth, Sixth, Seventh, Eighth}
use Rattle.ngc_fixed_length.specs.declared.modes.System.TheVariants.{Ninth}
use Rattle.ngc_line_reader.specs.declared.letter.Letter.{Letter}
use Rattle.ngc_line_reader.specs.declared.letter.Letter.TheVariants.{G, M}
use Rattle.ngc_modal_state.specs.Tables.{at_number, has_number}
use Rattle.ngc_modal_state.specs.declared.code.CycleCode.TheVariants.{Drill, DrillWithDwell, Peck}
use Rattle.ngc_modal_state.specs.declared.code.CycleCode.TheVariants.{Bore, BoreWithStop}
use Rattle.ngc_modal_state.specs.declared.code.CycleCode.TheVariants.{BoreWithDwell}
use Rattle.ngc_modal_state.specs.declared.code.MotionMode.TheVariants as motions
use Rattle.ngc_modal_state.specs.declared.code.LengthCode.TheVariants as lengths
use Rattle.ngc_modal_state.specs.declared.code.PathControl.TheVariants.{ExactPath, ExactStop}
use Rattle.ngc_modal_state.specs.declared.code.PathControl.TheVariants.{Continuous}
use Rattle.ngc_modal_state.specs.declared.code.NonModal.TheVariants as once
use Rattle.ngc_modal_state.specs.declared.code.Stopping.TheVariants as stops
use Rattle.ngc_modal_state.specs.declared.code.Spindle.TheVariants as spindle
use Rattle.ngc_modal_state.specs.declared.code.Coolant.TheVariants.{Mist, Flood, Off}
use Rattle.ngc_modal_state.specs.declared.code.Code.{Code}
use Rattle.ngc_modal_state.specs.declared.code.Code.TheVariants.{Motion, Plane, Distance, FeedMode}
use Rattle.ngc_modal_state.specs.declared.code.Code.TheVariants.{Units, CutterCompensationOff, ToolLength}
use Rattle.ngc_modal_state.specs.declared.code.Code.TheVariants.{Return, System, Path, NonModal}
use Rattle.ngc_modal_state.specs.declared.code.Code.TheVariants.{Stopping, ChangeTool, Spindle}
use Rattle.ngc_modal_state.specs.declared.code.Code.TheVariants.{Coolant, Override}
use Rattle.ngc_modal_state.specs.declared.fault.ModalFault.{ModalFault}
use Rattle.ngc_modal_state.specs.declared.fault.ModalFault.TheVariants.{UnknownCode, LeftOut}

unfoldable pub motion_codes : List (ℕ × Code)
motion_codes =
    (0, Motion motions.Traverse) ∷ (10, Motion motions.Straight) ∷
    (20, Motion (motions.Arc Clockwise)) ∷ (30, Motion (motions.Arc Counterclockwise)) ∷
    (800, Motion motions.Cancel) ∷ (810, Motion (motions.Cycle Drill)) ∷
    (820, Motion (motions.Cycle DrillWithDwell)) ∷ (830, Motion (motions.Cycle Peck)) ∷
    (850, Motion (motions.Cycle Bore)) ∷ (860, Motion (motions.Cycle BoreWithStop)) ∷
    (890, Motion (motions.Cycle BoreWithDwell)) ∷ []

unfoldable pub mode_codes : List (ℕ × Code)
mode_codes =
    (170, Plane XY) ∷ (180, Plane ZX) ∷ (190, Plane YZ) ∷
    (900, Distance Absolute) ∷ (910, Distance Incremental) ∷
    (930, FeedMode InverseTime) ∷ (940, FeedMode PerMinute) ∷
    (200, Units Inches) ∷ (210, Units Millimetres) ∷
    (400, CutterCompensationOff) ∷ (430, ToolLength lengths.Apply) ∷ (490, ToolLength lengths.Cancel) ∷
    (980, Return Series) ∷ (990, Return Retract) ∷
    (540, System First) ∷ (550, System Second) ∷ (560, System Third) ∷
    (570, System Fourth) ∷ (580, System Fifth) ∷ (590, System Sixth) ∷
    (591, System Seventh) ∷ (592, System Eighth) ∷ (593, System Ninth) ∷
    (610, Path ExactPath) ∷ (611, Path ExactStop) ∷ (640, Path Continuous) ∷ []

-- the nonmodal codes
unfoldable pub once_codes : List (ℕ × Code)
once_codes =
    (40, NonModal once.Dwell) ∷ (100, NonModal once.SetOrigin) ∷
    (280, NonModal once.Home28) ∷ (300, NonModal once.Home30) ∷ (530, NonModal once.MachinePlace) ∷
    (920, NonModal once.SetOffset) ∷ (921, NonModal once.ClearOffset) ∷
    (922, NonModal once.SuspendOffset) ∷ (923, NonModal once.RestoreOffset) ∷ []

abbrev pub g_codes : List (ℕ × Code)
g_codes = motion_codes ++ (mode_codes ++ once_codes)

unfoldable pub m_codes : List (ℕ × Code)
m_codes =
    (0, Stopping stops.Stop) ∷ (10, Stopping stops.OptionalStop) ∷ (20, Stopping stops.End) ∷
    (300, Stopping stops.End) ∷ (600, Stopping stops.Stop) ∷
    (60, ChangeTool) ∷
    (30, Spindle (spindle.Start Clockwise)) ∷ (40, Spindle (spindle.Start Counterclockwise)) ∷
    (50, Spindle spindle.Stop) ∷
    (70, Coolant Mist) ∷ (80, Coolant Flood) ∷ (90, Coolant Off) ∷
    (480, Override true) ∷ (490, Override false) ∷ []

-- G38.2 G41 G42 G84 G87 G88
abbrev pub left_out_codes : List ℕ
left_out_codes = 382 ∷ 410 ∷ 420 ∷ 840 ∷ 870 ∷ 880 ∷ []

-- a value in tenths, if it is a whole number of them
abbrev pub tenths : ℤ → Option ℕ
tenths (pos n) = if n % 100000 == 0 then Some (n / 100000) else None
tenths (negsuc n) = None

-- whether a value in tenths is a code that is left out
abbrev pub is_left_out : Option ℕ → Bool
is_left_out None = false
is_left_out (Some n) = has_number n left_out_codes

-- the code at a value in tenths
abbrev pub code_at : List (ℕ × Code) → Option ℕ → Option Code
code_at codes None = None
code_at codes (Some n) = at_number n codes

-- the code, or else the word that is no code
abbrev pub known : Letter → ℤ → Option Code → Result Code ModalFault
known letter value (Some code) = Ok code
known letter value None = Err (UnknownCode letter value)

unfoldable pub g_code : ℤ → Result Code ModalFault
g_code value = if is_left_out (tenths value) then Err LeftOut
    else known G value (code_at g_codes (tenths value))

unfoldable pub m_code : ℤ → Result Code ModalFault
m_code value = known M value (code_at m_codes (tenths value))
