-- Spindle, coolant and tool change (NISTIR 6556, 3.7.1 to 3.7.3, 3.6.2 to 3.6.4).
use Rattle.std.specs.Prelude.{ℕ, zero, suc, ℤ, unsigned_abs, List, Option, Some, None, Result, Ok}
use Rattle.std.specs.Prelude.{Err}
use Rattle.ngc_fixed_length.specs.declared.modes.Turn.{Turn}
use Rattle.ngc_machine_files.specs.declared.tools.Tool.{Tool}
use Rattle.ngc_machine_files.specs.Tools.{tool_at}
use Rattle.ngc_modal_state.specs.declared.code.Coolant.{Coolant}
use Rattle.ngc_modal_state.specs.declared.code.Coolant.TheVariants as coolant
use Rattle.ngc_modal_state.specs.declared.code.Spindle.{Spindle}
use Rattle.ngc_modal_state.specs.declared.code.Spindle.TheVariants as spindle
use Rattle.ngc_commands.specs.declared.command.Action.TheVariants as actions
use Rattle.ngc_commands.specs.declared.command.CoolantState.{CoolantState}
use Rattle.ngc_commands.specs.declared.command.CoolantState.TheVariants.{Off, Mist, Flood, Both}
use Rattle.ngc_commands.specs.declared.command.SpindleState.{SpindleState}
use Rattle.ngc_commands.specs.declared.command.SpindleState.TheVariants as turning
use Rattle.ngc_canonical.specs.declared.fault.Fault.{Fault}
use Rattle.ngc_canonical.specs.declared.fault.Fault.TheVariants.{NoSuchTool}
use Rattle.ngc_canonical.specs.State.{State, emit}

abbrev pub spindle_state : Option Turn → ℕ → SpindleState
spindle_state None speed = turning.Off
spindle_state (Some turn) speed = turning.Turning turn speed

-- S adds a command at once while the spindle turns
abbrev pub emit_speed : Option Turn → State → Result State Fault
emit_speed None s = Ok s
emit_speed (Some turn) s = emit (actions.Spindle (turning.Turning turn s.speed)) s

abbrev pub set_speed : ℤ → State → Result State Fault
set_speed v s = emit_speed s.spindle (record s { speed = unsigned_abs v })

abbrev pub turn_of : Spindle → Option Turn
turn_of (spindle.Start turn) = Some turn
turn_of spindle.Stop = None

abbrev pub set_spindle : Spindle → State → Result State Fault
set_spindle code s = emit (actions.Spindle (spindle_state (turn_of code) s.speed))
    (record s { spindle = turn_of code })

-- M6 mounts the selected tool, or none, and leaves the spindle off
abbrev pub mount : Option Tool → State → Result State Fault
mount tool s = emit (actions.Mount tool) (record s { spindle = None })

abbrev pub mount_found : ℕ → Option Tool → State → Result State Fault
mount_found n None s = Err (NoSuchTool n)
mount_found n (Some tool) s = mount (Some tool) s

-- tool 0 is no tool
abbrev pub change_tool : List Tool → ℕ → State → Result State Fault
change_tool tools zero s = mount None s
change_tool tools (suc n) s = mount_found (suc n) (tool_at tools (suc n)) s

-- M7 adds the mist, M8 the flood, M9 turns both off
abbrev pub with_mist : CoolantState → CoolantState
with_mist Off = Mist
with_mist Mist = Mist
with_mist Flood = Both
with_mist Both = Both

abbrev pub with_flood : CoolantState → CoolantState
with_flood Off = Flood
with_flood Mist = Both
with_flood Flood = Flood
with_flood Both = Both

abbrev pub with_coolant : Coolant → CoolantState → CoolantState
with_coolant coolant.Mist had = with_mist had
with_coolant coolant.Flood had = with_flood had
with_coolant coolant.Off had = Off

abbrev pub set_coolant : Coolant → State → Result State Fault
set_coolant code s = let now = with_coolant code s.coolant in
    emit (actions.Coolant now) (record s { coolant = now })
