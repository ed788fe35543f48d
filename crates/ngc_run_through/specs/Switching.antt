-- What the commands of a program do to the spindle and the coolant. Our own.
use Rattle.std.specs.Prelude.{◌≡◌, List, map, slice_get, unwrap_or, Option, Some, None, true}
use Rattle.std.specs.Prelude.{false}
use Rattle.ngc_commands.specs.declared.command.Action.{Action}
use Rattle.ngc_commands.specs.declared.command.Action.TheVariants as actions
use Rattle.ngc_commands.specs.declared.command.Command.{Command}
use Rattle.ngc_commands.specs.declared.command.CoolantState.{CoolantState}
use Rattle.ngc_commands.specs.declared.command.CoolantState.TheVariants as coolants
use Rattle.ngc_commands.specs.declared.command.SpindleState.{SpindleState}
use Rattle.ngc_commands.specs.declared.command.SpindleState.TheVariants as spindles
use Rattle.ngc_events.specs.declared.reply.Ending.{Ending}
use Rattle.ngc_events.specs.declared.reply.Ending.TheVariants.{Done, Stopped, End}
use Rattle.ngc_pulses.specs.declared.samples.Switch.{Switch}
use Rattle.ngc_pulses.specs.declared.samples.Switch.TheVariants.{Nothing, Spindle, Coolant, AllOff}
use Rattle.ngc_run_through.specs.declared.trace.Form.{Form}
use Rattle.ngc_run_through.specs.declared.trace.Form.TheVariants as forms

abbrev pub spindle_switch : SpindleState → Switch
spindle_switch spindles.Off = Spindle false
spindle_switch (spindles.Turning turn speed) = Spindle true

abbrev pub coolant_switch : CoolantState → Switch
coolant_switch coolants.Off = Coolant false
coolant_switch coolants.Mist = Coolant true
coolant_switch coolants.Flood = Coolant true
coolant_switch coolants.Both = Coolant true

-- what a command switches when it ends; another tool is mounted with the spindle off
abbrev pub switch_by : Action → Switch
switch_by (actions.Spindle state) = spindle_switch state
switch_by (actions.Mount tool) = Spindle false
switch_by (actions.Coolant state) = coolant_switch state
switch_by actions.End = AllOff
switch_by (actions.Move m) = Nothing
switch_by (actions.Dwell time) = Nothing
switch_by (actions.Override on) = Nothing
switch_by actions.Stop = Nothing
switch_by actions.OptionalStop = Nothing

abbrev pub switches : List Command → List Switch
switches commands = map (λ (c : Command). switch_by c.action) commands

-- what is switched in a tick in which a command has this ending, or none ends
abbrev pub switch_in : List Switch → Option Ending → Switch
switch_in list None = Nothing
switch_in list (Some (Done k)) = unwrap_or (slice_get list k) Nothing
switch_in list (Some (Stopped k)) = Nothing
switch_in list (Some End) = AllOff

-- the facts about these switches for a run that is written in a form
abbrev pub AreSwitches : Form → List Command → List Switch → Type 0
AreSwitches forms.Log commands list = Unit {0}
AreSwitches forms.Times commands list = Unit {0}
AreSwitches forms.Pulses commands list = Unit {0}
AreSwitches (forms.Samples inverted) commands list = list ≡ switches commands
