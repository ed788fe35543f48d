-- The stored form of the machine, its tools and the state of a program.
use Rattle.std.specs.Prelude.{◌≡◌, Result, Ok, Err}
use Rattle.ngc_machine_files.specs.declared.machine.Machine.{Machine}
use Rattle.ngc_machine_files.specs.declared.tools.Tools.{Tools}
use Rattle.ngc_machine_files.specs.Machine.{file_of}
use Rattle.ngc_machine_files.specs.Tools.{tools_of}
use Rattle.ngc_parameters.specs.Stored.{parameters_of}
use Rattle.ngc_canonical.specs.declared.fault.Fault.{Fault}
use Rattle.ngc_canonical.specs.declared.fault.ProgramFault.{ProgramFault}
use Rattle.ngc_canonical.specs.declared.fault.ProgramFault.TheVariants as faults
use Rattle.ngc_canonical.specs.declared.state.LineRefusal.{LineRefusal}
use Rattle.ngc_canonical.specs.declared.state.LineRefusal.TheVariants.{Breaks, Memory}
use Rattle.ngc_canonical.specs.declared.state.Interpreter.{Interpreter}
use Rattle.ngc_canonical.specs.State.{Setup, State}

abbrev pub setup_of : {A : Type 0} → Machine A → Tools A → Setup
setup_of machine tools = record { machine = file_of machine; tools = tools_of tools }

abbrev pub state_of : {A : Type 0} → Interpreter A → State
state_of i = record {
  line = i.line;
  modes = i.modes;
  parameters = parameters_of i.store;
  frames = i.frames;
  place = i.place;
  feed = i.feed;
  speed = i.speed;
  spindle = i.spindle;
  coolant = i.coolant;
  selected = i.selected;
  kept = i.kept;
  series = i.series;
  commands = i.commands.items;
  ended = i.ended;
}

-- after a step that may be refused, the state is the definition's
abbrev pub Becomes : Result (Unit {0}) LineRefusal → State → Result State Fault → Type 0
Becomes (Ok u) new says = says ≡ Ok new
Becomes (Err (Breaks e)) new says = says ≡ Err e
Becomes (Err Memory) new says = Unit {0}

abbrev pub BecomesAt : Result (Unit {0}) ProgramFault → State → Result State ProgramFault → Type 0
BecomesAt (Ok u) new says = says ≡ Ok new
BecomesAt (Err (faults.At line e)) new says = says ≡ Err (faults.At line e)
BecomesAt (Err faults.Memory) new says = Unit {0}
