-- The machine that a file of version 3 describes, or the first mistake of the file. Our own.
use Rattle.std.specs.Prelude.{◌≡◌, Some, Result, Ok, Err}
use Rattle.toml.specs.Data.{Data}
use Rattle.ngc_motor_scale.specs.Scales as motors
use Rattle.ngc_motors.specs.declared.step.MotorStep.{MotorStep}
use Rattle.ngc_motors.specs.declared.step.MotorSteps.{MotorSteps}
use Rattle.ngc_motor_scale.specs.declared.scale.ScaleRefusal.{ScaleRefusal}
use Rattle.ngc_machine_figures.specs.Files.{SheetValues, sheet_of}
use Rattle.ngc_machine_figures.specs.declared.key.AxisName.{AxisName}
use Rattle.ngc_machine_figures.specs.declared.key.AxisName.TheVariants as axes
use Rattle.ngc_machine_figures.specs.declared.refusal.FileRefusal.{FileRefusal}
use Rattle.ngc_machine_figures.specs.declared.sheet.AxesSheet.{AxesSheet}
use Rattle.ngc_machine_figures.specs.declared.sheet.AxisSheet.{AxisSheet}
use Rattle.ngc_machine_figures.specs.declared.sheet.HeadSheet.{HeadSheet}
use Rattle.ngc_machine_files.specs.Machine.{MachineFile}
use Rattle.ngc_machine_files.specs.MachineText.{checked_machine}
use Rattle.ngc_machine_files.specs.declared.fault.FileFault.{FileFault}
use Rattle.ngc_machine_files.specs.declared.fault.FileFault.TheVariants as faults
use Rattle.ngc_machine_maker.specs.Numbers.{numbers_of}
use Rattle.ngc_machine_maker.specs.declared.numbers.MachineNumbers.{MachineNumbers}
use Rattle.ngc_machine_maker.specs.declared.refusal.FigureRefusal.{FigureRefusal}
use Rattle.ngc_written_machines.specs.Contents.{values_by}
use Rattle.ngc_written_machines.specs.Figures.{figures_of}
use Rattle.ngc_written_machines.specs.Motors.{grid_of}
use Rattle.ngc_written_machines.specs.declared.refusal.WrittenFault.{WrittenFault}
use Rattle.ngc_written_machines.specs.declared.refusal.WrittenFault.TheVariants.{Memory, Refused}
use Rattle.ngc_written_machines.specs.declared.refusal.WrittenRefusal.{WrittenRefusal}
use Rattle.ngc_written_machines.specs.declared.refusal.WrittenRefusal.TheVariants as refusals

-- the result, with its refusal as another one
abbrev pub refused_as : {T E : Type 0} → (E → WrittenRefusal) → Result T E → Result T WrittenRefusal
refused_as f (Ok x) = Ok x
refused_as f (Err e) = Err (f e)

infixl 10 ◌>>=◌
abbrev pub ◌>>=◌ : {A B : Type 0} → Result A WrittenRefusal → (A → Result B WrittenRefusal) →
    Result B WrittenRefusal
(Ok x) >>= f = f x
(Err e) >>= f = Err e

-- ---- the motors

abbrev pub motor_of : AxisName → AxisSheet → Result MotorStep WrittenRefusal
motor_of name axis = refused_as (refusals.Motor name) (motors.scale_of axis.motor)

-- each axis has a motor of its own
unfoldable pub motors_of : AxesSheet → Result MotorSteps WrittenRefusal
motors_of a = do
  x ← motor_of axes.X a.x
  y ← motor_of axes.Y a.y
  z ← motor_of axes.Z a.z
  Ok (record { x = x; y = y; z = z })

-- ---- the rates

-- the rates are in steps of the path's grid
unfoldable pub rates_with : HeadSheet → MotorSteps → Result MachineNumbers WrittenRefusal
rates_with head own = refused_as refusals.Figure (numbers_of (figures_of head (grid_of own)))

-- ---- the machine

abbrev pub ranged : SheetValues → MotorSteps → MachineNumbers → Result MachineFile WrittenRefusal
ranged sheet own rates =
    refused_as refusals.Range (checked_machine (Some (values_by sheet own rates)))

abbrev pub machine_by : SheetValues → Result MachineFile WrittenRefusal
machine_by sheet = do
  own ← motors_of sheet.head.axes
  rates ← rates_with sheet.head own
  ranged sheet own rates

unfoldable pub written_machine : Data → Result MachineFile WrittenRefusal
written_machine tree = refused_as refusals.Sheet (sheet_of tree) >>= machine_by

-- ---- the result of a call

-- lack of memory isn't the file's mistake
abbrev pub fault_by : FileFault → WrittenFault
fault_by faults.Memory = Memory
fault_by e = Refused (refusals.Range e)

-- the result, seen through a view, equals the definition's, unless memory was refused
abbrev pub WrittenResultIs : {X Y : Type 0} → (X → Y) → Result X WrittenFault →
    Result Y WrittenRefusal → Type 0
WrittenResultIs view (Ok x) says = says ≡ Ok (view x)
WrittenResultIs view (Err (Refused refusal)) says = says ≡ Err refusal
WrittenResultIs view (Err Memory) says = Unit {0}
