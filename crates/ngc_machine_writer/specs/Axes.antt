-- The table of an axis in a machine file of version 3. Our own.
use Rattle.std.specs.Prelude.{ℕ, List, ◌++◌, codes}
use Rattle.ngc_text.specs.Millimetres.{size_text}
use Rattle.ngc_machine_maker.specs.declared.figures.End.{End}
use Rattle.ngc_machine_maker.specs.declared.figures.End.TheVariants as ends
use Rattle.ngc_machine_maker.specs.declared.figures.Figures.{Figures}
use Rattle.ngc_machine_maker.specs.declared.figures.Length.{Length}
use Rattle.ngc_machine_maker.specs.declared.figures.StepsPerMillimetre.{StepsPerMillimetre}
use Rattle.ngc_machine_writer.specs.declared.axis.AxisFigures.{AxisFigures}
use Rattle.ngc_machine_writer.specs.Lines.{acceleration_line, quantity_line, speed_line}

abbrev pub x_of : Figures → AxisFigures
x_of f = record {
  motor = f.motors.x;
  zero = f.zero.x;
  travel = f.travel.x;
  feed = f.feed.x;
  acceleration = f.acceleration.x;
}

abbrev pub y_of : Figures → AxisFigures
y_of f = record {
  motor = f.motors.y;
  zero = f.zero.y;
  travel = f.travel.y;
  feed = f.feed.y;
  acceleration = f.acceleration.y;
}

abbrev pub z_of : Figures → AxisFigures
z_of f = record {
  motor = f.motors.z;
  zero = f.zero.z;
  travel = f.travel.z;
  feed = f.feed.z;
  acceleration = f.acceleration.z;
}

-- as: motor = "188.976 steps/mm"
abbrev pub motor_line : StepsPerMillimetre → List ℕ
motor_line motor = quantity_line (codes "motor") motor.millionths (codes "steps/mm")

-- as: travel = "-45 mm to 0 mm"
abbrev pub travel_line : End → Length → List ℕ
travel_line ends.Low travel =
    codes "travel = \"0 mm to " ++ size_text travel.nanometres ++ codes " mm\"\n"
travel_line ends.High travel =
    codes "travel = \"-" ++ size_text travel.nanometres ++ codes " mm to 0 mm\"\n"

unfoldable pub axis_lines : List ℕ → AxisFigures → List ℕ
axis_lines name a = codes "\n[axis." ++ name ++ codes "]\n" ++ motor_line a.motor
    ++ travel_line a.zero a.travel ++ speed_line (codes "speed") a.feed
    ++ acceleration_line (codes "acceleration") a.acceleration
