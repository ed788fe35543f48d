-- How far a command must move to be clear of its obstacle. Our own.
use Rattle.std.specs.Prelude.{Option, Some, None}
use Rattle.ngc_machine_files.specs.Machine.{MachineFile}
use Rattle.ngc_findings.specs.Rooms.{room}
use Rattle.ngc_findings.specs.Shifts.{room_on, shift_inside, shifts_past}
use Rattle.ngc_findings.specs.declared.clearing.Clearing.{Clearing}
use Rattle.ngc_findings.specs.declared.clearing.Clearing.TheVariants as clearings
use Rattle.ngc_findings.specs.declared.clearing.Inward.{Inward}
use Rattle.ngc_findings.specs.declared.clearing.Passed.{Passed}
use Rattle.ngc_findings.specs.declared.margins.Margin.{Margin}
use Rattle.ngc_findings.specs.declared.scene.Met.{Met}
use Rattle.ngc_findings.specs.declared.scene.Obstacle.{Obstacle}
use Rattle.ngc_findings.specs.declared.scene.Obstacle.TheVariants.{Travel, Fixture}
use Rattle.ngc_findings.specs.declared.scene.Scene.{Scene}

-- past the fixture, over the box of the whole motion
abbrev pub clear_of_fixture : MachineFile → Scene → Met → Passed
clear_of_fixture machine s m = record {
  number = m.number;
  name = m.fixture.name;
  shifts = shifts_past machine.step s.tool s.bounds m.fixture;
}

-- inside the travel along the axis, with the box of the motion in pieces
abbrev pub clear_of_travel : MachineFile → Scene → Margin → Inward
clear_of_travel machine s m = record {
  axis = m.axis;
  side = m.side;
  shift = shift_inside machine.step m.side (room_on m.axis (room machine s.in_pieces));
}

abbrev pub clearing : MachineFile → Scene → Option Obstacle → Option Clearing
clearing machine s None = None
clearing machine s (Some (Travel m)) = Some (clearings.Travel (clear_of_travel machine s m))
clearing machine s (Some (Fixture m)) = Some (clearings.Fixture (clear_of_fixture machine s m))
