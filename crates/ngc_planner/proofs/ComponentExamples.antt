-- Rates and changes by axis on worked motions, by evaluating the definitions. The values were
-- computed by hand and by an independent program.
use Rattle.std.proofs.Common.{◌≡◌, ℕ, ℤ, pos, negsuc, Some, false, refl}
use Rattle.std.specs.Prelude.{◌*ℤ◌}
use Rattle.ngc_fixed_length.specs.declared.modes.Plane.{Plane}
use Rattle.ngc_fixed_length.specs.declared.modes.Plane.TheVariants.{XY, ZX}
use Rattle.ngc_fixed_length.specs.declared.modes.Turn.TheVariants.{Clockwise}
use Rattle.ngc_arc_geometry.specs.Shape.{ArcShape}
use Rattle.ngc_machine_files.specs.Machine.{MachineFile, built_in_machine}
use Rattle.ngc_commands.specs.declared.command.Action.{Action}
use Rattle.ngc_commands.specs.declared.command.Action.TheVariants.{Move}
use Rattle.ngc_commands.specs.declared.movement.Pace.TheVariants as paces
use Rattle.ngc_commands.specs.declared.movement.Way.{Way}
use Rattle.ngc_commands.specs.declared.movement.Way.TheVariants as ways
use Rattle.ngc_fixed_length.specs.Roots.{whole_root}
use Rattle.ngc_planner.specs.Bounds.{greatest_rate, turn_rate}
use Rattle.ngc_planner.specs.Components.{by_component, change_of}
use Rattle.ngc_planner.specs.Window.{way_at_greatest}
use Rattle.ngc_planner.proofs.Examples.{at}

-- belts on X and Y, and a screw on Z: a fifth of their rate and two fifths of their change
abbrev router : MachineFile
router = record built_in_machine {
  max_rate = 500000;
  axis_rates = record { x = 500000; y = 500000; z = 100000 };
  change = 50;
  turn = 50000000;
  own = Some (record {
    changes = record { x = 50; y = 50; z = 20 };
    turns = record { x = 50000000; y = 50000000; z = 20000000 };
  });
}

-- the greatest rate and the change of a motion of n path steps
abbrev rate_and_change : Action → ℕ → ℕ × ℕ
rate_and_change action n = (greatest_rate router action n, change_of router action n)

-- a traverse from zero to a grid point
abbrev line : ℤ → ℤ → ℤ → Action
line x y z = Move (record {
  way = ways.Line (at (pos 0) (pos 0) (pos 0)) (at (x *ℤ pos 10000) (y *ℤ pos 10000) (z *ℤ pos 10000));
  pace = paces.Rapid;
  stop = false;
})

-- a slope of 1 in 20: Z has a twentieth of the rate
line_ramp : rate_and_change (line (pos 2000) (pos 0) (pos 100)) 2000 ≡ (500000, 50)
line_ramp = refl

line_plunge : rate_and_change (line (pos 0) (pos 0) (pos 400)) 400 ≡ (100000, 20)
line_plunge = refl

-- Z is the longest, and all of the rate is its own
line_steep : rate_and_change (line (pos 300) (pos 0) (pos 400)) 400 ≡ (100000, 20)
line_steep = refl

-- Z has three quarters of the rate: 100,000 * 4 / 3, and 20 * 4 / 3, rounded down
line_slanted : rate_and_change (line (pos 400) (pos 0) (pos 300)) 400 ≡ (133333, 26)
line_slanted = refl

line_short : rate_and_change (line (pos 3) (pos 0) (pos 1)) 3 ≡ (300000, 50)
line_short = refl

line_diagonal : rate_and_change (line (pos 500) (pos 500) (pos 500)) 500 ≡ (100000, 20)
line_diagonal = refl

-- Y goes back, and Z has two sevenths of the rate
line_back : rate_and_change (line (pos 0) (negsuc 6) (pos 2)) 7 ≡ (350000, 50)
line_back = refl

-- a whole turn of a helix in XY that rises by these grid steps
abbrev helix : ℤ → Action
helix rise = Move (record {
  way = ways.Arc (record {
    plane = XY;
    turn = Clockwise;
    start = at (pos 0) (pos 0) (pos 0);
    end = at (pos 0) (pos 0) (rise *ℤ pos 10000);
    centre = record { u = pos 1250000; v = pos 0 };
  });
  pace = paces.Rapid;
  stop = false;
})

-- X and Y have the whole rate somewhere, and Z a tenth: its change counts whole
helix_gentle : rate_and_change (helix (pos 100)) 1000 ≡ (500000, 20)
helix_gentle = refl

helix_steep : rate_and_change (helix (pos 400)) 1000 ≡ (250000, 20)
helix_steep = refl

helix_level : rate_and_change (helix (pos 0)) 1000 ≡ (500000, 50)
helix_level = refl

-- whole circles of 1 mm in each plane: the least turn of its axes counts
abbrev arc_of : Plane → ArcShape
arc_of plane = record {
  plane = plane;
  turn = Clockwise;
  start = at (pos 0) (pos 0) (pos 0);
  end = at (pos 0) (pos 0) (pos 0);
  centre = record { u = pos 1000000; v = pos 0 };
}

abbrev circle : Plane → Way
circle plane = ways.Arc (arc_of plane)

turn_level : turn_rate router (circle XY) ≡ 70710
unfolding whole_root
turn_level = refl

turn_upright : turn_rate router (circle ZX) ≡ 44721
unfolding whole_root
turn_upright = refl

-- the distance over which they turn by a heading's length at the greatest rate: 10^6 * 500,000^2 over
-- the turn
way_level : way_at_greatest router (arc_of XY) 1000000 ≡ 5000000000
way_level = refl

way_upright : way_at_greatest router (arc_of ZX) 1000000 ≡ 12500000000
way_upright = refl

-- a path never has fewer path steps than its axes go: with fewer the limit itself is kept
few_steps : by_component 100000 1 3 ≡ 100000
few_steps = refl

-- an axis that does not move allows every rate
no_steps : by_component 100000 5 0 ≡ 1000000
no_steps = refl
