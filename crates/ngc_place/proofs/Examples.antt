-- Worked programs on a mill with steps of 0.01 mm, by computing the definitions.
use Rattle.std.proofs.Common.{◌≡◌, refl, ap₂, ◌∙◌, arith, ℤ, pos, negsuc, List, [], ◌∷◌, true, false}
use Rattle.std.specs.Prelude.{Bool, ◌&&◌}
use Rattle.ngc_fixed_length.specs.Roots.{whole_root, whole_root_above}
use Rattle.ngc_fixed_length.specs.declared.modes.Plane.TheVariants.{XY}
use Rattle.ngc_fixed_length.specs.declared.modes.Turn.TheVariants.{Counterclockwise}
use Rattle.ngc_fixed_length.specs.declared.points.Point3.{Point3}
use Rattle.ngc_machine_files.specs.Machine.{MachineFile, built_in_machine}
use Rattle.ngc_machine_files.specs.declared.machine.Fixture.{Fixture}
use Rattle.ngc_commands.specs.declared.command.Action.TheVariants.{Move}
use Rattle.ngc_commands.specs.declared.command.Command.{Command}
use Rattle.ngc_commands.specs.declared.movement.Pace.TheVariants.{Rapid}
use Rattle.ngc_commands.specs.declared.movement.Way.TheVariants.{Line, Arc}
use Rattle.ngc_place.specs.Shifts.{shifts_along}
use Rattle.ngc_place.specs.Holds.{holds}
use Rattle.ngc_place.specs.Longest.{hold_over, IsGrown}
use Rattle.ngc_place.specs.declared.interval.Side.TheVariants.{Above}
use Rattle.ngc_place.specs.declared.programs.Program.{Program}
use Rattle.ngc_place.specs.declared.axis.Axis.TheVariants.{X, Z}

-- a fixture from X 70 mm, Y 30 mm, Z -100 mm to X 90 mm, Y 50 mm, Z -5 mm
abbrev vise : Fixture
vise = record {
  low = record { x = pos 70000000; y = pos 30000000; z = negsuc 99999999 };
  high = record { x = pos 90000000; y = pos 50000000; z = negsuc 4999999 };
  name = [];
  system = 0;
}

-- travel X 0 mm to 300 mm, Y 0 mm to 300 mm, Z -100 mm to 0 mm; the axes start at 0
abbrev mill : MachineFile
mill = record {
  step = built_in_machine.step;
  motor_steps = built_in_machine.motor_steps;
  ticks_per_second = built_in_machine.ticks_per_second;
  max_rate = built_in_machine.max_rate;
  axis_rates = built_in_machine.axis_rates;
  change = built_in_machine.change;
  corner = built_in_machine.corner;
  jump = built_in_machine.jump;
  turn = built_in_machine.turn;
  own = built_in_machine.own;
  ring = built_in_machine.ring;
  arc_feed = built_in_machine.arc_feed;
  changer = built_in_machine.changer;
  low = built_in_machine.low;
  high = built_in_machine.high;
  start = built_in_machine.start;
  home28 = built_in_machine.home28;
  home30 = built_in_machine.home30;
  origins = built_in_machine.origins;
  fixtures = vise ∷ [];
  margins = built_in_machine.margins;
  rapids = built_in_machine.rapids;
  dialect = built_in_machine.dialect;
  stock = built_in_machine.stock;
}

abbrev home : Point3
home = record { x = pos 0; y = pos 0; z = pos 0 }

abbrev above_hole : Point3
above_hole = record { x = pos 60000000; y = pos 40000000; z = pos 0 }

abbrev in_hole : Point3
in_hole = record { x = pos 60000000; y = pos 40000000; z = negsuc 9999999 }

abbrev line : Point3 → Point3 → Command
line p q = record { line = 1; action = Move (record { way = Line p q; pace = Rapid; stop = false }) }

-- from the start over a hole at X 60 mm, Y 40 mm at the top of the travel, and down 10 mm
abbrev drilling : List Command
drilling = line home above_hole ∷ line above_hole in_hole ∷ []

abbrev fits_along_x : ℤ → ℤ → Bool
fits_along_x from to = holds mill 1 (shifts_along X from to) (true ∷ true ∷ []) drilling

-- The hole's shift ranges from X 0 mm, 6000 steps lower, to X 70 mm, where it touches the fixture,
-- 1000 steps higher.
left_of_vise : fits_along_x (negsuc 5999) (pos 1000) ≡ true
left_of_vise = refl

beyond_travel : fits_along_x (negsuc 6000) (pos 1000) ≡ false
beyond_travel = refl

into_vise : fits_along_x (negsuc 5999) (pos 1001) ≡ false
into_vise = refl

-- Right of the fixture it ranges from X 90 mm, 3000 steps higher, to the end of the travel at X 300
-- mm, 24000 steps higher.
right_of_vise : fits_along_x (pos 3000) (pos 24000) ≡ true
right_of_vise = refl

too_early : fits_along_x (pos 2999) (pos 24000) ≡ false
too_early = refl

too_far : fits_along_x (pos 3000) (pos 24001) ≡ false
too_far = refl

-- Both ends are at the top of the travel, so no shift up fits. Down by 90 mm the hole ends at Z
-- -100 mm.
abbrev fits_along_z : ℤ → ℤ → Bool
fits_along_z from to = holds mill 1 (shifts_along Z from to) (true ∷ true ∷ []) drilling

down : fits_along_z (negsuc 8999) (pos 0) ≡ true
down = refl

up : fits_along_z (pos 0) (pos 1) ≡ false
up = refl

too_deep : fits_along_z (negsuc 9000) (pos 0) ≡ false
too_deep = refl

-- A hole whose point the machine fixes stays at any shift. A command without a mark never holds.
stays : holds mill 1 (shifts_along X (negsuc 99999) (pos 99999)) (false ∷ false ∷ []) drilling ≡ true
stays = refl

unmarked : holds mill 1 (shifts_along X (pos 0) (pos 0)) (true ∷ []) drilling ≡ false
unmarked = refl

-- ---- an arc

-- From the bottom of the hole half a circle about X 50 mm, Y 40 mm, to X 40 mm. With the margin of
-- two steps its box is from X 39.98 mm to 60.02 mm, so it ranges from 3998 steps lower to 998 steps
-- higher.
abbrev across : Point3
across = record { x = pos 40000000; y = pos 40000000; z = negsuc 9999999 }

abbrev half_circle : Command
half_circle = record {
  line = 1;
  action = Move (record {
    way = Arc (record {
      plane = XY;
      turn = Counterclockwise;
      start = in_hole;
      end = across;
      centre = record { u = pos 50000000; v = pos 40000000 };
    });
    pace = Rapid;
    stop = false;
  });
}

abbrev milling : List Command
milling = line home above_hole ∷ line above_hole in_hole ∷ half_circle ∷ []

abbrev arc_fits : Bool → ℤ → ℤ → Bool
arc_fits arc_moves from to = holds mill 1 (shifts_along X from to) (true ∷ true ∷ arc_moves ∷ []) milling

left_arc : arc_fits true (negsuc 3997) (pos 998) ≡ true
unfolding whole_root whole_root_above
left_arc = refl

arc_beyond_travel : arc_fits true (negsuc 3998) (pos 998) ≡ false
unfolding whole_root whole_root_above
arc_beyond_travel = refl

arc_into_vise : arc_fits true (negsuc 3997) (pos 999) ≡ false
unfolding whole_root whole_root_above
arc_into_vise = refl

-- an arc whose start moves and whose end doesn't never holds
torn_arc : arc_fits false (pos 0) (pos 0) ≡ false
torn_arc = refl

-- ---- intervals

-- The same shifts as an interval around 0: it grows by 1000 steps up, and then by 6000 down.
abbrev fits_over : Program → ℤ → ℤ → Bool
fits_over p from to = hold_over mill 1 X (p ∷ []) (record { from = from; to = to })

over_is : (p : Program) (from to : ℤ) (b : Bool) → p.moving.now ≡ (true ∷ true ∷ []) → p.commands.now ≡ drilling → (fits_along_x from to && true) ≡ b →
    fits_over p from to ≡ b
over_is p from to b marks commands is = ap₂ (λ m c. holds mill 1 (shifts_along X from to) m c && true) marks commands ∙ is

around_zero : (p : Program) → p.moving.now ≡ (true ∷ true ∷ []) → p.commands.now ≡ drilling →
    IsGrown mill 1 X (p ∷ []) Above (pos 0) (record { from = negsuc 5999; to = pos 1000 })
around_zero p marks commands = record {
  near = over_is p (pos 0) (pos 0) true marks commands refl;
  one = 1000;
  two = 6000;
  grows_first = record {
    within = record { from = omega arith; to = omega arith };
    hold = over_is p (pos 0) (pos 1000) true marks commands refl;
    full = λ h. over_is p (pos 0) (pos 1001) false marks commands refl;
  };
  grows_then = record {
    within = record { from = omega arith; to = omega arith };
    hold = over_is p (negsuc 5999) (pos 1000) true marks commands refl;
    full = λ h. over_is p (negsuc 6000) (pos 1000) false marks commands refl;
  };
  is = refl;
}
