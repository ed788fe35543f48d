-- The pulses of a run as a value change dump (IEEE 1364-2005, clause 18): what the motor drivers
-- see.
use Rattle.std.specs.Prelude.{ℕ, zero, suc, ◌+◌, ◌-◌, ◌*◌, ◌/◌, ◌^◌, min, nat_eq, ℤ, pos, negsuc}
use Rattle.std.specs.Prelude.{List, [], ◌∷◌, ◌++◌, length, decimal, codes, Bool, true, false, not}
use Rattle.std.specs.Prelude.{if◌then◌else◌}
use Rattle.ngc_fixed_length.specs.declared.points.StepPos.{StepPos}
use Rattle.ngc_pulses.specs.declared.axis_step.AxisStep.{AxisStep}
use Rattle.ngc_pulses.specs.declared.axis_step.Directions.{Directions}
use Rattle.ngc_pulses.specs.declared.axis_step.Steps.{Steps}
use Rattle.ngc_pulses.specs.declared.wire.Wire.{Wire}
use Rattle.ngc_pulses.specs.declared.wire.Wire.TheVariants.{XStep, XDirection, YStep, YDirection}
use Rattle.ngc_pulses.specs.declared.wire.Wire.TheVariants.{ZStep, ZDirection}

-- ---- times

-- The nanosecond in which a half tick begins, each rounded down by itself. Times are limited to 64
-- bits.
abbrev pub time_of : ℕ → ℕ → ℕ
time_of ticks_per_second half = min (half * 1000000000 / (2 * ticks_per_second)) (2 ^ 64 - 1)

-- ---- the changes of a tick

-- at a half tick a wire goes high or low
pub record Change : Type 0 where
  pub half : ℕ
  pub wire : Wire
  pub high : Bool

-- the step of an axis with this movement in a tick: the direction changes if it isn't the same
-- already
abbrev pub axis_step : Bool → ℤ → AxisStep
axis_step up (pos zero) = record { steps = false; turns = false; up = up }
axis_step up (pos (suc n)) = record { steps = true; turns = not up; up = true }
axis_step up (negsuc n) = record { steps = true; turns = up; up = false }

abbrev pub steps_of : Directions → StepPos → Steps
steps_of d pulse =
    record { x = axis_step d.x pulse.x; y = axis_step d.y pulse.y; z = axis_step d.z pulse.z }

abbrev pub directions_after : Steps → Directions
directions_after s = record { x = s.x.up; y = s.y.up; z = s.z.up }

-- the direction, 1 for up, if it changes
abbrev pub turn : ℕ → Wire → AxisStep → List Change
turn half wire s = if s.turns then record { half = half; wire = wire; high = s.up } ∷ [] else []

abbrev pub turns : ℕ → Steps → List Change
turns half s = turn half XDirection s.x ++ (turn half YDirection s.y ++ turn half ZDirection s.z)

-- the step, if the axis steps
abbrev pub level : ℕ → Bool → Wire → AxisStep → List Change
level half high wire s =
    if s.steps then record { half = half; wire = wire; high = high } ∷ [] else []

abbrev pub levels : ℕ → Bool → Steps → List Change
levels half high s =
    level half high XStep s.x ++ (level half high YStep s.y ++ level half high ZStep s.z)

-- Tick n (the first is tick 1) sets the directions at half tick 2n - 1, the steps high at 2n, and
-- low again at 2n + 1. Here `before` is n - 1.
abbrev pub tick_changes : ℕ → Steps → List Change
tick_changes before s =
    turns (2 * before + 1) s ++ (levels (2 * before + 2) true s ++ levels (2 * before + 3) false s)

-- the changes of ticks, from the pulse of each, which is the movement of each axis
abbrev pub changes : ℕ → Directions → List StepPos → List Change
changes before d [] = []
changes before d (pulse ∷ pulses) = tick_changes before (steps_of d pulse)
    ++ changes (suc before) (directions_after (steps_of d pulse)) pulses

-- ---- their text

abbrev pub code_of : Wire → List ℕ
code_of XStep = codes "a"
code_of XDirection = codes "b"
code_of YStep = codes "c"
code_of YDirection = codes "d"
code_of ZStep = codes "e"
code_of ZDirection = codes "f"

abbrev pub bit_of : Bool → List ℕ
bit_of high = if high then codes "1" else codes "0"

abbrev pub change_text : Wire → Bool → List ℕ
change_text wire high = bit_of high ++ (code_of wire ++ codes "\n")

abbrev pub stamp : ℕ → ℕ → List ℕ
stamp ticks_per_second half = codes "#" ++ (decimal (time_of ticks_per_second half) ++ codes "\n")

-- a half tick is stamped once, before its changes
abbrev pub stamp_after : ℕ → ℕ → ℕ → List ℕ
stamp_after ticks_per_second last half =
    if nat_eq half last then [] else stamp ticks_per_second half

-- changes after a half tick that was stamped last
abbrev pub dumped : ℕ → ℕ → List Change → List ℕ
dumped ticks_per_second last [] = []
dumped ticks_per_second last (c ∷ cs) =
    (stamp_after ticks_per_second last c.half ++ change_text c.wire c.high)
    ++ dumped ticks_per_second c.half cs

abbrev pub header : List ℕ
header =
    codes "$timescale 1 ns $end\n$scope module ngc $end\n"
    ++ codes "$var wire 1 a x_step $end\n$var wire 1 b x_direction $end\n"
    ++ codes "$var wire 1 c y_step $end\n$var wire 1 d y_direction $end\n"
    ++ codes "$var wire 1 e z_step $end\n$var wire 1 f z_direction $end\n"
    ++ codes "$upscope $end\n$enddefinitions $end\n"
    ++ codes "#0\n$dumpvars\n0a\n0b\n0c\n0d\n0e\n0f\n$end\n"

abbrev pub all_down : Directions
all_down = record { x = false; y = false; z = false }

-- The dump of ticks with these pulses. The last time is that at which a next tick would set its
-- steps, so that viewers show the whole run.
abbrev pub vcd : ℕ → List StepPos → List ℕ
vcd ticks_per_second pulses =
    header ++ (dumped ticks_per_second 0 (changes 0 all_down pulses)
    ++ stamp ticks_per_second (2 * length pulses + 2))
