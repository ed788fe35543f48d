-- The pulses of a run as bytes that hardware plays: what the motor drivers see, with the spindle and
-- the coolant. Our own format.
use Rattle.std.specs.Prelude.{◌≡◌, ◌≤◌, ℕ, ◌+◌, ◌/◌, ◌%◌, nat_eq, ℤ, pos, negsuc, nat_abs, List, []}
use Rattle.std.specs.Prelude.{◌∷◌, ◌++◌, length, bit_xor, Bool, false, if◌then◌else◌}
use Rattle.std.specs.List.{AllByRecursion}
use Rattle.ngc_fixed_length.specs.declared.points.StepPos.{StepPos}
use Rattle.ngc_pulses.specs.declared.axis_step.Directions.{Directions}
use Rattle.ngc_pulses.specs.declared.axis_step.Steps.{Steps}
use Rattle.ngc_pulses.specs.declared.samples.Levels.{Levels}
use Rattle.ngc_pulses.specs.declared.samples.Switch.{Switch}
use Rattle.ngc_pulses.specs.declared.samples.Switch.TheVariants.{Nothing, Spindle, Coolant, AllOff}
use Rattle.ngc_pulses.specs.Vcd.{steps_of, directions_after, all_down}

-- ---- the state from tick to tick

-- a switch by the command that ends in a tick is in effect in that tick
abbrev pub switched : Levels → Switch → Levels
switched l Nothing = l
switched l (Spindle on) = record l { spindle = on }
switched l (Coolant on) = record l { coolant = on }
switched l AllOff = record l { spindle = false; coolant = false }

abbrev pub levels_in : Levels → Steps → Switch → Levels
levels_in l steps switch = record (switched l switch) { directions = directions_after steps }

abbrev pub all_off : Levels
all_off = record { directions = all_down; spindle = false; coolant = false }

-- ---- bytes

-- the value of a bit
abbrev pub bit : ℕ → Bool → ℕ
bit value on = if on then value else 0

-- bits 1, 3 and 5 are the directions, 1 for up, bit 6 the spindle, bit 7 the coolant
abbrev pub level_bits : Levels → ℕ
level_bits l = bit 2 l.directions.x + (bit 8 l.directions.y + (bit 32 l.directions.z
    + (bit 64 l.spindle + bit 128 l.coolant)))

-- bits 0, 2 and 4 are the steps
abbrev pub step_bits : Steps → ℕ
step_bits s = bit 1 s.x.steps + (bit 4 s.y.steps + bit 16 s.z.steps)

-- a tick's first byte has its steps low, and its second byte has them high; in both, the bits of
-- the mask are inverted
abbrev pub tick_bytes : ℕ → Levels → Steps → List ℕ
tick_bytes mask l steps =
    bit_xor (level_bits l) mask ∷ bit_xor (level_bits l + step_bits steps) mask ∷ []

-- The bytes of ticks, from the pulse of each, which is the movement of each axis, and from what is
-- switched in it.
abbrev pub samples_from : ℕ → Levels → List StepPos → List Switch → List ℕ
samples_from mask l [] switches = []
samples_from mask l (pulse ∷ pulses) [] = []
samples_from mask l (pulse ∷ pulses) (switch ∷ switches) =
    tick_bytes mask (levels_in l (steps_of l.directions pulse) switch) (steps_of l.directions pulse)
    ++ samples_from mask (levels_in l (steps_of l.directions pulse) switch) pulses switches

-- all directions are down at first, and spindle and coolant off
abbrev pub samples : ℕ → List StepPos → List Switch → List ℕ
samples mask pulses switches = samples_from mask all_off pulses switches

-- ---- what hardware reads from them

abbrev pub has_bit : ℕ → ℕ → Bool
has_bit value byte = nat_eq (byte / value % 2) 1

-- the movement of an axis, from the levels of its step and of its direction
abbrev pub moved_by : Bool → Bool → ℤ
moved_by steps up = if steps then (if up then pos 1 else negsuc 0) else pos 0

abbrev pub move_in : ℕ → StepPos
move_in byte = record {
  x = moved_by (has_bit 1 byte) (has_bit 2 byte);
  y = moved_by (has_bit 4 byte) (has_bit 8 byte);
  z = moved_by (has_bit 16 byte) (has_bit 32 byte);
}

-- of a tick's two bytes, in which the bits of the mask are inverted, the second one has the steps
abbrev pub moves_in : ℕ → List ℕ → List StepPos
moves_in mask [] = []
moves_in mask (first ∷ []) = []
moves_in mask (first ∷ second ∷ bytes) = move_in (bit_xor second mask) ∷ moves_in mask bytes

-- each axis moves at most a step
pub record IsPathStep (pulse : StepPos) : Type 0 where
  pub x : nat_abs pulse.x ≤ 1
  pub y : nat_abs pulse.y ≤ 1
  pub z : nat_abs pulse.z ≤ 1

-- Hardware reads the pulses from the samples.
abbrev pub ReadBack : Type 0
ReadBack = (mask : ℕ) (pulses : List StepPos) (switches : List Switch) →
    AllByRecursion IsPathStep pulses → length switches ≡ length pulses →
    moves_in mask (samples mask pulses switches) ≡ pulses
