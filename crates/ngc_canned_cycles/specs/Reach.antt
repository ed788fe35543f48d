-- The moves of a cycle stay within the machine's reach. Our own.
use Rattle.std.specs.Prelude.{ℕ, ◌≡◌, ◌≤◌, ℤ, ◌+ℤ◌, unsigned_abs, List, All, true}
use Rattle.ngc_fixed_length.specs.Places.{height}
use Rattle.ngc_fixed_length.specs.declared.modes.Plane.{Plane}
use Rattle.ngc_offsets.specs.Offsets.{Offsets}
use Rattle.ngc_offsets.specs.Ranges.{MACHINE_LIMIT, AreInRange}
use Rattle.ngc_offsets.specs.Frames.{shift_of, IsReachable}
use Rattle.ngc_canned_cycles.specs.declared.cycle.Cycle.{Cycle}
use Rattle.ngc_canned_cycles.specs.declared.cycle.Start.{Start}
use Rattle.ngc_canned_cycles.specs.declared.cycle.CycleMove.{CycleMove}
use Rattle.ngc_canned_cycles.specs.declared.cycle.CycleMove.TheVariants.{Traverse, Feed, Dwell}
use Rattle.ngc_canned_cycles.specs.declared.cycle.CycleMove.TheVariants.{StopSpindle, StartSpindle}
use Rattle.ngc_canned_cycles.specs.Heights.{repeats_of}
use Rattle.ngc_canned_cycles.specs.Refusals.{is_in_range}

-- the place to which a move goes, if it goes to one, is within reach
abbrev pub IsMoveReachable : Offsets → CycleMove → Type 0
IsMoveReachable f (Traverse p) = IsReachable f p
IsMoveReachable f (Feed p) = IsReachable f p
IsMoveReachable f (Dwell v) = Unit {0}
IsMoveReachable f StopSpindle = Unit {0}
IsMoveReachable f StartSpindle = Unit {0}

-- a programmed height above a plane that is within the machine's reach
abbrev pub IsHeightReachable : Offsets → Plane → ℤ → Type 0
IsHeightReachable f plane w = unsigned_abs (w +ℤ height plane (shift_of f)) ≤ MACHINE_LIMIT

-- a cycle and its series begin within the machine's reach, and the cycle's words are in range
pub record BeginsInReach (f : Offsets) (c : Cycle) (s : Start) : Type 0 where
  pub offsets : AreInRange f
  pub place : IsReachable f s.place
  pub series : IsHeightReachable f c.plane s.series
  pub words : is_in_range c s ≡ true

-- if so, each move of each repeat stays within reach
abbrev pub StaysInReach : Cycle → Start → ℕ → List CycleMove → Type 0
StaysInReach c s j moves =
    (f : Offsets) → BeginsInReach f c s → 1 ≤ j → j ≤ repeats_of c.repeats →
    All (IsMoveReachable f) moves
