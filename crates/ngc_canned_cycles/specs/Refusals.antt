-- The cycles that are refused, and the ranges of their words. Our own.
use Rattle.std.specs.Prelude.{ℕ, ◌≤◌, ◌/◌, ◌%◌, ◌==◌, nat_le, nat_lt, ℤ, pos, ◌-ℤ◌, unsigned_abs}
use Rattle.std.specs.Prelude.{int_le, int_lt, Option, Some, None, Result, Bool, true, false, not}
use Rattle.std.specs.Prelude.{◌&&◌, ◌||◌}
use Rattle.ngc_fixed_length.specs.Limits.{MILLION}
use Rattle.ngc_fixed_length.specs.Signed.{is_negative, is_within}
use Rattle.ngc_fixed_length.specs.declared.modes.FeedMode.{FeedMode}
use Rattle.ngc_fixed_length.specs.declared.modes.FeedMode.TheVariants as feeds
use Rattle.ngc_offsets.specs.Ranges.{coordinate_limit}
use Rattle.ngc_offsets.specs.declared.fault.CoordinateRange.{CoordinateRange}
use Rattle.ngc_canned_cycles.specs.declared.cycle.Cycle.{Cycle}
use Rattle.ngc_canned_cycles.specs.declared.cycle.Hole.{Hole}
use Rattle.ngc_canned_cycles.specs.declared.cycle.Hole.TheVariants.{Drill, DrillWithDwell, Peck}
use Rattle.ngc_canned_cycles.specs.declared.cycle.Hole.TheVariants.{Bore, BoreWithStop}
use Rattle.ngc_canned_cycles.specs.declared.cycle.Hole.TheVariants.{BoreWithDwell}
use Rattle.ngc_canned_cycles.specs.declared.cycle.Start.{Start}
use Rattle.ngc_canned_cycles.specs.declared.fault.CycleFault.{CycleFault}
use Rattle.ngc_canned_cycles.specs.declared.fault.CycleFault.TheVariants.{RetractBelowBottom}
use Rattle.ngc_canned_cycles.specs.declared.fault.CycleFault.TheVariants.{BadRepeats, BadPeck}
use Rattle.ngc_canned_cycles.specs.declared.fault.CycleFault.TheVariants.{NegativeDwell}
use Rattle.ngc_canned_cycles.specs.declared.fault.CycleFault.TheVariants.{SpindleNotTurning}
use Rattle.ngc_canned_cycles.specs.declared.fault.CycleFault.TheVariants.{InverseTime}
use Rattle.ngc_canned_cycles.specs.Faults.{◌>>◌, refuse_if}
use Rattle.ngc_canned_cycles.specs.Heights.{retract_of, bottom_of, repeat_place, repeats_of}
use Rattle.ngc_canned_cycles.specs.Holes.{peck_count}

-- not a whole number from 1 to 9,999
abbrev pub bad_repeats : Option ℤ → Bool
bad_repeats None = false
bad_repeats (Some v) =
    is_negative v || not (unsigned_abs v % MILLION == 0) ||
    not (nat_le 1 (unsigned_abs v / MILLION) && nat_le (unsigned_abs v / MILLION) 9999)

-- a peck that is not above 0, or of which more than 10,000 are needed
abbrev pub bad_peck : Hole → ℤ → Bool
bad_peck (Peck q) way = int_le q (pos 0) || nat_lt 10000 (peck_count way (unsigned_abs q))
bad_peck Drill way = false
bad_peck (DrillWithDwell p) way = false
bad_peck Bore way = false
bad_peck (BoreWithStop p) way = false
bad_peck (BoreWithDwell p) way = false

abbrev pub negative_dwell : Hole → Bool
negative_dwell (DrillWithDwell p) = is_negative p
negative_dwell (BoreWithStop p) = is_negative p
negative_dwell (BoreWithDwell p) = is_negative p
negative_dwell Drill = false
negative_dwell (Peck q) = false
negative_dwell Bore = false

abbrev pub needs_spindle : Hole → Bool
needs_spindle (BoreWithStop p) = true
needs_spindle Drill = false
needs_spindle (DrillWithDwell p) = false
needs_spindle (Peck q) = false
needs_spindle Bore = false
needs_spindle (BoreWithDwell p) = false

abbrev pub is_inverse : FeedMode → Bool
is_inverse feeds.InverseTime = true
is_inverse feeds.PerMinute = false

-- the faults of a cycle, in the order of their numbers
abbrev pub check : Cycle → Start → Result (Unit {0}) CycleFault
check c s =
    refuse_if (int_lt (retract_of c s) (bottom_of c s)) RetractBelowBottom >>
    refuse_if (bad_repeats c.repeats) BadRepeats >>
    refuse_if (bad_peck c.hole (retract_of c s -ℤ bottom_of c s)) BadPeck >>
    refuse_if (negative_dwell c.hole) NegativeDwell >>
    refuse_if (needs_spindle c.hole && not s.turning) SpindleNotTurning >>
    refuse_if (is_inverse c.feed_mode) InverseTime

-- a programmed coordinate is in range; without a word any coordinate is
abbrev pub is_in_range_if_given : CoordinateRange → Option ℤ → ℤ → Bool
is_in_range_if_given reach None c = true
is_in_range_if_given reach (Some l) c = is_within (coordinate_limit reach) c

abbrev pub is_repeat_in_range : Cycle → Start → ℕ → Bool
is_repeat_in_range c s j =
    is_in_range_if_given s.reach c.u (repeat_place c s j).u
    && is_in_range_if_given s.reach c.v (repeat_place c s j).v

-- the programmed coordinates are in range: R, the bottom, and the places of the first and the last
-- repeat
abbrev pub is_in_range : Cycle → Start → Bool
is_in_range c s =
    is_within (coordinate_limit s.reach) (retract_of c s)
    && is_within (coordinate_limit s.reach) (bottom_of c s) &&
    is_repeat_in_range c s 1 && is_repeat_in_range c s (repeats_of c.repeats)

pub record AreRepeats (n : ℕ) : Type 0 where
  pub least : 1 ≤ n
  pub greatest : n ≤ 9999
