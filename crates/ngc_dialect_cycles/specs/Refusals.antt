-- The cycles that are refused. Our own.
use Rattle.std.specs.Prelude.{◌-◌, ℤ, pos, ◌+ℤ◌, int_lt, int_le, Bool, false, true, not, ◌&&◌}
use Rattle.std.specs.Prelude.{◌||◌, List, Result, Ok, Err, if◌then◌else◌}
use Rattle.ngc_fixed_length.specs.Limits.{LENGTH_LIMIT}
use Rattle.ngc_fixed_length.specs.Signed.{is_negative, is_within}
use Rattle.ngc_canned_cycles.specs.declared.cycle.CycleMove.{CycleMove}
use Rattle.ngc_dialect_cycles.specs.declared.line.HoleKind.{HoleKind}
use Rattle.ngc_dialect_cycles.specs.declared.line.HoleKind.TheVariants.{Drill, DrillWithDwell}
use Rattle.ngc_dialect_cycles.specs.declared.line.HoleKind.TheVariants.{Peck, BreakChips, Bore}
use Rattle.ngc_dialect_cycles.specs.declared.line.HoleKind.TheVariants.{BoreWithStop, BoreWithDwell}
use Rattle.ngc_dialect_cycles.specs.declared.line.Series.{Series}
use Rattle.ngc_dialect_cycles.specs.declared.line.CycleLine.{CycleLine}
use Rattle.ngc_dialect_cycles.specs.declared.refusal.CycleRefusal.{CycleRefusal}
use Rattle.ngc_dialect_cycles.specs.declared.refusal.CycleRefusal.TheVariants.{RetractBelowBottom}
use Rattle.ngc_dialect_cycles.specs.declared.refusal.CycleRefusal.TheVariants.{BadPeck}
use Rattle.ngc_dialect_cycles.specs.declared.refusal.CycleRefusal.TheVariants.{NegativeDwell}
use Rattle.ngc_dialect_cycles.specs.declared.refusal.CycleRefusal.TheVariants.{SpindleNotTurning}
use Rattle.ngc_dialect_cycles.specs.declared.refusal.CycleRefusal.TheVariants.{TooFar}
use Rattle.ngc_dialect_cycles.specs.Levels.{retract_of, bottom_of, hole_place}
use Rattle.ngc_dialect_cycles.specs.Moves.{cycle_moves}

infixl 10 ◌>>◌
abbrev pub ◌>>◌ : {A B : Type 0} → Result A CycleRefusal → Result B CycleRefusal → Result B CycleRefusal
(Ok x) >> r = r
(Err e) >> r = Err e

abbrev pub refuse_if : Bool → CycleRefusal → Result (Unit {0}) CycleRefusal
refuse_if b e = if b then Err e else Ok tt

-- Q isn't above 0, or the distance back is below 0
abbrev pub bad_peck : HoleKind → Bool
bad_peck (Peck p) = int_le p.depth (pos 0) || is_negative p.back
bad_peck (BreakChips p) = int_le p.depth (pos 0) || is_negative p.back
bad_peck Drill = false
bad_peck (DrillWithDwell t) = false
bad_peck Bore = false
bad_peck (BoreWithStop t) = false
bad_peck (BoreWithDwell t) = false

abbrev pub negative_dwell : HoleKind → Bool
negative_dwell (DrillWithDwell t) = is_negative t
negative_dwell (BoreWithStop t) = is_negative t
negative_dwell (BoreWithDwell t) = is_negative t
negative_dwell Drill = false
negative_dwell (Peck p) = false
negative_dwell (BreakChips p) = false
negative_dwell Bore = false

abbrev pub needs_spindle : HoleKind → Bool
needs_spindle (BoreWithStop t) = true
needs_spindle Drill = false
needs_spindle (DrillWithDwell t) = false
needs_spindle (Peck p) = false
needs_spindle (BreakChips p) = false
needs_spindle Bore = false
needs_spindle (BoreWithDwell t) = false

-- the distance by which a peck may end above R
abbrev pub back_of : HoleKind → ℤ
back_of (Peck p) = p.back
back_of (BreakChips p) = p.back
back_of Drill = pos 0
back_of (DrillWithDwell t) = pos 0
back_of Bore = pos 0
back_of (BoreWithStop t) = pos 0
back_of (BoreWithDwell t) = pos 0

abbrev pub is_near : ℤ → Bool
is_near z = is_within LENGTH_LIMIT z

abbrev pub is_last_near : CycleLine → Bool
is_last_near l = let last = hole_place l (l.repeats - 1) in is_near last.u && is_near last.v

-- the heights and the place of the last hole are lengths
abbrev pub is_in_range : Series → CycleLine → Bool
is_in_range s l =
    is_near (retract_of s l) && is_near (bottom_of s l)
    && is_near (retract_of s l +ℤ back_of s.kind) && is_last_near l

-- the first refusal in this order
abbrev pub check : Series → CycleLine → Result (Unit {0}) CycleRefusal
check s l =
    refuse_if (int_lt (retract_of s l) (bottom_of s l)) RetractBelowBottom >>
    refuse_if (bad_peck s.kind) BadPeck >>
    refuse_if (negative_dwell s.kind) NegativeDwell >>
    refuse_if (needs_spindle s.kind && not l.turning) SpindleNotTurning >>
    refuse_if (not (is_in_range s l)) TooFar

abbrev pub cycle : Series → CycleLine → Result (List CycleMove) CycleRefusal
cycle s l = check s l >> Ok (cycle_moves s l)
