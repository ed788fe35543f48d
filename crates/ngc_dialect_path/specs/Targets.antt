-- The programmed move of a line, in machine coordinates, by the programmed place.
use Rattle.std.specs.Prelude.{ℕ, ℤ, pos, ◌+ℤ◌, Bool, true, false, not, ◌&&◌, Option, Some, None, Result}
use Rattle.std.specs.Prelude.{Ok, Err, if◌then◌else◌}
use Rattle.ngc_fixed_length.specs.Places.{in_plane, height}
use Rattle.ngc_fixed_length.specs.declared.modes.Distance.{Distance}
use Rattle.ngc_fixed_length.specs.declared.modes.Distance.TheVariants.{Absolute, Incremental}
use Rattle.ngc_fixed_length.specs.declared.modes.FeedMode.{FeedMode}
use Rattle.ngc_fixed_length.specs.declared.modes.FeedMode.TheVariants.{PerMinute, InverseTime}
use Rattle.ngc_fixed_length.specs.declared.modes.Turn.TheVariants.{Clockwise, Counterclockwise}
use Rattle.ngc_fixed_length.specs.declared.points.Point2.{Point2}
use Rattle.ngc_fixed_length.specs.declared.points.Point3.{Point3}
use Rattle.ngc_offsets.specs.declared.fault.Axis.{Axis}
use Rattle.ngc_offsets.specs.declared.fault.Axis.TheVariants as axes
use Rattle.ngc_compensation.specs.declared.moves.Motion.{Motion}
use Rattle.ngc_compensation.specs.declared.moves.Motion.TheVariants as motions
use Rattle.ngc_compensation.specs.declared.moves.Move.{Move}
use Rattle.ngc_compensation.specs.declared.moves.Outcome.{Outcome}
use Rattle.ngc_compensation.specs.Steps.{step, finished}
use Rattle.ngc_dialect_rules.specs.declared.code.Code.{Code}
use Rattle.ngc_dialect_rules.specs.declared.code.Code.TheVariants.{G}
use Rattle.ngc_dialect_rules.specs.declared.fault.Cause.TheVariants as causes
use Rattle.ngc_dialect_rules.specs.declared.fault.Fault.{Fault}
use Rattle.ngc_dialect_rules.specs.declared.front.Known.{Known}
use Rattle.ngc_dialect_rules.specs.declared.plan.Action.{Action}
use Rattle.ngc_dialect_rules.specs.declared.plan.InForce.{InForce}
use Rattle.ngc_dialect_rules.specs.Bytes as bytes
use Rattle.ngc_dialect_rules.specs.Codes.{is_code}
use Rattle.ngc_dialect_rules.specs.Faults.{◌>>=◌, about_code, refuse_if}
use Rattle.ngc_dialect_rules.specs.Lengths.{limited}
use Rattle.ngc_dialect_drilling.specs.Places.{letter_of, own_shift}
use Rattle.ngc_dialect_path.specs.declared.path.Beside.{Beside}
use Rattle.ngc_dialect_path.specs.declared.target.Straight.{Straight}
use Rattle.ngc_dialect_path.specs.Refusing.{or_refused}

-- ---- the end

-- the machine coordinate from which an axis word counts: with G53 it is zero
abbrev pub base_of : Known → Distance → Bool → Axis → ℤ → ℤ
base_of k distance true axis place = pos 0
base_of k Absolute false axis place = own_shift k axis
base_of k Incremental false axis place = place

-- an axis without a word stays
abbrev pub target_on : Known → Distance → Bool → Axis → ℤ → Option ℤ → Result ℤ Fault
target_on k distance is_machine axis place None = Ok place
target_on k distance is_machine axis place (Some l) =
    limited (letter_of axis) (base_of k distance is_machine axis place +ℤ l)

abbrev pub end_of : Known → Distance → Action → Result Point3 Fault
end_of k distance a = do
  x ← target_on k distance a.is_machine axes.X k.place.x a.axes.x
  y ← target_on k distance a.is_machine axes.Y k.place.y a.axes.y
  z ← target_on k distance a.is_machine axes.Z k.place.z a.axes.z
  Ok (record { x = x; y = y; z = z })

-- ---- the centre

abbrev pub moved : ℕ → ℤ → Option ℤ → Result ℤ Fault
moved letter place None = Ok place
moved letter place (Some o) = limited letter (place +ℤ o)

abbrev pub centre_of : Known → Action → Result Point3 Fault
centre_of k a = do
  x ← moved bytes.I k.place.x a.centre.x
  y ← moved bytes.J k.place.y a.centre.y
  z ← moved bytes.K k.place.z a.centre.z
  Ok (record { x = x; y = y; z = z })

-- ---- the move

-- each motion has its code here
abbrev pub code_or : Option Code → Code
code_or None = G 10
code_or (Some code) = code

abbrev pub code_of : Action → Code
code_of a = code_or a.code

abbrev pub motion_by : Code → Point2 → Motion
motion_by code centre =
    if is_code code (G 0) then motions.Traverse else (
    if is_code code (G 20) then motions.Arc Clockwise centre else (
    if is_code code (G 30) then motions.Arc Counterclockwise centre else motions.Feed))

abbrev pub move_of : Known → Distance → Action → Result Move Fault
move_of k distance a = do
  end ← end_of k distance a
  centre ← centre_of k a
  Ok (record {
    motion = motion_by (code_of a) (in_plane k.modes.plane centre);
    end = in_plane k.modes.plane end;
    height = height k.modes.plane end;
  })

abbrev pub is_inverse : FeedMode → Bool
is_inverse PerMinute = false
is_inverse InverseTime = true

-- the tool's moves that a line's motion makes certain, and the compensation after it
abbrev pub next_moves : Known → Beside → InForce → Action → Result Outcome Fault
next_moves k p force a = do
  feed ← refuse_if (is_inverse force.feed_mode) (about_code causes.CompensationInInverseTime (code_of a))
  m ← move_of k force.distance a
  or_refused (code_of a) (step p.moves m)

-- the held move at its own end
abbrev pub last_move : Beside → Result (Option Move) Fault
last_move p = or_refused (G 400) (finished p.moves)

-- after G40 a straight motion leads the tool back to programmed places, on all axes
abbrev pub straight_end : Known → InForce → Action → Result Straight Fault
straight_end k force a = do
  line ← refuse_if (not (is_code (code_of a) (G 0)) && not (is_code (code_of a) (G 10)))
      (about_code causes.WhileLeaving (code_of a))
  end ← end_of k force.distance a
  Ok (record { code = code_of a; end = end })
