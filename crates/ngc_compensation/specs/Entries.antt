-- The entry move (LinuxCNC's documentation, "Cutter Radius Compensation": it is longer than the
-- tool's radius, and ends beside the programmed end, square to it).
use Rattle.std.specs.Prelude.{ℕ, ◌*◌, ◌==◌, nat_le, ℤ, pos, ◌+ℤ◌, ◌*ℤ◌, int_le, unsigned_abs, Bool, ◌&&◌, ◌||◌}
use Rattle.std.specs.Prelude.{Option, Some, None, Result, Ok, if◌then◌else◌}
use Rattle.ngc_fixed_length.specs.Places.{from, dot}
use Rattle.ngc_fixed_length.specs.Rounding.{nearest}
use Rattle.ngc_fixed_length.specs.declared.modes.Turn.{Turn}
use Rattle.ngc_fixed_length.specs.declared.points.Point2.{Point2}
use Rattle.ngc_compensation.specs.declared.moves.Compensation.{Compensation}
use Rattle.ngc_compensation.specs.declared.moves.Motion.{Motion}
use Rattle.ngc_compensation.specs.declared.moves.Motion.TheVariants.{Traverse, Feed, Arc}
use Rattle.ngc_compensation.specs.declared.moves.Move.{Move}
use Rattle.ngc_compensation.specs.declared.moves.Outcome.{Outcome}
use Rattle.ngc_compensation.specs.declared.moves.Side.{Side}
use Rattle.ngc_compensation.specs.declared.refusal.Refusal.{Refusal}
use Rattle.ngc_compensation.specs.declared.refusal.Refusal.TheVariants as why
use Rattle.ngc_compensation.specs.Refusals.{◌>>=◌, refuse_if, needed}
use Rattle.ngc_compensation.specs.Sides.{turned, backward, apart, is_inside}
use Rattle.ngc_compensation.specs.Offsets.{beside, reached}

-- the tool's radius in nanometres
abbrev pub radius_of : Compensation → ℕ
radius_of k = unsigned_abs k.radius

-- the direction from a point of an arc to the tool
abbrev pub arc_normal : Side → Turn → Point2 → Point2 → Point2
arc_normal side turn centre p =
    if is_inside side turn then from p centre else backward (from p centre)

-- the centre is at the point, or the tool on the arc's inside doesn't fit into it
abbrev pub is_too_small : Side → ℕ → Turn → Point2 → Point2 → Bool
is_too_small side r turn centre p =
    (apart p centre == 0) || (is_inside side turn && nat_le (apart p centre) (r * r))

-- the compensation after a move whose end is held
abbrev pub holding : Compensation → Move → Motion → Point2 → Point2 → Point2 → Compensation
holding k m motion start end normal = record {
  side = k.side;
  radius = k.radius;
  place = m.end;
  height = m.height;
  held = Some (record {
    motion = motion;
    start = start;
    end = end;
    height = m.height;
    normal = normal;
  });
}

abbrev pub entered : Compensation → Move → Motion → Point2 → Outcome
entered k m motion normal = record {
  made = None;
  corner = None;
  next = holding k m motion k.place (beside m.end (radius_of k) normal) normal;
}

-- the point in the direction g from a place, at square / divisor times its length
unfoldable pub centre_at : Point2 → Point2 → ℕ → ℤ → Option Point2
centre_at end g square divisor =
    reached end (nearest (g.u *ℤ pos square) divisor) (nearest (g.v *ℤ pos square) divisor)

-- the centre of the arc from start to end that ends there about a centre in the direction g: as
-- far from the start as from the end
abbrev pub entry_centre : Point2 → Point2 → Point2 → Option Point2
entry_centre start end g =
    if int_le (dot (from end start) g) (pos 0) then None
    else centre_at end g (apart end start) (dot (from end start) g +ℤ dot (from end start) g)

-- an arc that ends as the programmed one about a centre, with the tool in a direction there
abbrev pub enter_with : Compensation → Move → Turn → Point2 → Point2 → Result Outcome Refusal
enter_with k m turn centre normal = do
  c ← needed why.NoEntryArc
      (entry_centre k.place (beside m.end (radius_of k) normal) (from m.end centre))
  Ok (entered k m (Arc turn c) normal)

abbrev pub enter_arc : Compensation → Move → Turn → Point2 → Result Outcome Refusal
enter_arc k m turn centre =
    refuse_if (is_too_small k.side (radius_of k) turn centre m.end) why.ArcTooSmall >>= λ fits.
    enter_with k m turn centre (arc_normal k.side turn centre m.end)

abbrev pub enter_line : Compensation → Move → Outcome
enter_line k m = entered k m m.motion (turned k.side (from k.place m.end))

abbrev pub enter_by : Compensation → Move → Motion → Result Outcome Refusal
enter_by k m (Arc turn centre) = enter_arc k m turn centre
enter_by k m Traverse = Ok (enter_line k m)
enter_by k m Feed = Ok (enter_line k m)

unfoldable pub enter : Compensation → Move → Result Outcome Refusal
enter k m = do
  long ← refuse_if (nat_le (apart k.place m.end) (radius_of k * radius_of k)) why.EntryTooShort
  enter_by k m m.motion
