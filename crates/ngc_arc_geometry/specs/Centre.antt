-- The centre of an arc in its two formats (NISTIR 6556, 3.5.3.1 and 3.5.3.2). Its rounding is our
-- own.
use Rattle.std.specs.Prelude.{ℕ, ◌+◌, ◌*◌, ◌==◌, nat_le, nat_lt, ℤ, pos, ◌*ℤ◌, neg_ℤ, unsigned_abs}
use Rattle.std.specs.Prelude.{Result, Ok, Err, not, is_none, unwrap_or, ◌&&◌, if◌then◌else◌}
use Rattle.std.specs.Int.{int_signum}
use Rattle.ngc_fixed_length.specs.Places.{in_plane, from, shifted, dot}
use Rattle.ngc_fixed_length.specs.Signed.{is_zero, is_negative}
use Rattle.ngc_fixed_length.specs.declared.units.Units.{Units}
use Rattle.ngc_fixed_length.specs.declared.points.Point2.{Point2}
use Rattle.ngc_arc_geometry.specs.Shape.{ArcShape, IsNear}
use Rattle.ngc_arc_geometry.specs.declared.given.Ends.{Ends}
use Rattle.ngc_arc_geometry.specs.declared.given.Offsets.{Offsets}
use Rattle.ngc_arc_geometry.specs.declared.fault.ArcFault.{ArcFault}
use Rattle.ngc_arc_geometry.specs.declared.fault.ArcFault.TheVariants.{NoAxisWord, NoOffset}
use Rattle.ngc_arc_geometry.specs.declared.fault.ArcFault.TheVariants.{RadiusTooSmall, EndIsStart}
use Rattle.ngc_arc_geometry.specs.declared.fault.ArcFault.TheVariants.{RadiusOutOfRange}
use Rattle.ngc_arc_geometry.specs.Faults.{◌>>=◌, ◌>>◌, refuse_if}
use Rattle.ngc_arc_geometry.specs.Tolerance.{tolerance}
use Rattle.ngc_arc_geometry.specs.Chord.{halfway, aside, side}
use Rattle.ngc_arc_geometry.specs.Radii.{hi, SQUARE_LIMIT, with_equal_radii}

-- both ends lie within 90 metres of zero on each axis
pub record IsEnds (e : Ends) : Type 0 where
  pub start : IsNear e.start
  pub end : IsNear e.end

abbrev pub arc_about : Ends → Point2 → ArcShape
arc_about e centre =
    record { plane = e.plane; turn = e.turn; start = e.start; end = e.end; centre = centre }

abbrev pub start_in : Ends → Point2
start_in e = in_plane e.plane e.start

abbrev pub end_in : Ends → Point2
end_in e = in_plane e.plane e.end

-- ---- centre format: the centre is the start plus the offsets

abbrev pub offset_point : Offsets → Point2
offset_point o = record { u = unwrap_or o.u (pos 0); v = unwrap_or o.v (pos 0) }

abbrev pub offset_centre : Ends → Offsets → Point2
offset_centre e o = shifted (start_in e) (offset_point o)

abbrev pub centre_format : Units → Ends → Offsets → Result ArcShape ArcFault
centre_format units e o =
    refuse_if (not e.has_axis_word) NoAxisWord >>
    refuse_if (is_none o.u && is_none o.v) NoOffset >>
    refuse_if (nat_lt SQUARE_LIMIT (hi (arc_about e (offset_centre e o)))) RadiusOutOfRange >>
    with_equal_radii (tolerance units) (arc_about e (offset_centre e o))

-- ---- radius format: the vector d from start to end, and the length r of the word R

abbrev pub chord : Ends → Point2
chord e = from (start_in e) (end_in e)

abbrev pub chord_square : Ends → ℕ
chord_square e = unsigned_abs (dot (chord e) (chord e))

abbrev pub middle : Ends → Point2
middle e =
    record { u = halfway (start_in e).u (end_in e).u; v = halfway (start_in e).v (end_in e).v }

-- from the middle, perpendicular to the chord
abbrev pub aside_point : ℤ → ℕ → ℕ → Point2 → Point2
aside_point s square d2 d = record {
  u = neg_ℤ (s *ℤ int_signum d.v *ℤ aside square d2 d.v);
  v = s *ℤ int_signum d.u *ℤ aside square d2 d.u;
}

-- 4*(|r|+t)*(|r|+t)
abbrev pub reach : ℕ → ℕ → ℕ
reach r t = 4 * (r + t) * (r + t)

-- beside the middle if the radius reaches it; the middle itself if the radius is too short by at
-- most t
abbrev pub radius_centre : ℕ → Ends → ℤ → Result Point2 ArcFault
radius_centre t e r =
    if nat_le (chord_square e) (4 * (unsigned_abs r * unsigned_abs r))
    then Ok (shifted (middle e)
    (aside_point (side e.turn (is_negative r)) (unsigned_abs r * unsigned_abs r)
    (chord_square e) (chord e)))
    else (if nat_le (chord_square e) (reach (unsigned_abs r) t) then Ok (middle e)
    else Err RadiusTooSmall)

abbrev pub radius_format : Units → Ends → ℤ → Result ArcShape ArcFault
radius_format units e r =
    refuse_if (not e.has_axis_word) NoAxisWord >>
    refuse_if (chord_square e == 0) EndIsStart >>
    refuse_if (is_zero r) RadiusOutOfRange >>
    refuse_if (nat_lt SQUARE_LIMIT (unsigned_abs r * unsigned_abs r)) RadiusOutOfRange >>
    (radius_centre (tolerance units) e r >>= λ centre.
    with_equal_radii (tolerance units) (arc_about e centre))
