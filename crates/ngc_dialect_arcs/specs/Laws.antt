-- What holds of arcs that aren't refused. Our own.
use Rattle.std.specs.Prelude.{◌≡◌, ◌<◌, ◌≤◌, ◌-ℤ◌, unsigned_abs, true, Option, None, Ok}
use Rattle.ngc_fixed_length.specs.Places.{from, shifted}
use Rattle.ngc_fixed_length.specs.declared.points.Point2.{Point2}
use Rattle.ngc_fixed_length.specs.declared.units.Units.{Units}
use Rattle.ngc_arc_geometry.specs.Centre.{arc_about, start_in, end_in, centre_format}
use Rattle.ngc_arc_geometry.specs.Radii.{roots_within}
use Rattle.ngc_arc_geometry.specs.declared.given.Ends.{Ends}
use Rattle.ngc_arc_geometry.specs.declared.given.Offsets.{Offsets}
use Rattle.ngc_dialect_arcs.specs.declared.line.ArcLine.{ArcLine}
use Rattle.ngc_dialect_arcs.specs.Centre.{start_square, end_square, chord_square, evened, SHIFT_LIMIT}
use Rattle.ngc_dialect_arcs.specs.Lines.{along_u, along_v, end_of, given, centre_of, shown}

-- the radii at start and end of an evened arc differ by at most 2 nm
abbrev pub EvenedAreAlike : Type 0
EvenedAreAlike = (end given centre : Point2) → 0 < chord_square end → evened end given ≡ Ok centre →
    roots_within 2 (start_square centre) (end_square end centre) ≡ true

-- the offsets that are written
abbrev pub offsets_of : ArcLine → Point2 → Offsets
offsets_of l centre = record {
  u = shown (along_u l.plane l.offsets) centre.u;
  v = shown (along_v l.plane l.offsets) centre.v;
}

-- Our own language takes each arc, in the units in which it is written, whatever point it begins
-- at; and its centre is this one.
abbrev pub ArcsAreTaken : Type 0
ArcsAreTaken = (written : Units) (l : ArcLine) (end centre : Point2) (e : Ends) →
    end_of l ≡ Ok end → centre_of written l ≡ Ok centre →
    e.has_axis_word ≡ true → from (start_in e) (end_in e) ≡ end →
    centre_format written e (offsets_of l centre)
    ≡ Ok (arc_about e (shifted (start_in e) centre))

-- a centre given by offsets moves by at most 0.025 mm along each axis
pub record IsNearby (given centre : Point2) : Type 0 where
  pub u : unsigned_abs (centre.u -ℤ given.u) ≤ SHIFT_LIMIT
  pub v : unsigned_abs (centre.v -ℤ given.v) ≤ SHIFT_LIMIT

abbrev pub CentresStayNear : Type 0
CentresStayNear = (written : Units) (l : ArcLine) (was centre : Point2) →
    l.radius ≡ None → given l ≡ Ok was → centre_of written l ≡ Ok centre → IsNearby was centre
