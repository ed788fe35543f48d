-- The heights of a cycle and the place of each of its repeats, in programmed coordinates (NISTIR
-- 6556, 3.5.16 and 3.5.20).
use Rattle.std.specs.Prelude.{ℕ, ◌/◌, ℤ, pos, ◌+ℤ◌, ◌*ℤ◌, unsigned_abs, Option, Some, None}
use Rattle.ngc_fixed_length.specs.Limits.{MILLION, IsLength}
use Rattle.ngc_fixed_length.specs.Places.{in_plane, height}
use Rattle.ngc_fixed_length.specs.Signed.{greater}
use Rattle.ngc_fixed_length.specs.declared.modes.Distance.{Distance}
use Rattle.ngc_fixed_length.specs.declared.modes.Distance.TheVariants.{Absolute, Incremental}
use Rattle.ngc_fixed_length.specs.declared.modes.RetractMode.{RetractMode}
use Rattle.ngc_fixed_length.specs.declared.modes.RetractMode.TheVariants.{Series, Retract}
use Rattle.ngc_fixed_length.specs.declared.points.Point2.{Point2}
use Rattle.ngc_canned_cycles.specs.declared.cycle.Cycle.{Cycle}
use Rattle.ngc_canned_cycles.specs.declared.cycle.Site.{Site}
use Rattle.ngc_canned_cycles.specs.declared.cycle.Start.{Start}

-- the height before the line, and the place before it in the plane
abbrev pub height_before : Cycle → Start → ℤ
height_before c s = height c.plane s.place

abbrev pub place_before : Cycle → Start → Point2
place_before c s = in_plane c.plane s.place

-- a length unchanged in G90, and added to base in G91
abbrev pub relative : Distance → ℤ → ℤ → ℤ
relative Absolute base l = l
relative Incremental base l = base +ℤ l

-- R, relative to the height before, and the bottom, relative to R
abbrev pub retract_of : Cycle → Start → ℤ
retract_of c s = relative c.distance (height_before c s) c.retract

abbrev pub bottom_of : Cycle → Start → ℤ
bottom_of c s = relative c.distance (retract_of c s) c.bottom

-- the height of the first traverse, and the height to which each hole clears
abbrev pub top_of : Cycle → Start → ℤ
top_of c s = greater (height_before c s) (retract_of c s)

abbrev pub clear_at : RetractMode → ℤ → ℤ → ℤ
clear_at Series series retract = greater series retract
clear_at Retract series retract = retract

abbrev pub clear_of : Cycle → Start → ℤ
clear_of c s = clear_at c.clear s.series (retract_of c s)

-- the place of repeat j on one axis of the plane: the word itself, or the word added j times
abbrev pub repeat_on_axis : Distance → ℕ → ℤ → Option ℤ → ℤ
repeat_on_axis distance j before None = before
repeat_on_axis Absolute j before (Some l) = l
repeat_on_axis Incremental j before (Some l) = before +ℤ (pos j *ℤ l)

abbrev pub repeat_place : Cycle → Start → ℕ → Point2
repeat_place c s j = record {
  u = repeat_on_axis c.distance j (place_before c s).u c.u;
  v = repeat_on_axis c.distance j (place_before c s).v c.v;
}

-- the site of repeat j's hole
abbrev pub site_of : Cycle → Start → ℕ → Site
site_of c s j = record {
  plane = c.plane;
  place = repeat_place c s j;
  retract = retract_of c s;
  bottom = bottom_of c s;
  clear = clear_of c s;
}

-- L, or 1 if it is missing
abbrev pub repeats_of : Option ℤ → ℕ
repeats_of None = 1
repeats_of (Some v) = unsigned_abs v / MILLION

-- R, the bottom and the place of repeat j are lengths
pub record AreLengths (c : Cycle) (s : Start) (j : ℕ) : Type 0 where
  pub retract : IsLength (retract_of c s)
  pub bottom : IsLength (bottom_of c s)
  pub u : IsLength (repeat_place c s j).u
  pub v : IsLength (repeat_place c s j).v
