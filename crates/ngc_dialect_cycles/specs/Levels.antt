-- The heights of a line's cycle, and the place of each of its holes, in machine lengths. Our own, as
-- LinuxCNC moves.
use Rattle.std.specs.Prelude.{ℕ, ℤ, pos, ◌+ℤ◌, ◌*ℤ◌}
use Rattle.ngc_fixed_length.specs.declared.points.Point2.{Point2}
use Rattle.ngc_canned_cycles.specs.declared.cycle.Site.{Site}
use Rattle.ngc_canned_cycles.specs.Heights.{relative, clear_at}
use Rattle.ngc_dialect_cycles.specs.declared.line.Series.{Series}
use Rattle.ngc_dialect_cycles.specs.declared.line.CycleLine.{CycleLine}
use Rattle.ngc_dialect_cycles.specs.declared.line.Levels.{Levels}

-- R: in G91 it counts from the initial level
abbrev pub retract_of : Series → CycleLine → ℤ
retract_of s l = relative l.distance s.level s.retract

-- the depth: in G91 it counts from R
abbrev pub bottom_of : Series → CycleLine → ℤ
bottom_of s l = relative l.distance (retract_of s l) s.depth

-- the height to which each hole clears: R in G99; in G98 the initial level, or R if that is higher
abbrev pub clear_of : Series → CycleLine → ℤ
clear_of s l = clear_at l.clear s.level (retract_of s l)

abbrev pub levels : Series → CycleLine → Levels
levels s l = record { retract = retract_of s l; bottom = bottom_of s l; clear = clear_of s l }

-- the place of hole k, counted from 0
abbrev pub hole_place : CycleLine → ℕ → Point2
hole_place l k = record {
  u = l.first.u +ℤ (pos k *ℤ l.step.u);
  v = l.first.v +ℤ (pos k *ℤ l.step.v);
}

abbrev pub site_of : Series → CycleLine → ℕ → Site
site_of s l k = record {
  plane = l.plane;
  place = hole_place l k;
  retract = retract_of s l;
  bottom = bottom_of s l;
  clear = clear_of s l;
}
