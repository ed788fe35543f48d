-- By how much the radii of an arc may differ, and how small a radius may be, in nanometres
-- (LinuxCNC's documentation, "Center Format Arcs"; Grbl's source, gcode.c). Mach3 and Fanuc have no
-- limit of their own here.
use Rattle.std.specs.Prelude.{ℕ, ◌*◌, nat_le, Bool, true, ◌&&◌, ◌||◌}
use Rattle.ngc_fixed_length.specs.declared.units.Units.{Units}
use Rattle.ngc_fixed_length.specs.declared.units.Units.TheVariants.{Millimetres, Inches}
use Rattle.ngc_arc_geometry.specs.Radii.{roots_within}
use Rattle.ngc_dialect_names.specs.declared.dialect.Dialect.{Dialect}
use Rattle.ngc_dialect_names.specs.declared.dialect.Dialect.TheVariants.{LinuxCnc, Grbl}

-- LinuxCNC takes a radius below 0.00005 inch as 0
abbrev pub least_radius : Dialect → ℕ
least_radius LinuxCnc = 1270
least_radius _ = 1

-- R may be shorter than half the distance from start to end by 0.00005 inch in LinuxCNC, and by
-- what the rounding of lengths makes elsewhere
abbrev pub slack : Dialect → ℕ
slack LinuxCnc = 1270
slack _ = 2

-- LinuxCNC's limit: 0.02828 mm or 0.0028 inch
abbrev pub spiral_limit : Units → ℕ
spiral_limit Millimetres = 28284
spiral_limit Inches = 71842

-- The squares of the radii at start and end are s and e.
-- The difference is at most a thousandth of the greater radius.
abbrev pub is_slight : ℕ → ℕ → Bool
is_slight s e = nat_le (998001 * s) (1000000 * e) && nat_le (998001 * e) (1000000 * s)

-- the same of the radius at the start
abbrev pub is_slight_at_start : ℕ → ℕ → Bool
is_slight_at_start s e = nat_le (998001 * s) (1000000 * e) && nat_le (1000000 * e) (1002001 * s)

-- at most the limit, or a thousandth and at most a hundred times the limit
abbrev pub may_differ : Dialect → Units → ℕ → ℕ → Bool
may_differ LinuxCnc units s e =
    roots_within (spiral_limit units) s e
    || (roots_within (100 * spiral_limit units) s e && is_slight s e)
may_differ Grbl units s e =
    roots_within 5000 s e || (roots_within 500000 s e && is_slight_at_start s e)
may_differ _ units s e = true
