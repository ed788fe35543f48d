-- What is known before the first line. LinuxCNC's start modes are from a comparison with its
-- interpreter, the others' from their documentation.
use Rattle.std.specs.Prelude.{pos, Option, Some, None, false}
use Rattle.ngc_fixed_length.specs.declared.points.Point3.{Point3}
use Rattle.ngc_fixed_length.specs.declared.modes.RetractMode.{RetractMode}
use Rattle.ngc_fixed_length.specs.declared.modes.RetractMode.TheVariants.{Series, Retract}
use Rattle.ngc_dialect_names.specs.declared.dialect.Dialect.{Dialect}
use Rattle.ngc_dialect_names.specs.declared.dialect.Dialect.TheVariants as dialects
use Rattle.ngc_dialect_rules.specs.declared.code.Code.{Code}
use Rattle.ngc_dialect_rules.specs.declared.code.Code.TheVariants.{G}
use Rattle.ngc_dialect_rules.specs.declared.front.Front.{Front}

-- Grbl starts with G0, the others with no motion mode
abbrev pub start_motion : Dialect → Option Code
start_motion dialects.Grbl = Some (G 0)
start_motion _ = None

-- LinuxCNC starts with G99, the others with G98
abbrev pub start_retract : Dialect → RetractMode
start_retract dialects.LinuxCnc = Retract
start_retract _ = Series

abbrev pub start_front : Dialect → Point3 → Point3 → Front
start_front d home28 home30 = record {
  motion = start_motion d;
  retract = start_retract d;
  absolute_centres = false;
  feed = None;
  length = pos 0;
  home28 = home28;
  home30 = home30;
  selected = pos 0;
  mounted = pos 0;
  spindle = None;
  series = None;
}
