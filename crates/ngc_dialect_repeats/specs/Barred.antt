-- The codes beside which a line isn't executed as lines of other words, by the one table of both uses.
-- Our own.
use Rattle.std.specs.Prelude.{Bool, ◌&&◌, List}
use Rattle.std.specs.List.{list_any}
use Rattle.ngc_dialect_rules.specs.declared.code.Code.{Code}
use Rattle.ngc_dialect_rules.specs.declared.codes.TheConstants as codes
use Rattle.ngc_dialect_rules.specs.Tables.{has}
use Rattle.ngc_dialect_repeats.specs.declared.barred.Barred.{Barred}
use Rattle.ngc_dialect_repeats.specs.declared.barred.Group.{Group}
use Rattle.ngc_dialect_repeats.specs.declared.barred.Group.TheVariants as groups
use Rattle.ngc_dialect_repeats.specs.declared.barred.TheConstants as tables

abbrev pub codes_of : Group → List Code
codes_of groups.NonModal = codes.NON_MODAL
codes_of groups.Systems = codes.SYSTEMS
codes_of groups.Stops = codes.STOPS
codes_of groups.WordLength = codes.WORD_LENGTH
codes_of groups.Lengths = codes.LENGTHS
codes_of groups.MotionEnd = codes.MOTION_END
codes_of groups.Compensation = codes.COMPENSATION
codes_of groups.Paths = codes.PATHS
codes_of groups.Told = codes.TOLD

abbrev pub has_group : Group → List Code → Bool
has_group group line = has (codes_of group) line

abbrev pub bars_polar : List Code → Bool
bars_polar line = list_any (λ (b : Barred). b.polar && has_group b.group line) tables.BARRED

abbrev pub bars_turns : List Code → Bool
bars_turns line = list_any (λ (b : Barred). b.turns && has_group b.group line) tables.BARRED
