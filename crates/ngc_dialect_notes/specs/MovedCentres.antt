-- Whether the centre of an arc is moved so that its radii agree: whether the offsets that are executed
-- differ from those of the line. Our own.
use Rattle.std.specs.Prelude.{ℤ, ◌-ℤ◌, Bool, true, false, not, ◌&&◌, List, Option, Some, None}
use Rattle.std.specs.Prelude.{Result, Ok, Err, is_none, if◌then◌else◌}
use Rattle.ngc_fixed_length.specs.Signed.{same}
use Rattle.ngc_offsets.specs.declared.given.AxisLengths.{AxisLengths}
use Rattle.ngc_dialect_arcs.specs.declared.line.ArcLine.{ArcLine}
use Rattle.ngc_dialect_parameters.specs.declared.statement.Word.{Word}
use Rattle.ngc_dialect_rules.specs.declared.code.Code.{Code}
use Rattle.ngc_dialect_rules.specs.declared.codes.TheConstants as tables
use Rattle.ngc_dialect_rules.specs.declared.fault.Fault.{Fault}
use Rattle.ngc_dialect_rules.specs.declared.front.Known.{Known}
use Rattle.ngc_dialect_rules.specs.Arcs.{arc_line, offsets_of}
use Rattle.ngc_dialect_rules.specs.Faults.{◌>>=◌}
use Rattle.ngc_dialect_rules.specs.Force.{force_of}
use Rattle.ngc_dialect_rules.specs.Tables.{is_among}

-- I, J or K of a line, and as it is executed, from the start; one along the third axis isn't executed
abbrev pub is_kept : Bool → ℤ → Option ℤ → Option ℤ → Bool
is_kept absolute start None executed = is_none executed
is_kept absolute start (Some o) None = true
is_kept absolute start (Some o) (Some e) = same e (if absolute then o -ℤ start else o)

abbrev pub are_kept : ArcLine → AxisLengths → Bool
are_kept a executed =
    is_kept a.absolute_centre a.start.x a.offsets.x executed.x
    && is_kept a.absolute_centre a.start.y a.offsets.y executed.y
    && is_kept a.absolute_centre a.start.z a.offsets.z executed.z

unfoldable pub is_moved : Known → List Code → List Word → Code → Result Bool Fault
is_moved k line words code = do
  force ← force_of k line words None
  a ← arc_line k line words force code
  executed ← offsets_of force.units code a
  Ok (is_none a.radius && not (are_kept a executed))

abbrev pub holds : Result Bool Fault → Bool
holds (Ok b) = b
holds (Err e) = false

abbrev pub has_moved_centre : Known → List Code → List Word → Code → Bool
has_moved_centre k line words code =
    is_among tables.ARCS code && holds (is_moved k line words code)
