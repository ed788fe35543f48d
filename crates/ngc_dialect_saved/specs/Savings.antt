-- Which of M70 to M73 a line is (LinuxCNC's documentation, "M70" to "M73"). That they are alone on their
-- line is our own limit.
use Rattle.std.specs.Prelude.{ℤ, pos, ◌==◌, ◌&&◌, List, [], ◌∷◌, Option, Some, None, if◌then◌else◌}
use Rattle.std.specs.Ordering.{int_eq}
use Rattle.ngc_dialect_names.specs.declared.dialect.Dialect.{Dialect}
use Rattle.ngc_dialect_parameters.specs.declared.statement.Word.{Word}
use Rattle.ngc_dialect_rules.specs.declared.code.Code.{Code}
use Rattle.ngc_dialect_rules.specs.declared.code.Code.TheVariants.{M}
use Rattle.ngc_dialect_rules.specs.Bytes as bytes
use Rattle.ngc_dialect_rules.specs.Tables.{is_linuxcnc}
use Rattle.ngc_dialect_saved.specs.declared.saving.Saving.{Saving}
use Rattle.ngc_dialect_saved.specs.declared.saving.Saving.TheVariants.{Save, Forget, Restore, SaveToReturn}

-- by the value of an M word
abbrev pub saving_of : ℤ → Option Saving
saving_of value =
    if int_eq value (pos 70000000000000) then Some Save else (
    if int_eq value (pos 71000000000000) then Some Forget else (
    if int_eq value (pos 72000000000000) then Some Restore else (
    if int_eq value (pos 73000000000000) then Some SaveToReturn else None)))

abbrev pub saving_in : Dialect → List Word → Option Saving
saving_in d (w ∷ []) = if is_linuxcnc d && (w.letter == bytes.M) then saving_of w.value else None
saving_in d _ = None

abbrev pub saving_code : Saving → Code
saving_code Save = M 70
saving_code Forget = M 71
saving_code Restore = M 72
saving_code SaveToReturn = M 73
