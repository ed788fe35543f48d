-- A line's F, S, T, H and dwell (LinuxCNC's documentation, "G43", "G4"; NISTIR 6556, 3.7.1 to
-- 3.7.3).
use Rattle.std.specs.Prelude.{ℤ, pos, not, ◌&&◌, List, Option}
use Rattle.std.specs.Prelude.{Some, None, Result, Ok, Err}
use Rattle.std.specs.Prelude.{if◌then◌else◌}
use Rattle.ngc_fixed_length.specs.Rounding.{nearest}
use Rattle.ngc_fixed_length.specs.Signed.{is_zero}
use Rattle.ngc_dialect_names.specs.declared.dialect.Dialect.{Dialect}
use Rattle.ngc_dialect_parameters.specs.declared.statement.Word.{Word}
use Rattle.ngc_dialect_rules.specs.declared.code.Code.{Code}
use Rattle.ngc_dialect_rules.specs.declared.code.Code.TheVariants.{G}
use Rattle.ngc_dialect_rules.specs.declared.codes.TheConstants as codes
use Rattle.ngc_dialect_rules.specs.declared.fault.Cause.TheVariants as causes
use Rattle.ngc_dialect_rules.specs.declared.fault.Fault.{Fault}
use Rattle.ngc_dialect_rules.specs.declared.front.Front.{Front}
use Rattle.ngc_dialect_rules.specs.declared.front.Known.{Known}
use Rattle.ngc_dialect_rules.specs.declared.plan.Amounts.{Amounts}
use Rattle.ngc_dialect_rules.specs.Faults.{◌>>=◌, about_code}
use Rattle.ngc_dialect_rules.specs.Tables.{has, code_in, is_fanuc, is_linuxcnc, or_else}
use Rattle.ngc_dialect_rules.specs.Words.{amount, count, rounded, not_negative, millionths_of}
use Rattle.ngc_dialect_rules.specs.Words.{word_of}
use Rattle.ngc_dialect_rules.specs.Bytes as bytes

-- the tool that T selects, and the one that is mounted after M6
abbrev pub selected_after : Front → Option ℤ → ℤ
selected_after front None = front.selected
selected_after front (Some t) = t

abbrev pub mounted_after : Front → List Code → Option ℤ → ℤ
mounted_after front line t =
    if has codes.TOOL_CHANGE line then selected_after front t else front.mounted

-- G43 takes the offset of the tool that H names, else of the mounted one; in LinuxCNC H0 is the
-- mounted one
abbrev pub named_tool : Known → List Code → Option ℤ → Code → Option ℤ → Result (Option ℤ) Fault
named_tool k line t code None =
    if is_fanuc k.dialect then Err (about_code causes.WordMissing code)
    else Ok (Some (mounted_after k.front line t))
named_tool k line t code (Some h) =
    Ok (Some (if is_linuxcnc k.dialect && is_zero h then mounted_after k.front line t else h))

abbrev pub offset_by :
    Known → List Code → List Word → Option ℤ → Option Code → Result (Option ℤ) Fault
offset_by k line words t None = Ok None
offset_by k line words t (Some code) = do
  h ← count bytes.H words
  named_tool k line t code h

unfoldable pub offset_tool : Known → List Code → List Word → Option ℤ → Result (Option ℤ) Fault
offset_tool k line words t = offset_by k line words t (code_in codes.TABLE_LENGTHS line)

-- P is in seconds; without a point Fanuc's is in milliseconds
unfoldable pub seconds : Dialect → Word → ℤ
seconds d w =
    if is_fanuc d && not w.point then nearest (millionths_of w.value) (pos 1000)
    else millionths_of w.value

-- Fanuc takes X and U too, in seconds
abbrev pub dwell_by : Dialect → List Word → Option Word → Option ℤ
dwell_by d words (Some p) = Some (seconds d p)
dwell_by d words None =
    if is_fanuc d then or_else (rounded bytes.X words) (rounded bytes.U words) else None

abbrev pub needed_dwell : Option ℤ → Result (Option ℤ) Fault
needed_dwell None = Err (about_code causes.WordMissing (G 40))
needed_dwell (Some v) = not_negative bytes.P (Some v)

-- the dwell of G4, in millionths of a second
unfoldable pub dwell : Dialect → List Code → List Word → Result (Option ℤ) Fault
dwell d line words =
    if has codes.DWELL line then needed_dwell (dwell_by d words (word_of bytes.P words))
    else Ok None

unfoldable pub amounts_of : Known → List Code → List Word → Result Amounts Fault
amounts_of k line words = do
  f ← amount bytes.F words
  s ← amount bytes.S words
  t ← count bytes.T words
  h ← offset_tool k line words t
  p ← dwell k.dialect line words
  Ok (record { feed = f; speed = s; tool = t; offset = h; dwell = p })
