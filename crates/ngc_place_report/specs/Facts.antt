-- The text of a placement as a JSON document. Our own.
use Rattle.std.specs.Prelude.{ℕ, ℤ, ◌*ℤ◌, List, [], ◌++◌, codes, decimal, Option, Some, None, if◌then◌else◌}
use Rattle.std.specs.Fmt.{signed_decimal}
use Rattle.ngc_fixed_length.specs.declared.modes.System.{System}
use Rattle.ngc_fixed_length.specs.declared.points.Point3.{Point3}
use Rattle.ngc_certificate_text.specs.declared.piece.Setting.{Setting}
use Rattle.ngc_certificate_text.specs.declared.piece.Setting.TheVariants as settings
use Rattle.ngc_place.specs.declared.axis.Axis.{Axis}
use Rattle.ngc_place.specs.declared.axis.Axis.TheVariants.{X, Y, Z}
use Rattle.ngc_place.specs.declared.interval.Interval.{Interval}
use Rattle.ngc_place_report.specs.Nearest.{shortest}
use Rattle.ngc_place_report.specs.Systems.{code_text}
use Rattle.ngc_place_report.specs.Words.{axis_text, is_missing}
use Rattle.ngc_place_report.specs.declared.nearest.Shift.{Shift}
use Rattle.ngc_place_report.specs.declared.placement.AlongAxis.{AlongAxis}
use Rattle.ngc_place_report.specs.declared.placement.Finding.{Finding}
use Rattle.ngc_place_report.specs.declared.placement.Finding.TheVariants.{Unmoved, Nowhere, Fits}
use Rattle.ngc_place_report.specs.declared.placement.Here.{Here}
use Rattle.ngc_place_report.specs.declared.placement.Here.TheVariants as heres
use Rattle.ngc_place_report.specs.declared.placement.Placement.{Placement}
use Rattle.ngc_place_report.specs.declared.placement.Staying.{Staying}

-- three lengths in nanometres
unfoldable pub place_fact : Point3 → List ℕ
place_fact p = codes "[" ++ signed_decimal p.x ++ codes "," ++ signed_decimal p.y ++ codes ","
    ++ signed_decimal p.z ++ codes "]"

unfoldable pub origin_fact : System → Point3 → List ℕ
origin_fact system p =
    codes ",\n{\"fact\":\"origin\",\"system\":\"" ++ code_text system ++ codes "\",\"at\":"
    ++ place_fact p ++ codes "}"

unfoldable pub setting_fact : Setting → List ℕ
setting_fact settings.Off = codes "false"
setting_fact settings.On = codes "true"

unfoldable pub here_fact : Here → List ℕ
here_fact heres.Fits = codes ",\n{\"fact\":\"here\",\"fits\":true}"
here_fact (heres.NotCleared setting line) =
    codes ",\n{\"fact\":\"here\",\"fits\":false,\"block_delete\":" ++ setting_fact setting
    ++ codes ",\"line\":" ++ decimal line ++ codes "}"

unfoldable pub interval_fact : ℤ → Interval → List ℕ
interval_fact step i =
    codes ",\"moves\":true,\"fits\":true,\"from\":" ++ signed_decimal (i.from *ℤ step)
    ++ codes ",\"to\":" ++ signed_decimal (i.to *ℤ step)

unfoldable pub finding_fact : ℤ → Finding → List ℕ
finding_fact step Unmoved = codes ",\"moves\":false,\"fits\":null,\"from\":null,\"to\":null"
finding_fact step Nowhere = codes ",\"moves\":true,\"fits\":false,\"from\":null,\"to\":null"
finding_fact step (Fits i) = interval_fact step i

unfoldable pub staying_fact : Option Staying → List ℕ
staying_fact None = codes ",\"staying\":0,\"first_line\":null}"
staying_fact (Some s) =
    codes ",\"staying\":" ++ decimal s.motions ++ codes ",\"first_line\":" ++ decimal s.line
    ++ codes "}"

unfoldable pub along_fact : Axis → ℤ → AlongAxis → List ℕ
along_fact axis step a =
    codes ",\n{\"fact\":\"along\",\"axis\":\"" ++ axis_text axis ++ codes "\""
    ++ finding_fact step a.finding ++ staying_fact a.staying

unfoldable pub shift_fact : ℤ → Shift → List ℕ
shift_fact step s =
    codes ",\n{\"fact\":\"nearest\",\"axis\":\"" ++ axis_text s.axis ++ codes "\",\"shift\":"
    ++ signed_decimal (s.steps *ℤ step) ++ codes "}"

-- the shortest shift, where the program doesn't fit without one
unfoldable pub nearest_fact : Here → ℤ → Option Shift → List ℕ
nearest_fact heres.Fits step s = []
nearest_fact (heres.NotCleared setting line) step None = []
nearest_fact (heres.NotCleared setting line) step (Some s) = shift_fact step s

abbrev pub missing_line_fact : System → List ℕ
missing_line_fact system =
    codes ",\n{\"fact\":\"no_origin\",\"system\":\"" ++ code_text system ++ codes "\"}"

abbrev pub missing_fact_at : System → Point3 → List ℕ
missing_fact_at system p = if is_missing p then missing_line_fact system else []

-- a missing origin, where the program fits neither there nor at a shift
unfoldable pub missing_fact : System → Point3 → Here → Option Shift → List ℕ
missing_fact system p (heres.NotCleared setting line) None = missing_fact_at system p
missing_fact system p _ _ = []

unfoldable pub axes_facts : ℤ → Placement → List ℕ
axes_facts step p = along_fact X step p.x ++ along_fact Y step p.y ++ along_fact Z step p.z

unfoldable pub placement_facts : System → Point3 → ℤ → Placement → List ℕ
placement_facts system origin step p =
    codes "[{\"fact\":\"place\",\"version\":1}" ++ origin_fact system origin ++ here_fact p.here
    ++ axes_facts step p ++ nearest_fact p.here step (shortest p)
    ++ missing_fact system origin p.here (shortest p) ++ codes "\n]\n"
