-- The text of a placement in words. Our own.
use Rattle.std.specs.Prelude.{ℕ, ◌==◌, ℤ, pos, int_lt, ◌*ℤ◌, List, [], ◌++◌, codes}
use Rattle.std.specs.Prelude.{decimal, Option, Some, None, Bool, ◌&&◌, if◌then◌else◌}
use Rattle.ngc_fixed_length.specs.Signed.{is_zero}
use Rattle.ngc_fixed_length.specs.declared.modes.System.{System}
use Rattle.ngc_fixed_length.specs.declared.points.Point3.{Point3}
use Rattle.ngc_text.specs.Millimetres.{mm_text}
use Rattle.ngc_certificate_text.specs.declared.piece.Setting.{Setting}
use Rattle.ngc_certificate_text.specs.declared.piece.Setting.TheVariants as settings
use Rattle.ngc_place.specs.declared.axis.Axis.{Axis}
use Rattle.ngc_place.specs.declared.axis.Axis.TheVariants.{X, Y, Z}
use Rattle.ngc_place.specs.declared.interval.Interval.{Interval}
use Rattle.ngc_place_report.specs.Nearest.{shortest}
use Rattle.ngc_place_report.specs.Systems.{code_text}
use Rattle.ngc_place_report.specs.declared.nearest.Shift.{Shift}
use Rattle.ngc_place_report.specs.declared.placement.AlongAxis.{AlongAxis}
use Rattle.ngc_place_report.specs.declared.placement.Finding.{Finding}
use Rattle.ngc_place_report.specs.declared.placement.Finding.TheVariants.{Unmoved, Nowhere, Fits}
use Rattle.ngc_place_report.specs.declared.placement.Here.{Here}
use Rattle.ngc_place_report.specs.declared.placement.Here.TheVariants as heres
use Rattle.ngc_place_report.specs.declared.placement.Placement.{Placement}
use Rattle.ngc_place_report.specs.declared.placement.Staying.{Staying}

unfoldable pub origin_words : System → Point3 → List ℕ
origin_words system p =
    code_text system ++ codes " is at X " ++ mm_text p.x ++ codes ", Y " ++ mm_text p.y
    ++ codes ", Z " ++ mm_text p.z ++ codes ".\n"

unfoldable pub setting_words : Setting → List ℕ
setting_words settings.Off = codes " with block delete off"
setting_words settings.On = codes " with block delete on"

unfoldable pub here_words : Here → List ℕ
here_words heres.Fits = codes "The program fits there.\n"
here_words (heres.NotCleared setting line) =
    codes "The program doesn't fit there: see line " ++ decimal line ++ setting_words setting
    ++ codes ". `ngc report` tells more.\n"

abbrev pub axis_text : Axis → List ℕ
axis_text X = codes "X"
axis_text Y = codes "Y"
axis_text Z = codes "Z"

-- the sign of a length above 0; mm_text writes that of one below 0
unfoldable pub plus_text : ℤ → List ℕ
plus_text n = if int_lt (pos 0) n then codes "+" else []

-- a shift by n steps
unfoldable pub shift_words : ℤ → ℤ → List ℕ
shift_words step n = plus_text n ++ mm_text (n *ℤ step)

unfoldable pub interval_words : ℤ → Interval → List ℕ
interval_words step i =
    codes " it fits at shifts from " ++ shift_words step i.from ++ codes " to "
    ++ shift_words step i.to

unfoldable pub finding_words : System → ℤ → Finding → List ℕ
finding_words system step Unmoved =
    codes " nothing is known: with " ++ code_text system
    ++ codes " shifted it is refused or moves otherwise"
finding_words system step Nowhere = codes " it fits at no shift that was tried"
finding_words system step (Fits i) = interval_words step i

abbrev pub motions_words : ℕ → List ℕ
motions_words n =
    if n == 1 then codes " motion stays, in line " else codes " motions stay, the first in line "

unfoldable pub staying_words : Option Staying → List ℕ
staying_words None = []
staying_words (Some s) =
    codes "; " ++ decimal s.motions ++ motions_words s.motions ++ decimal s.line

-- what is known of an axis
unfoldable pub along_words : Axis → System → ℤ → AlongAxis → List ℕ
along_words axis system step a =
    codes "Along " ++ axis_text axis ++ finding_words system step a.finding
    ++ staying_words a.staying ++ codes ".\n"

unfoldable pub tested_words : List ℕ
tested_words = codes "Both ends of each interval were tested by executing the program there.\n"

-- the shortest shift, where the program doesn't fit without one
unfoldable pub shortest_words : Here → ℤ → Shift → List ℕ
shortest_words heres.Fits step s = []
shortest_words (heres.NotCleared setting line) step s =
    codes "Nearest: " ++ axis_text s.axis ++ codes " " ++ shift_words step s.steps ++ codes ".\n"

unfoldable pub nearest_words : Here → ℤ → Option Shift → List ℕ
nearest_words here step None = []
nearest_words here step (Some s) = tested_words ++ shortest_words here step s

-- an origin at the machine's zero, as where the machine file has none
abbrev pub is_missing : Point3 → Bool
is_missing p = is_zero p.x && (is_zero p.y && is_zero p.z)

abbrev pub missing_line : System → List ℕ
missing_line system =
    code_text system
    ++ codes " has no origin in the machine file: give it there or with `--origin`.\n"

abbrev pub missing_at : System → Point3 → List ℕ
missing_at system p = if is_missing p then missing_line system else []

-- a missing origin, where the program fits neither there nor at a shift
unfoldable pub missing_words : System → Point3 → Here → Option Shift → List ℕ
missing_words system p (heres.NotCleared setting line) None = missing_at system p
missing_words system p _ _ = []

unfoldable pub axes_words : System → ℤ → Placement → List ℕ
axes_words system step p =
    along_words X system step p.x ++ along_words Y system step p.y ++ along_words Z system step p.z

unfoldable pub placement_words : System → Point3 → ℤ → Placement → List ℕ
placement_words system origin step p =
    origin_words system origin ++ here_words p.here ++ axes_words system step p
    ++ nearest_words p.here step (shortest p)
    ++ missing_words system origin p.here (shortest p)
