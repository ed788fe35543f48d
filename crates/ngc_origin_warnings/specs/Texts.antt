-- How an origin outside of the travel is warned of, in words and as a fact of a JSON document. Our
-- own.
use Rattle.std.specs.Prelude.{ℕ, ◌==◌, List, [], ◌++◌, codes, decimal, Option, Some, None}
use Rattle.std.specs.Prelude.{if◌then◌else◌}
use Rattle.std.specs.Fmt.{signed_decimal}
use Rattle.ngc_collision.specs.Inside.{place_of}
use Rattle.ngc_frames.specs.Facts.{triple}
use Rattle.ngc_frames.specs.Words.{place_text, system_text}
use Rattle.ngc_report.specs.declared.form.Form.{Form}
use Rattle.ngc_report.specs.declared.form.Form.TheVariants.{Words, Json}
use Rattle.ngc_text.specs.Millimetres.{mm_text}
use Rattle.ngc_origin_warnings.specs.declared.origin.Origin.{Origin}

-- a line put it there
unfoldable pub put_text : Origin → List ℕ
put_text o = codes "warning: line " ++ decimal o.line ++ codes " puts the origin of "
    ++ system_text o.system ++ codes " at " ++ place_text (place_of o.at) ++ codes ", "
    ++ mm_text o.beyond ++ codes " beyond the travel: the first motion"

-- the machine file lacks it
unfoldable pub lacking_text : Origin → List ℕ
lacking_text o = codes "warning: the machine file has no origin of " ++ system_text o.system
    ++ codes ", and the machine's zero is " ++ mm_text o.beyond
    ++ codes " beyond the travel: the first feed"

abbrev pub origin_text : Origin → List ℕ
origin_text o = if o.line == 0 then lacking_text o else put_text o

-- with the line of the first motion from it
abbrev pub origin_words : ℕ → Origin → List ℕ
origin_words line o =
    origin_text o ++ codes " from it is in line " ++ decimal line ++ codes ".\n"

unfoldable pub kind_text : ℕ → List ℕ
kind_text set_by =
    if set_by == 0 then codes "no origin in the machine file, and its zero is beyond the travel"
    else codes "an origin beyond the travel"

unfoldable pub place_fact : Origin → List ℕ
place_fact o = codes "\",\"system\":\"" ++ system_text o.system ++ codes "\",\"at\":"
    ++ triple (place_of o.at) ++ codes ",\"beyond\":" ++ signed_decimal o.beyond

abbrev pub origin_fact : ℕ → Origin → List ℕ
origin_fact line o =
    codes ",\n{\"fact\":\"warning\",\"text\":\"" ++ kind_text o.line ++ place_fact o
    ++ codes ",\"set_by\":" ++ decimal o.line ++ codes ",\"line\":" ++ decimal line ++ codes "}"

-- the warning of a line's motion from this origin, nothing without one
unfoldable pub warning_text : Form → ℕ → Option Origin → List ℕ
warning_text form line None = []
warning_text Words line (Some o) = origin_words line o
warning_text Json line (Some o) = origin_fact line o
