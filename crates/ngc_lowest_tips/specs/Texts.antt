-- How lowest heights are written, in words and as facts of a JSON document. Our own.
use Rattle.std.specs.Prelude.{ℕ, List, [], ◌∷◌, ◌++◌, codes, decimal, Option, Some, None}
use Rattle.std.specs.Fmt.{signed_decimal}
use Rattle.ngc_frames.specs.Words.{system_text}
use Rattle.ngc_report.specs.declared.form.Form.{Form}
use Rattle.ngc_report.specs.declared.form.Form.TheVariants.{Words, Json}
use Rattle.ngc_text.specs.Millimetres.{mm_text}
use Rattle.ngc_lowest_tips.specs.declared.tip.LowestTip.{LowestTip}

unfoldable pub tool_words : Option ℕ → List ℕ
tool_words None = codes "no tool"
tool_words (Some number) = codes "tool " ++ decimal number

unfoldable pub tool_value : Option ℕ → List ℕ
tool_value None = codes "null"
tool_value (Some number) = decimal number

-- in which coordinate system, and with which tool
unfoldable pub pair_words : LowestTip → List ℕ
pair_words t =
    codes "Lowest in " ++ system_text t.system ++ codes " with " ++ tool_words t.tool

-- the height, and the line that goes to it
unfoldable pub height_words : LowestTip → List ℕ
height_words t =
    codes ": Z " ++ mm_text t.height ++ codes ", in line " ++ decimal t.line ++ codes ".\n"

-- the tool whose offset is in force, if it isn't the mounted one
unfoldable pub by_words : Option ℕ → List ℕ
by_words None = []
by_words (Some number) = codes ", by the offset of tool " ++ decimal number

abbrev pub tip_words : LowestTip → List ℕ
tip_words t = pair_words t ++ by_words t.by ++ height_words t

unfoldable pub pair_fact : LowestTip → List ℕ
pair_fact t = codes ",\n{\"fact\":\"lowest\",\"system\":\"" ++ system_text t.system
    ++ codes "\",\"tool\":" ++ tool_value t.tool

unfoldable pub height_fact : LowestTip → List ℕ
height_fact t = codes ",\"z\":" ++ signed_decimal t.height ++ codes ",\"line\":"
    ++ decimal t.line ++ codes "}"

unfoldable pub by_fact : Option ℕ → List ℕ
by_fact None = []
by_fact (Some number) = codes ",\"offset_of\":" ++ decimal number

abbrev pub tip_fact : LowestTip → List ℕ
tip_fact t = pair_fact t ++ by_fact t.by ++ height_fact t

unfoldable pub tip_text : Form → LowestTip → List ℕ
tip_text Words t = tip_words t
tip_text Json t = tip_fact t

-- in order
abbrev pub tips_text : Form → List LowestTip → List ℕ
tips_text form [] = []
tips_text form (t ∷ ts) = tip_text form t ++ tips_text form ts
