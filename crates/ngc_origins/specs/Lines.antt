-- The lines of a report that name the replaced origins. Our own.
use Rattle.std.specs.Prelude.{ℕ, ◌+◌, ◌==◌, List, [], ◌∷◌, ◌++◌, codes, Option, Some, None}
use Rattle.std.specs.Prelude.{if◌then◌else◌}
use Rattle.std.specs.Fmt.{signed_decimal}
use Rattle.ngc_fixed_length.specs.declared.points.Point3.{Point3}
use Rattle.ngc_text.specs.Millimetres.{mm_text}
use Rattle.ngc_origins.specs.Texts.{OriginList}

-- the code that selects a system, by its position among the nine
unfoldable pub code_text : ℕ → List ℕ
code_text system =
    if system == 0 then codes "G54" else
    if system == 1 then codes "G55" else
    if system == 2 then codes "G56" else
    if system == 3 then codes "G57" else
    if system == 4 then codes "G58" else
    if system == 5 then codes "G59" else
    if system == 6 then codes "G59.1" else
    if system == 7 then codes "G59.2" else codes "G59.3"

abbrev pub origin_words : ℕ → Point3 → List ℕ
origin_words system p =
    code_text system ++ codes " at X " ++ mm_text p.x ++ codes ", Y " ++ mm_text p.y
    ++ codes ", Z " ++ mm_text p.z ++ codes " by --origin.\n"

-- three numbers in nanometres
unfoldable pub place_fact : Point3 → List ℕ
place_fact p = codes "[" ++ signed_decimal p.x ++ codes "," ++ signed_decimal p.y ++ codes ","
    ++ signed_decimal p.z ++ codes "]"

-- the same as a fact of a JSON document
unfoldable pub origin_fact : ℕ → Point3 → List ℕ
origin_fact system p =
    codes ",\n{\"fact\":\"origin\",\"system\":\"" ++ code_text system ++ codes "\",\"at\":"
    ++ place_fact p ++ codes "}"

abbrev pub line_of : (ℕ → Point3 → List ℕ) → ℕ → Option Point3 → List ℕ
line_of line system None = []
line_of line system (Some place) = line system place

-- a text for each origin that is replaced, in the order of the systems, from this one on
abbrev pub lines_from : (ℕ → Point3 → List ℕ) → ℕ → OriginList → List ℕ
lines_from line system [] = []
lines_from line system (o ∷ origins) =
    line_of line system o ++ lines_from line (system + 1) origins

abbrev pub origins_words : OriginList → List ℕ
origins_words origins = lines_from origin_words 0 origins

abbrev pub origins_facts : OriginList → List ℕ
origins_facts origins = lines_from origin_fact 0 origins
