-- What stands in front of a report where motions may touch material. Our own.
use Rattle.std.specs.Prelude.{ℕ, List, [], ◌∷◌, ◌++◌, codes, decimal, length, Option, Some, None}
use Rattle.ngc_material.specs.declared.walk.Found.{Found}
use Rattle.ngc_report.specs.declared.form.Form.{Form}
use Rattle.ngc_report.specs.declared.form.Form.TheVariants.{Words, Json}
use Rattle.ngc_stock_report.specs.Walked.{WalkData}

abbrev pub first_text : List ℕ → ℕ → Found → List ℕ
first_text what count first =
    what ++ decimal count ++ codes ", the first in line " ++ decimal first.line ++ codes "\n"

-- how many motions are found, and the line of the first
abbrev pub found_text : List ℕ → List Found → List ℕ
found_text what [] = []
found_text what (f ∷ fs) = first_text what (length (f ∷ fs)) f

unfoldable pub walk_caution : List Found → List Found → List ℕ
walk_caution traverses feeds =
    found_text (codes "warning: traverses that may touch the material: ") traverses
    ++ found_text (codes "warning: feeds where the shank or holder may touch the material: ") feeds

-- facts have none: their order says nothing
abbrev pub caution_text : Form → Option WalkData → List ℕ
caution_text Words (Some w) = walk_caution w.found w.feeds
caution_text Words None = []
caution_text Json walk = []
