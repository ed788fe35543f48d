-- The text of a machine file: a line for each key, with a remark in the units of a shop.
use Rattle.std.specs.Prelude.{ℕ, ◌*◌, ◌/◌, ◌%◌, List, ◌++◌, codes, decimal}
use Rattle.std.specs.Fmt.{signed_decimal}
use Rattle.ngc_text.specs.Millimetres.{number_text, size_text, length_text}
use Rattle.ngc_machine_maker.specs.declared.line.Remark.{Remark}
use Rattle.ngc_machine_maker.specs.declared.line.Remark.TheVariants as remarks
use Rattle.ngc_machine_maker.specs.declared.line.Value.{Value}
use Rattle.ngc_machine_maker.specs.declared.line.Value.TheVariants as values

-- as [1, 2, 3]
abbrev pub three_text : List ℕ → List ℕ → List ℕ → List ℕ
three_text x y z = codes "[" ++ x ++ codes ", " ++ y ++ codes ", " ++ z ++ codes "]"

unfoldable pub value_text : Value → List ℕ
value_text (values.Number n) = decimal n
value_text (values.Rates r) = three_text (decimal r.x) (decimal r.y) (decimal r.z)
value_text (values.Place p) =
    three_text (signed_decimal p.x) (signed_decimal p.y) (signed_decimal p.z)

-- a number of thousandths, with the decimals that it needs
abbrev pub thousandths_text : ℕ → List ℕ
thousandths_text n = number_text (n / 1000) (1000 * (n % 1000))

abbrev pub axes_text : List ℕ → List ℕ → List ℕ → List ℕ
axes_text x y z = codes "X " ++ x ++ codes ", Y " ++ y ++ codes ", Z " ++ z

unfoldable pub remark_text : Remark → List ℕ
remark_text (remarks.Step n) = size_text n ++ codes " mm"
remark_text remarks.Ticks = codes "how often the controller may make steps"
remark_text (remarks.Speed n) = thousandths_text n ++ codes " mm/min"
remark_text (remarks.Speeds p) =
    axes_text (thousandths_text p.x) (thousandths_text p.y) (thousandths_text p.z)
    ++ codes " mm/min"
remark_text (remarks.Acceleration n) = thousandths_text n ++ codes " mm/s^2"
remark_text (remarks.Arcs n) = thousandths_text n ++ codes " mm/s^2 on arcs at most"
remark_text (remarks.ArcsByPlace n) =
    thousandths_text n ++ codes " mm/s^2 on arcs, up to twice that while slowing down"
remark_text remarks.Ring = codes "how many commands are loaded and not done at most"
remark_text remarks.ArcFeed = codes "arcs run at their feed and their turn at every place"
remark_text (remarks.Place p) =
    axes_text (length_text p.x) (length_text p.y) (length_text p.z) ++ codes " mm"

-- as: step = 1250 # 0.00125 mm
unfoldable pub line_text : List ℕ → Value → Remark → List ℕ
line_text key value remark =
    key ++ codes " = " ++ value_text value ++ codes " # " ++ remark_text remark ++ codes "\n"
