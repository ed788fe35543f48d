-- The values of options, as texts. Lengths are in millimetres, exactly. Our own.
use Rattle.std.specs.Prelude.{ℕ, ℤ, ◌<◌, ◌==◌, List, [], ◌++◌, codes, Option, Some, None, if◌then◌else◌}
use Rattle.ngc_text.specs.Millimetres.{length_text}
use Rattle.ngc_quantities.specs.declared.range.Place.{Place}
use Rattle.ngc_machine_figures.specs.declared.sheet.BoxSheet.{BoxSheet}
use Rattle.ngc_machine_figures.specs.declared.sheet.StockSheet.{StockSheet}
use Rattle.ngc_machine_figures.specs.declared.sheet.System.{System}
use Rattle.ngc_job_files.specs.declared.job.JobFixture.{JobFixture}
use Rattle.ngc_job_words.specs.Commands.{Text}

abbrev pub IsAscii : ℕ → Type 0
IsAscii b = b < 128

unfoldable pub coordinate_text : ℤ → Text
coordinate_text n = length_text n ++ codes ","

-- as 60,40,-140
unfoldable pub place_text : Place → Text
place_text p = coordinate_text p.x ++ coordinate_text p.y ++ length_text p.z

-- 1 is 54, 9 is 59.3
abbrev pub system_code : ℕ → Text
system_code n =
    if n == 1 then codes "54" else (
    if n == 2 then codes "55" else (
    if n == 3 then codes "56" else (
    if n == 4 then codes "57" else (
    if n == 5 then codes "58" else (
    if n == 6 then codes "59" else (
    if n == 7 then codes "59.1" else (
    if n == 8 then codes "59.2" else (
    if n == 9 then codes "59.3" else codes ""))))))))

-- as 54=60,40,-140
unfoldable pub origin_text : ℕ → Place → Text
origin_text system place = system_code system ++ codes "=" ++ place_text place

unfoldable pub corners_text : BoxSheet → Text
corners_text b = place_text b.from ++ codes "," ++ place_text b.to

abbrev pub system_text : Option System → Text
system_text None = []
system_text (Some system) = system_code system.number ++ codes ":"

-- as 54:0,0,-20,100,60,0
unfoldable pub box_text : Option System → BoxSheet → Text
box_text system corners = system_text system ++ corners_text corners

abbrev pub stock_text : StockSheet → Text
stock_text s = box_text s.system s.corners

abbrev pub name_text : Option (List ℕ) → Text
name_text None = []
name_text (Some name) = name ++ codes "="

-- as left clamp=54:-30,20,-10,-5,40,15
unfoldable pub fixture_text : JobFixture → Text
fixture_text f = name_text f.name ++ box_text f.system f.corners
