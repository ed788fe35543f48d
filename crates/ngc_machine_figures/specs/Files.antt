-- A machine file of version 3. Our own.
use Rattle.std.specs.Prelude.{◌≡◌, List, Option, Result, Ok, Err}
use Rattle.toml.specs.Data.{Data}
use Rattle.ngc_machine_figures.specs.declared.refusal.FileRefusal.{FileRefusal}
use Rattle.ngc_machine_figures.specs.declared.refusal.SheetFault.{SheetFault}
use Rattle.ngc_machine_figures.specs.declared.refusal.SheetFault.TheVariants.{Memory, Refused}
use Rattle.ngc_machine_figures.specs.declared.sheet.FixtureSheet.{FixtureSheet}
use Rattle.ngc_machine_figures.specs.declared.sheet.HeadSheet.{HeadSheet}
use Rattle.ngc_machine_figures.specs.declared.sheet.Sheet.{Sheet}
use Rattle.ngc_machine_figures.specs.declared.sheet.StockSheet.{StockSheet}
use Rattle.ngc_machine_figures.specs.Boxes.{stock_at}
use Rattle.ngc_machine_figures.specs.Fixtures.{fixtures_at}
use Rattle.ngc_machine_figures.specs.Reading.{◌>>=◌}
use Rattle.ngc_machine_figures.specs.Sheets.{head_of}

pub record SheetValues : Type 0 where
  pub head : HeadSheet
  pub fixtures : List FixtureSheet
  pub stock : Option StockSheet

abbrev pub values_of : Sheet → SheetValues
values_of s = record { head = s.head; fixtures = s.fixtures.items; stock = s.stock }

-- what is written in the file, or the first refusal
unfoldable pub sheet_of : Data → Result SheetValues FileRefusal
sheet_of tree = do
  head ← head_of tree
  fixtures ← fixtures_at head.origins tree
  stock ← stock_at tree
  Ok (record { head = head; fixtures = fixtures; stock = stock })

-- a reader's result is what the file says, unless memory was refused
abbrev pub SaysSheet : Result Sheet SheetFault → Result SheetValues FileRefusal → Type 0
SaysSheet (Ok sheet) says = says ≡ Ok (values_of sheet)
SaysSheet (Err (Refused refusal)) says = says ≡ Err refusal
SaysSheet (Err Memory) says = Unit {0}
