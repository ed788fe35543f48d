-- The parts of a holder, from the tool up. Our own.
use Rattle.std.specs.Prelude.{ℕ, List, [], ◌∷◌, codes, Option, Some, None, Result, Ok}
use Rattle.toml.specs.Data.{Data, array, table, Items, no_items, item, get}
use Rattle.ngc_machine_figures.specs.declared.key.Key.{Key}
use Rattle.ngc_machine_figures.specs.declared.key.Key.TheVariants.{Tool}
use Rattle.ngc_machine_figures.specs.declared.refusal.FileRefusal.{FileRefusal}
use Rattle.ngc_machine_figures.specs.declared.refusal.Wrong.TheVariants as wrongs
use Rattle.ngc_machine_figures.specs.declared.tool_key.ToolKey.TheVariants as keys
use Rattle.ngc_machine_figures.specs.declared.tool_key.ToolWrong.TheVariants as tools
use Rattle.ngc_machine_figures.specs.Found.{only_known}
use Rattle.ngc_machine_figures.specs.Reading.{◌>>=◌, refused, required}
use Rattle.ngc_written_tools.specs.Kinds.{size_value}
use Rattle.ngc_written_tools.specs.declared.sheet.HolderSheet.{HolderSheet}
use Rattle.ngc_written_tools.specs.declared.sheet.PartSheet.{PartSheet}

abbrev pub part_keys : ℕ → ℕ → List Key
part_keys n part = Tool (keys.PartDiameter n part) ∷ Tool (keys.PartLength n part) ∷ []

unfoldable pub measures_of : ℕ → ℕ → Data → Result PartSheet FileRefusal
measures_of n part section = do
  known ← only_known (Tool (keys.Part n part)) (part_keys n part) section
  diameter ← required size_value (Tool (keys.PartDiameter n part)) section
  length ← required size_value (Tool (keys.PartLength n part)) section
  Ok (record { diameter = diameter; length = length })

abbrev pub part_of : ℕ → ℕ → Data → Result PartSheet FileRefusal
part_of n part (table members) = measures_of n part (table members)
part_of n part _ = refused (Tool (keys.Part n part)) (wrongs.Tool tools.NoPart)

abbrev pub no_holder : HolderSheet
no_holder = record { first = None; second = None; third = None }

-- at most three parts
abbrev pub holder_in : ℕ → Items → Result HolderSheet FileRefusal
holder_in n no_items = Ok no_holder
holder_in n (item a no_items) = do
  first ← part_of n 0 a
  Ok (record { first = Some first; second = None; third = None })
holder_in n (item a (item b no_items)) = do
  first ← part_of n 0 a
  second ← part_of n 1 b
  Ok (record { first = Some first; second = Some second; third = None })
holder_in n (item a (item b (item c no_items))) = do
  first ← part_of n 0 a
  second ← part_of n 1 b
  third ← part_of n 2 c
  Ok (record { first = Some first; second = Some second; third = Some third })
holder_in n (item a (item b (item c (item d items)))) =
    refused (Tool (keys.Holder n)) (wrongs.Tool tools.ManyParts)

abbrev pub holder_of : ℕ → Data → Result HolderSheet FileRefusal
holder_of n (array items) = holder_in n items
holder_of n _ = refused (Tool (keys.Holder n)) (wrongs.Tool tools.NoHolder)

abbrev pub holder_found : ℕ → Option Data → Result HolderSheet FileRefusal
holder_found n None = Ok no_holder
holder_found n (Some value) = holder_of n value

-- no holder without the key
unfoldable pub holder_at : ℕ → Data → Result HolderSheet FileRefusal
holder_at n section = holder_found n (get (codes "holder") section)
