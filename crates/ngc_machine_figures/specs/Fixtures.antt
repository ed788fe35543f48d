-- The fixtures: boxes in the machine. Our own.
use Rattle.std.specs.Prelude.{ℕ, ◌+◌, ◌-◌, nat_le, pos, List, [], ◌∷◌, codes, slice_get, Option, Some, None, Result, Ok}
use Rattle.std.specs.Prelude.{Bool, if◌then◌else◌}
use Rattle.toml.specs.Data.{Data, array, Items, no_items, item, get}
use Rattle.ngc_quantities.specs.declared.range.Place.{Place}
use Rattle.ngc_machine_figures.specs.declared.boxes.BoxKeys.{BoxKeys}
use Rattle.ngc_machine_figures.specs.declared.key.Key.TheVariants as keys
use Rattle.ngc_machine_figures.specs.declared.refusal.FileRefusal.{FileRefusal}
use Rattle.ngc_machine_figures.specs.declared.refusal.Wrong.TheVariants as wrongs
use Rattle.ngc_machine_figures.specs.declared.sheet.BoxSheet.{BoxSheet}
use Rattle.ngc_machine_figures.specs.declared.sheet.FixtureSheet.{FixtureSheet}
use Rattle.ngc_machine_figures.specs.declared.sheet.System.{System}
use Rattle.ngc_machine_figures.specs.Boxes.{near, near_sum, corners_of}
use Rattle.ngc_machine_figures.specs.Found.{only_known}
use Rattle.ngc_machine_figures.specs.Keys.{fixture_keys}
use Rattle.ngc_machine_figures.specs.Kinds.{name_value, system_value}
use Rattle.ngc_machine_figures.specs.Reading.{◌>>=◌, refused, optional}

abbrev pub fixture_box : ℕ → BoxKeys
fixture_box n =
    record {
      table = keys.Fixture n;
      from = keys.FixtureFrom n;
      to = keys.FixtureTo n;
      size = keys.FixtureSize n;
    }

abbrev pub or_zero : Option (Option Place) → Place
or_zero (Some (Some p)) = p
or_zero _ = record { x = pos 0; y = pos 0; z = pos 0 }

-- the origin of a system, zero if the file doesn't have it
unfoldable pub origin_of : List (Option Place) → System → Place
origin_of origins system = or_zero (slice_get origins (system.number - 1))

unfoldable pub moved : ℕ → Place → BoxSheet → Result BoxSheet FileRefusal
moved n origin corners = do
  from ← near_sum (keys.FixtureFrom n) corners.from origin
  to ← near_sum (keys.Fixture n) corners.to origin
  Ok (record { from = from; to = to })

-- the corners in the machine's coordinates: the origin of the fixture's system is added
abbrev pub in_machine : ℕ → List (Option Place) → Option System → BoxSheet → Result BoxSheet FileRefusal
in_machine n origins None corners = Ok corners
in_machine n origins (Some system) corners =
    near (keys.Origin system.number) (origin_of origins system) >>= λ origin. moved n origin corners

unfoldable pub fixture_of : List (Option Place) → ℕ → Data → Result FixtureSheet FileRefusal
fixture_of origins n section = do
  known ← only_known (keys.Fixture n) (fixture_keys n) section
  name ← optional name_value (keys.FixtureName n) section
  system ← optional system_value (keys.FixtureIn n) section
  corners ← corners_of (fixture_box n) section
  moved ← in_machine n origins system corners
  Ok (record { name = name; system = system; corners = moved })

-- the items of an array from number n on, up to the first refusal
abbrev pub each : {A : Type 0} → (ℕ → Data → Result A FileRefusal) → ℕ → Items → Result (List A) FileRefusal
each read n no_items = Ok []
each read n (item value items) = do
  x ← read n value
  xs ← each read (n + 1) items
  Ok (x ∷ xs)

abbrev pub item_count : Items → ℕ
item_count no_items = 0
item_count (item value items) = item_count items + 1

unfoldable pub is_few : Items → Bool
is_few items = nat_le (item_count items) 256

unfoldable pub few_fixtures : List (Option Place) → Items → Result (List FixtureSheet) FileRefusal
few_fixtures origins items =
    if is_few items then each (fixture_of origins) 0 items else refused keys.Fixtures wrongs.ManyFixtures

abbrev pub fixtures_of : List (Option Place) → Data → Result (List FixtureSheet) FileRefusal
fixtures_of origins (array items) = few_fixtures origins items
fixtures_of origins _ = refused keys.Fixtures wrongs.NoArray

abbrev pub fixtures_found : List (Option Place) → Option Data → Result (List FixtureSheet) FileRefusal
fixtures_found origins None = Ok []
fixtures_found origins (Some value) = fixtures_of origins value

unfoldable pub fixtures_at : List (Option Place) → Data → Result (List FixtureSheet) FileRefusal
fixtures_at origins tree = fixtures_found origins (get (codes "fixture") tree)
