-- The fixtures of a job: boxes that are in the way for its programs, such as clamps. Our own.
use Rattle.std.specs.Prelude.{ℕ, nat_le, List, [], codes, Option, Some, None, Result, Ok, Bool, if◌then◌else◌}
use Rattle.toml.specs.Data.{Data, array, Items, get}
use Rattle.ngc_machine_figures.specs.declared.key.Key.TheVariants as keys
use Rattle.ngc_machine_figures.specs.declared.refusal.FileRefusal.{FileRefusal}
use Rattle.ngc_machine_figures.specs.declared.refusal.Wrong.TheVariants as wrongs
use Rattle.ngc_machine_figures.specs.Boxes.{corners_of}
use Rattle.ngc_machine_figures.specs.Fixtures.{fixture_box, each, item_count}
use Rattle.ngc_machine_figures.specs.Found.{only_known}
use Rattle.ngc_machine_figures.specs.Keys.{fixture_keys}
use Rattle.ngc_machine_figures.specs.Kinds.{name_value, system_value}
use Rattle.ngc_machine_figures.specs.Reading.{◌>>=◌, refused, optional}
use Rattle.ngc_job_files.specs.declared.job.JobFixture.{JobFixture}

-- a fixture, whose corners stay in its system
unfoldable pub clamp_of : ℕ → Data → Result JobFixture FileRefusal
clamp_of n section = do
  known ← only_known (keys.Fixture n) (fixture_keys n) section
  name ← optional name_value (keys.FixtureName n) section
  system ← optional system_value (keys.FixtureIn n) section
  corners ← corners_of (fixture_box n) section
  Ok (record { name = name; system = system; corners = corners })

unfoldable pub is_few : Items → Bool
is_few items = nat_le (item_count items) 16

unfoldable pub few_clamps : Items → Result (List JobFixture) FileRefusal
few_clamps items =
    if is_few items then each clamp_of 0 items else refused keys.Fixtures wrongs.ManyClamps

abbrev pub clamps_of : Data → Result (List JobFixture) FileRefusal
clamps_of (array items) = few_clamps items
clamps_of _ = refused keys.Fixtures wrongs.NoArray

abbrev pub clamps_found : Option Data → Result (List JobFixture) FileRefusal
clamps_found None = Ok []
clamps_found (Some value) = clamps_of value

unfoldable pub clamps_at : Data → Result (List JobFixture) FileRefusal
clamps_at tree = clamps_found (get (codes "fixture") tree)
