-- The names of the keys. Our own.
use Rattle.std.specs.Prelude.{ℕ, List, [], ◌∷◌, codes, ◌==◌, if◌then◌else◌}
use Rattle.ngc_machine_figures.specs.declared.key.AxisName.{AxisName}
use Rattle.ngc_machine_figures.specs.declared.key.AxisName.TheVariants.{X, Y, Z}
use Rattle.ngc_machine_figures.specs.declared.key.Key.{Key}
use Rattle.ngc_machine_figures.specs.declared.key.Key.TheVariants as keys
use Rattle.ngc_machine_figures.specs.ToolKeys as tools

abbrev pub axis_name : AxisName → List ℕ
axis_name X = codes "x"
axis_name Y = codes "y"
axis_name Z = codes "z"

-- 1 is G54, 9 is G59.3
abbrev pub system_name : ℕ → List ℕ
system_name n =
    if n == 1 then codes "G54" else (
    if n == 2 then codes "G55" else (
    if n == 3 then codes "G56" else (
    if n == 4 then codes "G57" else (
    if n == 5 then codes "G58" else (
    if n == 6 then codes "G59" else (
    if n == 7 then codes "G59.1" else (
    if n == 8 then codes "G59.2" else (
    if n == 9 then codes "G59.3" else codes ""))))))))

-- the name of a key in its table; the file itself has none
abbrev pub name_of : Key → List ℕ
name_of keys.File = codes ""
name_of keys.Version = codes "version"
name_of keys.Machine = codes "machine"
name_of keys.Tools = codes "tools"
name_of keys.Dialect = codes "dialect"
name_of keys.Changer = codes "changer"
name_of keys.Ticks = codes "ticks"
name_of keys.Ring = codes "ring"
name_of keys.Corner = codes "corner"
name_of keys.Jump = codes "jump"
name_of keys.ArcFeed = codes "arc_feed"
name_of keys.Turn = codes "turn"
name_of keys.Margin = codes "margin"
name_of keys.TravelMargin = codes "travel_margin"
name_of keys.Rapids = codes "rapids"
name_of keys.Start = codes "start"
name_of keys.Home28 = codes "home28"
name_of keys.Home30 = codes "home30"
name_of keys.Axes = codes "axis"
name_of (keys.Axis axis) = axis_name axis
name_of (keys.Motor _) = codes "motor"
name_of (keys.Travel _) = codes "travel"
name_of (keys.Speed _) = codes "speed"
name_of (keys.Acceleration _) = codes "acceleration"
name_of keys.Origins = codes "origin"
name_of (keys.Origin system) = system_name system
name_of keys.Fixtures = codes "fixture"
name_of (keys.Fixture _) = codes "fixture"
name_of (keys.FixtureName _) = codes "name"
name_of (keys.FixtureIn _) = codes "in"
name_of (keys.FixtureFrom _) = codes "from"
name_of (keys.FixtureTo _) = codes "to"
name_of (keys.FixtureSize _) = codes "size"
name_of keys.Stock = codes "stock"
name_of keys.StockIn = codes "in"
name_of keys.StockFrom = codes "from"
name_of keys.StockTo = codes "to"
name_of keys.StockSize = codes "size"
name_of (keys.Tool key) = tools.name_of key

-- another name under which people know a key; that of a key without one is its own
abbrev pub other_name_of : Key → List ℕ
other_name_of keys.Changer = codes "tool_changer"
other_name_of (keys.Motor _) = codes "steps"
other_name_of (keys.Acceleration _) = codes "accel"
other_name_of keys.Fixtures = codes "clamp"
other_name_of (keys.Fixture _) = codes "clamp"
other_name_of (keys.FixtureSize _) = codes "width"
other_name_of keys.Stock = codes "material"
other_name_of keys.StockSize = codes "width"
other_name_of (keys.Tool key) = tools.other_name_of key
other_name_of key = name_of key

-- ---- the keys of tables whose place in the file counts

abbrev pub axis_keys : AxisName → List Key
axis_keys axis = keys.Motor axis ∷ keys.Travel axis ∷ keys.Speed axis ∷ keys.Acceleration axis ∷ []

abbrev pub fixture_keys : ℕ → List Key
fixture_keys n =
    keys.FixtureName n ∷ keys.FixtureIn n ∷ keys.FixtureFrom n ∷ keys.FixtureTo n ∷ keys.FixtureSize n ∷ []
