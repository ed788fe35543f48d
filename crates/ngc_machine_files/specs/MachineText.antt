-- The meaning of a machine file of version 1 or 2. Our own.
use Rattle.std.specs.Prelude.{ℕ, ◌==◌, ◌≤◌, nat_le, ℤ, pos, unsigned_abs, int_le, int_lt, int_rem}
use Rattle.std.specs.Prelude.{List, [], ◌∷◌, length, map, replicate, Option, Some, None, Result, Ok}
use Rattle.std.specs.Prelude.{Err, Bool, ◌&&◌, ◌||◌, codes, if◌then◌else◌, is_some, option_map, IfSome, true, false}
use Rattle.std.specs.List.{All, list_all}
use Rattle.std.specs.Ordering.{int_eq}
use Rattle.toml.specs.Data.{Data, array, Items, get}
use Rattle.ngc_fixed_length.specs.Signed.{is_within, is_zero}
use Rattle.ngc_fixed_length.specs.declared.points.Point3.{Point3}
use Rattle.ngc_motors.specs.Counts.{AreMotors, ends_at_steps, equal_steps, is_grid_step, is_motor}
use Rattle.ngc_motors.specs.declared.step.MotorStep.{MotorStep}
use Rattle.ngc_motors.specs.declared.step.MotorSteps.{MotorSteps}
use Rattle.ngc_machine_files.specs.declared.machine.ArcFeed.{ArcFeed}
use Rattle.ngc_machine_files.specs.declared.machine.ArcFeed.TheVariants.{Off, Feed, FeedAndTurn}
use Rattle.ngc_machine_files.specs.declared.machine.AxisLimits.{AxisLimits}
use Rattle.ngc_machine_files.specs.declared.machine.AxisRates.{AxisRates}
use Rattle.ngc_machine_files.specs.declared.machine.AxisTurns.{AxisTurns}
use Rattle.ngc_machine_files.specs.declared.machine.Margins.{Margins}
use Rattle.ngc_machine_files.specs.declared.machine.Fixture.{Fixture}
use Rattle.ngc_machine_files.specs.declared.machine_contents.Coordinates.{Coordinates}
use Rattle.ngc_machine_files.specs.declared.machine_contents.Corners.{Corners}
use Rattle.ngc_machine_files.specs.declared.machine_contents.LimitNumbers.{LimitNumbers}
use Rattle.ngc_machine_files.specs.declared.machine_contents.MachineNumbers.{MachineNumbers}
use Rattle.ngc_machine_files.specs.declared.machine_contents.OptionalNumbers.{OptionalNumbers}
use Rattle.ngc_machine_files.specs.declared.machine_contents.MachinePoints.{MachinePoints}
use Rattle.ngc_machine_files.specs.declared.machine_contents.MachineContents.{MachineContents}
use Rattle.ngc_machine_files.specs.declared.machine_contents.MachineOptions.{MachineOptions}
use Rattle.ngc_machine_files.specs.declared.machine_contents.StockNumbers.{StockNumbers}
use Rattle.ngc_machine_files.specs.declared.machine.StockBox.{StockBox}
use Rattle.ngc_machine_files.specs.declared.fault.FileFault.{FileFault}
use Rattle.ngc_machine_files.specs.declared.fault.FileFault.TheVariants.{Version, Step, TicksPerSecond}
use Rattle.ngc_machine_files.specs.declared.fault.FileFault.TheVariants.{Rates, Travel, Places, Fixtures}
use Rattle.ngc_machine_files.specs.declared.fault.FileFault.TheVariants.{Stock, Document}
use Rattle.ngc_machine_files.specs.Machine.{MachineFile}
use Rattle.ngc_machine_files.specs.Ranges.{PLACE_LIMIT, CORNER_LIMIT, BLOCK_LIMIT, place_limit, travel_limit, IsSized}
use Rattle.ngc_machine_files.specs.Ranges.{IsTravel, IsFixture, IsStock}
use Rattle.ngc_machine_files.specs.Ranges.{MARGIN_LIMIT, IsFrom}
use Rattle.ngc_fixed_length.specs.Length.{IsStep}
use Rattle.ngc_machine_files.specs.Names.{name_from}
use Rattle.ngc_machine_files.specs.Numbers.{from_to}
use Rattle.ngc_machine_files.specs.Refusals.{◌>>◌, refuse_unless}
use Rattle.ngc_machine_files.specs.Tree.{◌>>=◌, tree_of, known, has_only, whole_at, whole_or, coordinates, coordinates_at}
use Rattle.ngc_machine_files.specs.Tree.{each, list_at, or_missing, name_at, rapids_at, dialect_at}

-- ---- the values of the keys

pub record MachineValues : Type 0 where
  pub numbers : MachineNumbers
  pub options : MachineOptions
  pub motor_steps : MotorSteps
  pub axis_rates : Coordinates
  pub own : Option LimitNumbers
  pub points : MachinePoints
  pub origins : List Coordinates
  pub fixtures : List Corners

abbrev pub values_of : MachineContents → MachineValues
values_of c =
    record {
      numbers = c.numbers;
      options = c.options;
      motor_steps = c.motor_steps;
      axis_rates = c.axis_rates;
      own = c.own;
      points = c.points;
      origins = c.origins;
      fixtures = c.fixtures.items;
    }

-- the keys of version 1
abbrev pub common_keys : List (List ℕ)
common_keys =
    codes "version" ∷ codes "step" ∷ codes "ticks_per_second" ∷ codes "max_rate" ∷ codes "change"
    ∷ codes "corner" ∷
    codes "turn" ∷ codes "low" ∷ codes "high" ∷ codes "start" ∷ codes "home28" ∷ codes "home30"
    ∷ codes "origins" ∷
    codes "fixture" ∷ []

-- version 2 has rates of the axes, and may have a jump, a ring, the feed of arcs, a tool changer,
-- margins, the way of traverses, a language and a block of material; no other version has them
abbrev pub has_axis_rates : ℤ → Bool
has_axis_rates version = int_eq version (pos 2)

unfoldable pub machine_keys : ℤ → List (List ℕ)
machine_keys version =
    if has_axis_rates version
    then codes "axis_rate" ∷ codes "jump" ∷ codes "ring" ∷ codes "arc_feed"
    ∷ codes "changer" ∷ codes "margin" ∷ codes "travel_margin" ∷ codes "rapids"
    ∷ codes "dialect" ∷ codes "stock" ∷ common_keys
    else common_keys

-- three numbers; in a version without them, those that bound no rate
unfoldable pub machine_axis_rates : ℤ → Data → Option Coordinates
machine_axis_rates version tree =
    if has_axis_rates version
    then coordinates_at (codes "axis_rate") tree
    else Some (record { x = pos 1000000; y = pos 1000000; z = pos 1000000 })

-- in these versions each motor has the step of the grid, and no axis has limits of its own
abbrev pub grid_steps : ℤ → MotorSteps
grid_steps step = equal_steps (unsigned_abs step)

-- a missing ring is 16, and any other missing number is 0
abbrev pub optional_numbers : Data → Option OptionalNumbers
optional_numbers tree = do
  jump ← whole_or (pos 0) (codes "jump") tree
  ring ← whole_or (pos 16) (codes "ring") tree
  arc_feed ← whole_or (pos 0) (codes "arc_feed") tree
  changer ← whole_or (pos 0) (codes "changer") tree
  margin ← whole_or (pos 0) (codes "margin") tree
  travel_margin ← whole_or (pos 0) (codes "travel_margin") tree
  Some (record {
    jump = jump;
    ring = ring;
    arc_feed = arc_feed;
    changer = changer;
    margin = margin;
    travel_margin = travel_margin;
  })

abbrev pub machine_numbers : Data → Option MachineNumbers
machine_numbers tree = do
  version ← whole_at (codes "version") tree
  step ← whole_at (codes "step") tree
  ticks_per_second ← whole_at (codes "ticks_per_second") tree
  max_rate ← whole_at (codes "max_rate") tree
  change ← whole_at (codes "change") tree
  corner ← whole_at (codes "corner") tree
  turn ← whole_at (codes "turn") tree
  optional ← optional_numbers tree
  Some (record {
    version = version;
    step = step;
    ticks_per_second = ticks_per_second;
    max_rate = max_rate;
    change = change;
    corner = corner;
    turn = turn;
    optional = optional;
  })

abbrev pub stock_values : Data → Option StockNumbers
stock_values block = do
  system ← whole_or (pos 0) (codes "system") block
  low ← coordinates_at (codes "low") block
  high ← coordinates_at (codes "high") block
  Some (record { system = system; low = low; high = high })

-- two corners of a block, and the coordinate system that they are in, 0 if it is missing
abbrev pub stock_numbers : Data → Option StockNumbers
stock_numbers block =
    if has_only (codes "system" ∷ codes "low" ∷ codes "high" ∷ []) block then stock_values block else None

abbrev pub some_stock : Data → Option (Option StockNumbers)
some_stock block = stock_numbers block >>= λ s. Some (Some s)

-- the block of the key `stock`, if there is one
abbrev pub stock_at : Data → Option (Option StockNumbers)
stock_at tree = or_missing None some_stock (get (codes "stock") tree)

abbrev pub machine_options : Data → Option MachineOptions
machine_options tree = do
  rapids ← rapids_at tree
  dialect ← dialect_at tree
  stock ← stock_at tree
  Some (record { rapids = rapids; dialect = dialect; stock = stock })

-- places of versions 1 and 2 are near zero
abbrev pub machine_points : Data → Option MachinePoints
machine_points tree = do
  low ← coordinates_at (codes "low") tree
  high ← coordinates_at (codes "high") tree
  start ← coordinates_at (codes "start") tree
  home28 ← coordinates_at (codes "home28") tree
  home30 ← coordinates_at (codes "home30") tree
  Some (record { low = low; high = high; start = start; home28 = home28; home30 = home30; far = false })

abbrev pub nine : List Coordinates → Option (List Coordinates)
nine points = if length points == 9 then Some points else None

abbrev pub nine_coordinates : Items → Option (List Coordinates)
nine_coordinates items = each coordinates items >>= nine

abbrev pub origins_of : Data → Option (List Coordinates)
origins_of (array items) = nine_coordinates items
origins_of _ = None

-- nine points, all zero if they are missing
abbrev pub machine_origins : Data → Option (List Coordinates)
machine_origins tree =
    or_missing (replicate 9 (record { x = pos 0; y = pos 0; z = pos 0 })) origins_of
    (get (codes "origins") tree)

-- in version 2 a fixture may have a name
abbrev pub has_fixture_keys : ℤ → Data → Bool
has_fixture_keys version value =
    if has_axis_rates version
    then has_only (codes "low" ∷ codes "high" ∷ codes "name" ∷ []) value
    else has_only (codes "low" ∷ codes "high" ∷ []) value

-- in these versions corners are in machine coordinates
abbrev pub named_corners : Data → Option Corners
named_corners value = do
  low ← coordinates_at (codes "low") value
  high ← coordinates_at (codes "high") value
  name ← name_at value
  Some (record { low = low; high = high; name = name; system = 0 })

abbrev pub corners : ℤ → Data → Option Corners
corners version value = if has_fixture_keys version value then named_corners value else None

-- tables of two corners each; no fixtures if the key is missing
abbrev pub machine_fixtures : ℤ → Data → Option (List Corners)
machine_fixtures version tree = list_at (corners version) (codes "fixture") tree

abbrev pub machine_values : Data → Option MachineValues
machine_values root = do
  numbers ← machine_numbers root
  tree ← known (machine_keys numbers.version) root
  options ← machine_options tree
  axis_rates ← machine_axis_rates numbers.version tree
  points ← machine_points tree
  origins ← machine_origins tree
  fixtures ← machine_fixtures numbers.version tree
  Some (record {
    numbers = numbers;
    options = options;
    motor_steps = grid_steps numbers.step;
    axis_rates = axis_rates;
    own = None;
    points = points;
    origins = origins;
    fixtures = fixtures;
  })

-- ---- ranges

abbrev pub is_sized : ℕ → Coordinates → Bool
is_sized n p = is_within n p.x && is_within n p.y && is_within n p.z

abbrev pub is_at_most : Coordinates → Coordinates → Bool
is_at_most p q = int_le p.x q.x && int_le p.y q.y && int_le p.z q.z

abbrev pub is_below : Coordinates → Coordinates → Bool
is_below p q = int_lt p.x q.x && int_lt p.y q.y && int_lt p.z q.z

abbrev pub is_multiple : ℤ → ℤ → Bool
is_multiple step c = is_zero (int_rem c step)

abbrev pub is_on_grid : ℤ → Coordinates → Bool
is_on_grid step p = is_multiple step p.x && is_multiple step p.y && is_multiple step p.z

unfoldable pub good_version : ℤ → Bool
good_version version = int_eq version (pos 1) || has_axis_rates version

unfoldable pub is_rate : ℤ → Bool
is_rate z = from_to (pos 1) (pos 1000000) z

unfoldable pub good_motors : ℤ → MotorSteps → Bool
good_motors step motors = is_motor step motors.x && is_motor step motors.y && is_motor step motors.z

abbrev pub good_jump : ℤ → Bool
good_jump z = from_to (pos 0) (pos 1000000) z

abbrev pub good_ring : ℤ → Bool
good_ring z = from_to (pos 16) (pos 1024) z

abbrev pub good_arc_feed : ℤ → Bool
good_arc_feed z = from_to (pos 0) (pos 2) z

abbrev pub good_changer : ℤ → Bool
good_changer z = from_to (pos 0) (pos 1) z

abbrev pub good_axis_rates : Coordinates → Bool
good_axis_rates rates = is_rate rates.x && is_rate rates.y && is_rate rates.z

abbrev pub good_turn : ℤ → Bool
good_turn z = from_to (pos 1) (pos 1000000000000) z

abbrev pub good_axis_turns : Coordinates → Bool
good_axis_turns turns = good_turn turns.x && good_turn turns.y && good_turn turns.z

abbrev pub good_own : Option LimitNumbers → Bool
good_own None = true
good_own (Some limits) = good_axis_rates limits.changes && good_axis_turns limits.turns

abbrev pub good_bounds : MachineValues → Bool
good_bounds m =
    is_rate m.numbers.max_rate && is_rate m.numbers.change && is_rate m.numbers.corner &&
    good_turn m.numbers.turn && good_axis_rates m.axis_rates

unfoldable pub good_numbers : MachineValues → Bool
good_numbers m =
    good_bounds m && good_jump m.numbers.optional.jump && good_ring m.numbers.optional.ring
    && good_arc_feed m.numbers.optional.arc_feed && good_changer m.numbers.optional.changer

abbrev pub good_rates : MachineValues → Bool
good_rates m = good_numbers m && good_own m.own

abbrev pub good_margin : ℤ → Bool
good_margin z = from_to (pos 0) MARGIN_LIMIT z

abbrev pub good_limits : ℤ → MachinePoints → Bool
good_limits step p =
    is_sized (travel_limit p.far) p.low && is_sized (travel_limit p.far) p.high && is_at_most p.low p.high &&
    is_at_most p.low p.start && is_at_most p.start p.high && is_on_grid step p.start

-- Where a motor's step isn't the grid's, the travel of its axis ends at whole steps of the motor. So
-- the motor can stand at each end, and is never sent past it.
unfoldable pub good_ends : ℤ → MotorStep → ℤ → ℤ → Bool
good_ends step motor low high = is_grid_step step motor || ends_at_steps motor low high

unfoldable pub good_axis_ends : ℤ → MotorSteps → MachinePoints → Bool
good_axis_ends step motors p =
    good_ends step motors.x p.low.x p.high.x && good_ends step motors.y p.low.y p.high.y
    && good_ends step motors.z p.low.z p.high.z

unfoldable pub good_travel : MachineValues → Bool
good_travel m =
    good_limits m.numbers.step m.points && good_margin m.numbers.optional.travel_margin
    && good_axis_ends m.numbers.step m.motor_steps m.points

abbrev pub good_places : MachineValues → Bool
good_places m =
    is_sized (place_limit m.points.far) m.points.home28
    && is_sized (place_limit m.points.far) m.points.home30
    && list_all (is_sized (place_limit m.points.far)) m.origins

abbrev pub good_fixture : Corners → Bool
good_fixture f =
    is_sized CORNER_LIMIT f.low && is_sized CORNER_LIMIT f.high && is_below f.low f.high &&
    is_some f.name

abbrev pub good_fixtures : MachineValues → Bool
good_fixtures m =
    nat_le (length m.fixtures) 256 && list_all good_fixture m.fixtures
    && good_margin m.numbers.optional.margin

abbrev pub good_block : StockNumbers → Bool
good_block s =
    from_to (pos 0) (pos 9) s.system && is_sized BLOCK_LIMIT s.low && is_sized BLOCK_LIMIT s.high
    && is_below s.low s.high

abbrev pub good_stock : Option StockNumbers → Bool
good_stock None = true
good_stock (Some s) = good_block s

-- the first refusal
abbrev pub machine_ranges : MachineValues → Result (Unit {0}) FileFault
machine_ranges m =
    refuse_unless (good_version m.numbers.version) Version >>
    (refuse_unless (from_to (pos 500) (pos 50000) m.numbers.step) Step >>
    (refuse_unless (good_motors m.numbers.step m.motor_steps) Step >>
    (refuse_unless (is_rate m.numbers.ticks_per_second) TicksPerSecond >>
    (refuse_unless (good_rates m) Rates >>
    (refuse_unless (good_travel m) Travel >>
    (refuse_unless (good_places m) Places >>
    (refuse_unless (good_fixtures m) Fixtures >>
    refuse_unless (good_stock m.options.stock) Stock)))))))

-- ---- the machine of a file

abbrev pub place_of : Coordinates → Point3
place_of p = record { x = p.x; y = p.y; z = p.z }

abbrev pub axis_rates_of : Coordinates → AxisRates
axis_rates_of p = record { x = unsigned_abs p.x; y = unsigned_abs p.y; z = unsigned_abs p.z }

abbrev pub axis_turns_of : Coordinates → AxisTurns
axis_turns_of p = record { x = unsigned_abs p.x; y = unsigned_abs p.y; z = unsigned_abs p.z }

abbrev pub limits_of : LimitNumbers → AxisLimits
limits_of n = record { changes = axis_rates_of n.changes; turns = axis_turns_of n.turns }

abbrev pub fixture_of : Corners → Fixture
fixture_of f =
    record {
      low = place_of f.low;
      high = place_of f.high;
      name = name_from f.name;
      system = f.system;
    }

abbrev pub arc_feed_of : ℤ → ArcFeed
arc_feed_of z = if int_eq z (pos 1) then Feed else (if int_eq z (pos 2) then FeedAndTurn else Off)

abbrev pub stock_of : StockNumbers → StockBox
stock_of s =
    record { system = unsigned_abs s.system; low = place_of s.low; high = place_of s.high }

abbrev pub margins_of : OptionalNumbers → Margins
margins_of n = record { fixtures = n.margin; travel = n.travel_margin }

-- true if the machine changes tools by itself, without a person
abbrev pub has_changer : ℤ → Bool
has_changer z = int_eq z (pos 1)

abbrev pub machine_from : MachineValues → MachineFile
machine_from m = record {
  step = m.numbers.step;
  motor_steps = m.motor_steps;
  ticks_per_second = unsigned_abs m.numbers.ticks_per_second;
  max_rate = unsigned_abs m.numbers.max_rate;
  axis_rates = axis_rates_of m.axis_rates;
  change = unsigned_abs m.numbers.change;
  corner = unsigned_abs m.numbers.corner;
  jump = unsigned_abs m.numbers.optional.jump;
  turn = unsigned_abs m.numbers.turn;
  own = option_map limits_of m.own;
  ring = unsigned_abs m.numbers.optional.ring;
  arc_feed = arc_feed_of m.numbers.optional.arc_feed;
  changer = has_changer m.numbers.optional.changer;
  low = place_of m.points.low;
  high = place_of m.points.high;
  start = place_of m.points.start;
  home28 = place_of m.points.home28;
  home30 = place_of m.points.home30;
  origins = map place_of m.origins;
  fixtures = map fixture_of m.fixtures;
  margins = margins_of m.numbers.optional;
  rapids = m.options.rapids;
  dialect = m.options.dialect;
  stock = option_map stock_of m.options.stock;
}

-- each of three numbers lies between two bounds, both included
pub record AreFrom (low high : ℤ) (p : Coordinates) : Type 0 where
  pub x : IsFrom low high p.x
  pub y : IsFrom low high p.y
  pub z : IsFrom low high p.z

pub record AreOwn (limits : LimitNumbers) : Type 0 where
  pub changes : AreFrom (pos 1) (pos 1000000) limits.changes
  pub turns : AreFrom (pos 1) (pos 1000000000000) limits.turns

pub record IsBlock (s : StockNumbers) : Type 0 where
  pub system : IsFrom (pos 0) (pos 9) s.system
  pub stock : IsStock (stock_of s)

-- the same checks, as facts
pub record IsGood (m : MachineValues) : Type 0 where
  pub step : IsStep m.numbers.step
  pub motors : AreMotors (record { grid = m.numbers.step; steps = m.motor_steps })
  pub ticks_per_second : IsFrom (pos 1) (pos 1000000) m.numbers.ticks_per_second
  pub max_rate : IsFrom (pos 1) (pos 1000000) m.numbers.max_rate
  pub axis_rates : AreFrom (pos 1) (pos 1000000) m.axis_rates
  pub jump : IsFrom (pos 0) (pos 1000000) m.numbers.optional.jump
  pub change : IsFrom (pos 1) (pos 1000000) m.numbers.change
  pub corner : IsFrom (pos 1) (pos 1000000) m.numbers.corner
  pub turn : IsFrom (pos 1) (pos 1000000000000) m.numbers.turn
  pub own : IfSome m.own AreOwn
  pub ring : IsFrom (pos 16) (pos 1024) m.numbers.optional.ring
  pub travel : IsTravel m.numbers.step (place_of m.points.low) (place_of m.points.high)
      (place_of m.points.start)
  pub home28 : IsSized PLACE_LIMIT (place_of m.points.home28)
  pub home30 : IsSized PLACE_LIMIT (place_of m.points.home30)
  pub origins : All (λ p. IsSized PLACE_LIMIT (place_of p)) m.origins
  pub fixture_count : length m.fixtures ≤ 256
  pub fixtures : All (λ f. IsFixture (fixture_of f)) m.fixtures
  pub margin : IsFrom (pos 0) MARGIN_LIMIT m.numbers.optional.margin
  pub travel_margin : IsFrom (pos 0) MARGIN_LIMIT m.numbers.optional.travel_margin
  pub stock : IfSome m.options.stock IsBlock

abbrev pub checked_machine : Option MachineValues → Result MachineFile FileFault
checked_machine None = Err Document
checked_machine (Some m) = machine_ranges m >> Ok (machine_from m)

abbrev pub values_in : List ℕ → Option MachineValues
values_in bytes = tree_of bytes >>= machine_values

-- the machine that the bytes describe, or why they are refused
abbrev pub machine_file : List ℕ → Result MachineFile FileFault
machine_file bytes = checked_machine (values_in bytes)
