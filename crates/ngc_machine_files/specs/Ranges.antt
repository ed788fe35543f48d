-- The ranges of the numbers of a machine and of its tools. Our own.
use Rattle.std.specs.Prelude.{ℕ, ◌≤◌, ℤ, pos, negsuc, ◌≤ℤ◌, ◌<ℤ◌, unsigned_abs, int_rem, ◌≡◌, List}
use Rattle.std.specs.Prelude.{length, map, Bool, ◌&&◌, if◌then◌else◌}
use Rattle.std.specs.List.{All}
use Rattle.ngc_fixed_length.specs.Signed.{is_within}
use Rattle.ngc_fixed_length.specs.declared.points.Point3.{Point3}
use Rattle.ngc_machine_files.specs.declared.machine.AxisLimits.{AxisLimits}
use Rattle.ngc_machine_files.specs.declared.machine.AxisRates.{AxisRates}
use Rattle.ngc_machine_files.specs.declared.machine.AxisTurns.{AxisTurns}
use Rattle.ngc_machine_files.specs.declared.machine.Fixture.{Fixture}
use Rattle.ngc_machine_files.specs.declared.machine.Margins.{Margins}
use Rattle.ngc_machine_files.specs.declared.machine.StockBox.{StockBox}
use Rattle.ngc_machine_files.specs.declared.parts.Part.{Part}
use Rattle.ngc_machine_files.specs.declared.tools.Tool.{Tool}
use Rattle.ngc_machine_files.specs.Numbers.{AreDifferent}

-- the greatest size of a coordinate of home positions and origins, in nanometres
abbrev pub PLACE_LIMIT : ℕ
PLACE_LIMIT = 4000000000

-- The same for travel limits. A position whose grid point is inside the travel may be half a step
-- outside, and a certificate has numbers of up to four metres.
abbrev pub TRAVEL_LIMIT : ℕ
TRAVEL_LIMIT = 3999000000

-- the same for all of them in a file of version 1 or 2
abbrev pub NEAR_LIMIT : ℕ
NEAR_LIMIT = 1000000000

-- a place at most a metre from zero along each axis
abbrev pub is_near : Point3 → Bool
is_near p = is_within NEAR_LIMIT p.x && is_within NEAR_LIMIT p.y && is_within NEAR_LIMIT p.z

abbrev pub place_limit : Bool → ℕ
place_limit far = if far then PLACE_LIMIT else NEAR_LIMIT

abbrev pub travel_limit : Bool → ℕ
travel_limit far = if far then TRAVEL_LIMIT else NEAR_LIMIT

-- the greatest size of a coordinate of the corners of a block of material, in nanometres
abbrev pub BLOCK_LIMIT : ℕ
BLOCK_LIMIT = 1000000000

-- the greatest size of a coordinate of a fixture's corner, in nanometres
abbrev pub CORNER_LIMIT : ℕ
CORNER_LIMIT = 4000000000

-- the greatest margin, in nanometres
abbrev pub MARGIN_LIMIT : ℤ
MARGIN_LIMIT = pos 100000000

-- a number between two bounds, both included
pub record IsFrom (low high z : ℤ) : Type 0 where
  pub least : low ≤ℤ z
  pub greatest : z ≤ℤ high

-- a rate, a change of rate, or a number of ticks a second
pub record IsRate (rate : ℕ) : Type 0 where
  pub least : 1 ≤ rate
  pub greatest : rate ≤ 1000000

-- how much the rate of an axis may change at once, where two motions meet
pub record IsJump (jump : ℕ) : Type 0 where
  pub greatest : jump ≤ 1000000

-- the most commands that may be loaded and not done
pub record IsRing (ring : ℕ) : Type 0 where
  pub least : 16 ≤ ring
  pub greatest : ring ≤ 1024

-- a rate of each axis
pub record AreRates (rates : AxisRates) : Type 0 where
  pub x : IsRate rates.x
  pub y : IsRate rates.y
  pub z : IsRate rates.z

-- the bound of rates on arcs
pub record IsArcBound (turn : ℕ) : Type 0 where
  pub least : 1 ≤ turn
  pub greatest : turn ≤ 1000000000000

-- and that of each axis
pub record AreArcBounds (turns : AxisTurns) : Type 0 where
  pub x : IsArcBound turns.x
  pub y : IsArcBound turns.y
  pub z : IsArcBound turns.z

-- how fast each axis may change its rate, and how sharply it may turn
pub record AreLimits (limits : AxisLimits) : Type 0 where
  pub changes : AreRates limits.changes
  pub turns : AreArcBounds limits.turns

-- each coordinate is at most the limit in size
pub record IsSized (limit : ℕ) (p : Point3) : Type 0 where
  pub x : unsigned_abs p.x ≤ limit
  pub y : unsigned_abs p.y ≤ limit
  pub z : unsigned_abs p.z ≤ limit

-- p is at most q on each axis
pub record IsAtMost (p q : Point3) : Type 0 where
  pub x : p.x ≤ℤ q.x
  pub y : p.y ≤ℤ q.y
  pub z : p.z ≤ℤ q.z

-- p is below q on each axis
pub record IsBelow (p q : Point3) : Type 0 where
  pub x : p.x <ℤ q.x
  pub y : p.y <ℤ q.y
  pub z : p.z <ℤ q.z

-- each coordinate is a whole multiple of the step
pub record IsOnGrid (step : ℤ) (p : Point3) : Type 0 where
  pub x : int_rem p.x step ≡ pos 0
  pub y : int_rem p.y step ≡ pos 0
  pub z : int_rem p.z step ≡ pos 0

-- travel limits, and a start point within the travel and on the grid
pub record IsTravel (step : ℤ) (low high start : Point3) : Type 0 where
  pub low_sized : IsSized TRAVEL_LIMIT low
  pub high_sized : IsSized TRAVEL_LIMIT high
  pub ordered : IsAtMost low high
  pub start_above : IsAtMost low start
  pub start_below : IsAtMost start high
  pub start_on_grid : IsOnGrid step start

pub record IsFixture (f : Fixture) : Type 0 where
  pub low_sized : IsSized CORNER_LIMIT f.low
  pub high_sized : IsSized CORNER_LIMIT f.high
  pub ordered : IsBelow f.low f.high

pub record AreFixtures (fixtures : List Fixture) : Type 0 where
  pub count : length fixtures ≤ 256
  pub each : All IsFixture fixtures

pub record AreMargins (m : Margins) : Type 0 where
  pub fixtures : IsFrom (pos 0) MARGIN_LIMIT m.fixtures
  pub travel : IsFrom (pos 0) MARGIN_LIMIT m.travel

-- a block of material, in a coordinate system, 1 to 9, or in the machine, 0
pub record IsStock (s : StockBox) : Type 0 where
  pub system : s.system ≤ 9
  pub low_sized : IsSized BLOCK_LIMIT s.low
  pub high_sized : IsSized BLOCK_LIMIT s.high
  pub ordered : IsBelow s.low s.high

pub record IsPart (p : Part) : Type 0 where
  pub length : IsFrom (pos 0) (pos 1000000000) p.length
  pub radius : IsFrom (pos 0) (pos 1000000000) p.radius

-- the parts of a tool: one to four
pub record AreParts (parts : List Part) : Type 0 where
  pub least : 1 ≤ length parts
  pub greatest : length parts ≤ 4
  pub each : All IsPart parts

pub record IsTool (t : Tool) : Type 0 where
  pub number_least : 1 ≤ t.number
  pub number_greatest : t.number ≤ 9999
  pub offset_sized : unsigned_abs t.offset ≤ 1000000000
  pub bottom : IsFrom (negsuc 999999999) (pos 0) t.bottom
  pub parts : AreParts t.parts

pub record AreTools (tools : List Tool) : Type 0 where
  pub count : length tools ≤ 1000
  pub each : All IsTool tools
  pub different : AreDifferent (map (λ t. t.number) tools)
