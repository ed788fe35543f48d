-- A cutter's shape as discs: cylinders from a height above the tip up, each of them inside the cutter. Our
-- own.
use Rattle.std.specs.Prelude.{ℕ, ◌+◌, ◌*◌, ◌-◌, ◌/◌, ◌≤◌, max, pos, ◌+ℤ◌, List, [], ◌∷◌, map, Option, Some, None}
use Rattle.std.specs.Int.{div_ceil, int_min}
use Rattle.ngc_fixed_length.specs.Limits.{LENGTH_LIMIT}
use Rattle.ngc_fixed_length.specs.Roots.{whole_root}
use Rattle.ngc_file_figures.specs.Limits.{limits_of}
use Rattle.ngc_file_figures.specs.declared.cutter.Cutter.{Cutter}
use Rattle.ngc_file_figures.specs.declared.cutter.Cutter.TheVariants.{Flat, Ball, Vee, Drill}
use Rattle.ngc_file_figures.specs.declared.limits.ToolLimits.{ToolLimits}
use Rattle.ngc_machine_files.specs.declared.tools.Tool.{Tool}
use Rattle.ngc_cells.specs.Stretches.{RADIUS_LIMIT}
use Rattle.ngc_stock.specs.declared.cylinder.Cylinder.{Cylinder}
use Rattle.ngc_stock.specs.Stocks.{radius, lowest_part}

-- ---- the surfaces

-- how far a ball of radius r is above its lowest point, at the distance d from its axis; rounded up
unfoldable pub ball_up : ℕ → ℕ → ℕ
ball_up r d = r - whole_root (r * r - d * d)

-- the same of a cone of height h, whose point is down
unfoldable pub cone_up : ℕ → ℕ → ℕ → ℕ
cone_up r h d = div_ceil (h * d) (max 1 r)

-- the height of a cone with a radius: of a vee of 90 degrees, and of a drill of 118 degrees, whose height is
-- 0.60087 of its radius
abbrev pub vee_height : ℕ → Option ℕ → ℕ
vee_height r None = r
vee_height r (Some h) = h

abbrev pub drill_height : ℕ → Option ℕ → ℕ
drill_height r None = div_ceil (601 * r) 1000
drill_height r (Some h) = h

-- ---- the discs

-- their radii, in 64ths of the cutter's, the least first: even steps for a ball, which is nearly level at
-- its lowest point, and for a cone smaller ones at its point
abbrev pub BALL_STEPS : List ℕ
BALL_STEPS = 8 ∷ 16 ∷ 24 ∷ 32 ∷ 40 ∷ 48 ∷ 56 ∷ 64 ∷ []

abbrev pub CONE_STEPS : List ℕ
CONE_STEPS = 1 ∷ 2 ∷ 4 ∷ 8 ∷ 16 ∷ 32 ∷ 48 ∷ 64 ∷ []

abbrev pub step : ℕ → ℕ → ℕ
step r n = r * n / 64

-- a disc with this radius that begins so far above a tool's tip; no foot is over the limit
abbrev pub disc : Tool → ℕ → ℕ → Cylinder
disc t r up = record { bottom = int_min (pos LENGTH_LIMIT) (t.bottom +ℤ pos up); radius = r }

abbrev pub ball_disc : Tool → ℕ → ℕ → Cylinder
ball_disc t r n = disc t (step r n) (ball_up r (step r n))

abbrev pub cone_disc : Tool → ℕ → ℕ → ℕ → Cylinder
cone_disc t r h n = disc t (step r n) (cone_up r h (step r n))

unfoldable pub ball_discs : Tool → ℕ → List Cylinder
ball_discs t r = map (ball_disc t r) BALL_STEPS

unfoldable pub cone_discs : Tool → ℕ → ℕ → List Cylinder
cone_discs t r h = map (cone_disc t r h) CONE_STEPS

-- of a tool whose cutter has this shape, and this height of its cone; a flat cutter is one disc
abbrev pub shaped : Tool → Option Cutter → Option ℕ → List Cylinder
shaped t (Some Ball) height = ball_discs t (radius (lowest_part t))
shaped t (Some Vee) height = cone_discs t (radius (lowest_part t)) (vee_height (radius (lowest_part t)) height)
shaped t (Some Drill) height = cone_discs t (radius (lowest_part t)) (drill_height (radius (lowest_part t)) height)
shaped t (Some Flat) height = lowest_part t ∷ []
shaped t None height = lowest_part t ∷ []

abbrev pub shaped_by : Tool → Option ToolLimits → List Cylinder
shaped_by t None = lowest_part t ∷ []
shaped_by t (Some l) = shaped t l.cutter l.cone

-- those of a tool, by what a table says of the tool with its number
unfoldable pub discs_of : List ToolLimits → Tool → List Cylinder
discs_of table t = shaped_by t (limits_of t.number table)

-- without a tool there are none
abbrev pub discs_in : List ToolLimits → Option Tool → List Cylinder
discs_in table None = []
discs_in table (Some t) = discs_of table t

-- ---- what it means that a disc is inside

-- a disc of radius d that begins `up` above the lowest point of a ball of radius r: its rim is in the ball or
-- above its middle, and so is all of the disc
pub record IsInBall (r d up : ℕ) : Type 0 where
  pub narrow : d ≤ r
  pub most : up ≤ r
  pub rim : d * d + (r - up) * (r - up) ≤ r * r

-- the same of a cone of height h: the rim is at least as far up as the cone's surface there
pub record IsInCone (r h d up : ℕ) : Type 0 where
  pub narrow : d ≤ r
  pub rim : h * d ≤ up * r

abbrev pub BallInside : Type 0
BallInside = (r n : ℕ) → n ≤ 64 → r ≤ RADIUS_LIMIT → IsInBall r (step r n) (ball_up r (step r n))

abbrev pub ConeInside : Type 0
ConeInside = (r h n : ℕ) → n ≤ 64 → IsInCone r h (step r n) (cone_up r h (step r n))
