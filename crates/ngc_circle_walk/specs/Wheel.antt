-- The rule by which a point moves round a centre in unit moves, near a circle. Our own.
use Rattle.std.specs.Prelude.{◌≡◌, ℕ, ◌+◌, ◌-◌, ◌*◌, ◌<◌, ◌≤◌, nat_lt, nat_le, Bool, if◌then◌else◌}
use Rattle.ngc_circle_walk.specs.declared.spoke.Roll.{Roll}
use Rattle.ngc_circle_walk.specs.declared.spoke.Roll.TheVariants.{Outward, Diagonal, Inward, Over}
use Rattle.ngc_circle_walk.specs.declared.spoke.Spoke.{Spoke}
use Rattle.ngc_circle_walk.specs.Quadrants.{following}

-- the squared distance from the centre
abbrev pub square : ℕ → ℕ → ℕ
square x y = x * x + y * y

-- the point to which a move of length g leads: over the half axis into the next quadrant, or within
-- this one
abbrev pub rolled : ℕ → Roll → Spoke → Spoke
rolled g Outward s = record { quadrant = s.quadrant; x = s.x; y = s.y + g }
rolled g Diagonal s = record { quadrant = s.quadrant; x = s.x - g; y = s.y + g }
rolled g Inward s = record { quadrant = s.quadrant; x = s.x - g; y = s.y }
rolled g Over s = record { quadrant = following s.quadrant; x = s.y; y = g - s.x }

-- the move that the rule allows: over the half axis if that is less than g away; else the first of
-- outward and diagonal whose end is within the limit, a squared distance; else inward
abbrev pub IsRoll : ℕ → ℕ → Spoke → Roll → Type 0
IsRoll g limit s Over = s.x < g
IsRoll g limit s Outward = (g ≤ s.x) × (square s.x (s.y + g) ≤ limit)
IsRoll g limit s Diagonal =
    (g ≤ s.x) × (limit < square s.x (s.y + g)) × (square (s.x - g) (s.y + g) ≤ limit)
IsRoll g limit s Inward = (g ≤ s.x) × (limit < square (s.x - g) (s.y + g))

-- the same as a function
abbrev pub next_roll : ℕ → ℕ → Spoke → Roll
next_roll g limit s =
    if nat_lt s.x g then Over
    else (if nat_le (square s.x (s.y + g)) limit then Outward
    else (if nat_le (square (s.x - g) (s.y + g)) limit then Diagonal else Inward))

-- the rule allows exactly one move at each point
abbrev pub OneIsDue : Type 0
OneIsDue = (g limit : ℕ) (s : Spoke) → IsRoll g limit s (next_roll g limit s) ×
    ((r : Roll) → IsRoll g limit s r → r ≡ next_roll g limit s)

-- the sum of the coordinates' squares fits in 64 bits
pub record IsSmall (s : Spoke) : Type 0 where
  pub x : s.x ≤ 3000000000
  pub y : s.y ≤ 3000000000

-- a move over a half axis begins at most a step before it, and a move towards it at least a step
-- before it
abbrev pub CanRoll : ℕ → Spoke → Roll → Type 0
CanRoll g s Over = s.x ≤ g
CanRoll g s Outward = Unit {0}
CanRoll g s Diagonal = g ≤ s.x
CanRoll g s Inward = g ≤ s.x

-- the direction of the first of two points of a quadrant is before that of the other
abbrev pub is_before : Spoke → Spoke → Bool
is_before s e = nat_lt (s.y * e.x) (s.x * e.y)
