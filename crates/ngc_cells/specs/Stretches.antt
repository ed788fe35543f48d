-- Stretches of a line in the plane, and which points are near them. Our own.
use Rattle.std.specs.Prelude.{ℕ, ◌+◌, ◌*◌, ◌≤◌, ◌<◌, ◌⊎◌, ℤ, pos, ◌+ℤ◌, ◌-ℤ◌, ◌*ℤ◌, neg_ℤ, ◌≤ℤ◌, ◌<ℤ◌, unsigned_abs}
use Rattle.ngc_fixed_length.specs.Roots.{IsRootFloor}
use Rattle.ngc_cells.specs.declared.stretch.Spot.{Spot}
use Rattle.ngc_cells.specs.declared.stretch.Stretch.{Stretch}

-- two metres, in nanometres
abbrev pub REACH : ℕ
REACH = 2000000000

-- a metre, the greatest radius
abbrev pub RADIUS_LIMIT : ℕ
RADIUS_LIMIT = 1000000000

abbrev pub PARTS_LIMIT : ℕ
PARTS_LIMIT = 1000

abbrev pub spot : ℤ → ℤ → Spot
spot x y = record { x = x; y = y }

pub record IsSpot (p : Spot) : Type 0 where
  pub x : unsigned_abs p.x ≤ REACH
  pub y : unsigned_abs p.y ≤ REACH

pub record IsStretch (s : Stretch) : Type 0 where
  pub start : IsSpot s.start
  pub end : IsSpot s.end
  pub parts : s.parts ≤ PARTS_LIMIT
  pub part : s.part < s.parts

abbrev pub square : ℤ → ℤ
square z = z *ℤ z

-- n times the distance, along an axis, from the point at k/n of the line from a to b, to q
abbrev pub ahead : ℕ → ℕ → ℤ → ℤ → ℤ → ℤ
ahead n k a b q = (pos n *ℤ (q -ℤ a)) -ℤ (pos k *ℤ (b -ℤ a))

-- n times the coordinate of that point
abbrev pub middle : ℕ → ℕ → ℤ → ℤ → ℤ
middle n k a b = (pos n *ℤ a) +ℤ (pos k *ℤ (b -ℤ a))

-- the point at k/n of the line from a to b is at most r from q
abbrev pub IsAround : ℕ → ℕ → Spot → Spot → ℕ → Spot → Type 0
IsAround n k a b r q =
    (square (ahead n k a.x b.x q.x) +ℤ square (ahead n k a.y b.y q.y)) ≤ℤ pos ((n * r) * (n * r))

-- the point at k/n of the stretch's line is a point of the stretch
pub record IsOn (s : Stretch) (n k : ℕ) : Type 0 where
  pub some : 0 < n
  pub first : s.part * n ≤ k * s.parts
  pub last : k * s.parts ≤ (s.part + 1) * n

-- some point of the stretch is at most r from q
abbrev pub IsNear : Stretch → ℕ → Spot → Type 0
IsNear s r q = (n : ℕ) × (k : ℕ) × IsOn s n k × IsAround n k s.start s.end r q

-- ---- the same by cases, as it is computed

-- the length of the line from a to b, squared
abbrev pub squared_length : Spot → Spot → ℤ
squared_length a b = square (b.x -ℤ a.x) +ℤ square (b.y -ℤ a.y)

-- how far q is along the line from where the stretch begins, times the line's length and its parts
abbrev pub along : Stretch → Spot → ℤ
along s q =
    ((s.end.x -ℤ s.start.x) *ℤ ahead s.parts s.part s.start.x s.end.x q.x) +ℤ
    ((s.end.y -ℤ s.start.y) *ℤ ahead s.parts s.part s.start.y s.end.y q.y)

-- how far q is from the line, times the line's length
abbrev pub aside : Spot → Spot → Spot → ℤ
aside a b q = ((b.x -ℤ a.x) *ℤ (q.y -ℤ a.y)) -ℤ ((b.y -ℤ a.y) *ℤ (q.x -ℤ a.x))

-- q is between the perpendiculars to the line at both ends of the stretch
pub record IsAlong (s : Stretch) (q : Spot) : Type 0 where
  pub after : pos 0 <ℤ along s q
  pub before : along s q <ℤ squared_length s.start s.end

-- q is at most r from the line, which may go on beyond its ends
abbrev pub IsClose : Stretch → ℕ → Spot → Type 0
IsClose s r q = square (aside s.start s.end q) ≤ℤ (pos (r * r) *ℤ squared_length s.start s.end)

-- the whole root of the right side of IsClose
abbrev pub IsWidth : Stretch → ℕ → ℕ → Type 0
IsWidth s r w = IsRootFloor (r * r * unsigned_abs (squared_length s.start s.end)) w

-- the same by the whole root w of its right side
pub record IsBand (s : Stretch) (w : ℕ) (q : Spot) : Type 0 where
  pub low : neg_ℤ (pos w) ≤ℤ aside s.start s.end q
  pub high : aside s.start s.end q ≤ℤ pos w

pub record IsBeside (s : Stretch) (r : ℕ) (q : Spot) : Type 0 where
  pub along : IsAlong s q
  pub close : IsClose s r q

-- y is more than r beyond both ends of a line, along the axis of y
abbrev pub IsPast : ℤ → ℤ → ℕ → ℤ → Type 0
IsPast a b r y =
    (((a +ℤ pos r) <ℤ y) × ((b +ℤ pos r) <ℤ y)) ⊎ ((y <ℤ (a -ℤ pos r)) × (y <ℤ (b -ℤ pos r)))
