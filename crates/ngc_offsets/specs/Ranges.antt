-- The limits of coordinates and offsets, in nanometres. Our own: the manual sets no bounds.
use Rattle.std.specs.Prelude.{ℕ, ◌≤◌, ◌≡◌, ◌⊎◌, ℤ, unsigned_abs, length, All}
use Rattle.ngc_fixed_length.specs.declared.points.Point3.{Point3}
use Rattle.ngc_offsets.specs.Offsets.{Offsets}
use Rattle.ngc_offsets.specs.declared.fault.Quantity.{Quantity}
use Rattle.ngc_offsets.specs.declared.fault.Quantity.TheVariants.{Coordinate, Offset}
use Rattle.ngc_offsets.specs.declared.fault.CoordinateRange.{CoordinateRange}
use Rattle.ngc_offsets.specs.declared.fault.CoordinateRange.TheVariants.{Near, Far}

-- a programmed coordinate near zero: at most a metre
abbrev pub COORDINATE_LIMIT : ℕ
COORDINATE_LIMIT = 1000000000

-- any programmed coordinate: at most four metres
abbrev pub FAR_LIMIT : ℕ
FAR_LIMIT = 4000000000

-- the greatest size of a programmed coordinate
abbrev pub coordinate_limit : CoordinateRange → ℕ
coordinate_limit Near = COORDINATE_LIMIT
coordinate_limit Far = FAR_LIMIT

-- an origin, an axis offset or a tool length offset: at most four metres
abbrev pub OFFSET_LIMIT : ℕ
OFFSET_LIMIT = 4000000000

-- the greatest size of a length of this quantity
abbrev pub limit_of : Quantity → ℕ
limit_of (Coordinate reach) = coordinate_limit reach
limit_of Offset = OFFSET_LIMIT

-- the sum of an origin, an axis offset and a tool length offset
abbrev pub SHIFT_LIMIT : ℕ
SHIFT_LIMIT = 12000000000

-- the sum of a programmed coordinate and these three
abbrev pub MACHINE_LIMIT : ℕ
MACHINE_LIMIT = 16000000000

-- the sum of a machine coordinate and these three
abbrev pub PROGRAMMED_LIMIT : ℕ
PROGRAMMED_LIMIT = 28000000000

abbrev pub IsCoordinate : ℤ → Type 0
IsCoordinate c = unsigned_abs c ≤ FAR_LIMIT

abbrev pub IsOffset : ℤ → Type 0
IsOffset o = unsigned_abs o ≤ OFFSET_LIMIT

-- each coordinate's size is at most the limit
pub record IsWithin (limit : ℕ) (p : Point3) : Type 0 where
  pub x : unsigned_abs p.x ≤ limit
  pub y : unsigned_abs p.y ≤ limit
  pub z : unsigned_abs p.z ≤ limit

-- a place that the machine's axes are sent to
abbrev pub IsMachinePlace : Point3 → Type 0
IsMachinePlace p = IsWithin MACHINE_LIMIT p

-- the programmed place of such a place
abbrev pub IsProgrammedPlace : Point3 → Type 0
IsProgrammedPlace p = IsWithin PROGRAMMED_LIMIT p

-- each origin and offset is within its limit
pub record AreInRange (f : Offsets) : Type 0 where
  pub nine : length f.origins ≡ 9
  pub origins : All (IsWithin OFFSET_LIMIT) f.origins
  pub axis_offset : IsWithin OFFSET_LIMIT f.axis_offset
  pub saved : IsWithin OFFSET_LIMIT f.saved
  pub length : IsOffset f.length

-- a coordinate stays, or it is one in the range of programmed coordinates
abbrev pub IsPresentOrNamed : ℤ → ℤ → Type 0
IsPresentOrNamed current c = (c ≡ current) ⊎ IsCoordinate c

pub record IsReachedFrom (current p : Point3) : Type 0 where
  pub x : IsPresentOrNamed current.x p.x
  pub y : IsPresentOrNamed current.y p.y
  pub z : IsPresentOrNamed current.z p.z
