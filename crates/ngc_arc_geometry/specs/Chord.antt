-- The position of the centre relative to the chord, in radius format (NISTIR 6556, 3.5.3.1). Its
-- rounding is our own.
use Rattle.std.specs.Prelude.{ℕ, ◌-◌, ◌*◌, ◌/◌, ℤ, pos, negsuc, ◌+ℤ◌, unsigned_abs, Bool, true}
use Rattle.std.specs.Prelude.{false}
use Rattle.std.specs.Int.{int_div_euclid}
use Rattle.ngc_fixed_length.specs.Roots.{whole_root}
use Rattle.ngc_fixed_length.specs.declared.modes.Turn.{Turn}
use Rattle.ngc_fixed_length.specs.declared.modes.Turn.TheVariants.{Clockwise, Counterclockwise}

-- half the sum, rounded down
abbrev pub halfway : ℤ → ℤ → ℤ
halfway x y = int_div_euclid (x +ℤ y) (pos 2)

-- the distance of the centre from the middle along one axis: the root of k*k*(4*r*r - d2)/(4*d2),
-- with k the chord's length along the other axis
abbrev pub aside : ℕ → ℕ → ℤ → ℤ
aside square d2 k =
    pos (whole_root (unsigned_abs k * unsigned_abs k * (4 * square - d2) / (4 * d2)))

-- an arc of at most half a turn has its centre to the left of the chord if it turns
-- counterclockwise
abbrev pub side : Turn → Bool → ℤ
side Counterclockwise false = pos 1
side Clockwise true = pos 1
side Counterclockwise true = negsuc 0
side Clockwise false = negsuc 0
