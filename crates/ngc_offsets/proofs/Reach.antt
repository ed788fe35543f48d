-- Places that words give stay within the machine's reach.
use Rattle.std.proofs.Common.{◌≡◌, ◌<◌, ◌≤◌, ℤ, ◌+ℤ◌, ◌-ℤ◌, inl, inr, arith, subst, sym}
use Rattle.std.specs.Prelude.{unsigned_abs}
use Rattle.std.proofs.lemmas.Int.{ints}
use Rattle.ngc_fixed_length.specs.declared.points.Point3.{Point3}
use Rattle.ngc_fixed_length.specs.Places.{plus, minus, zero_point}
use Rattle.ngc_fixed_length.specs.declared.modes.System.{System}
use Rattle.ngc_fixed_length.specs.declared.modes.System.TheVariants.{First, Second, Third, Fourth, Fifth, Sixth, Seventh, Eighth, Ninth}
use Rattle.ngc_offsets.specs.Offsets.{Offsets}
use Rattle.ngc_offsets.specs.Ranges.{OFFSET_LIMIT, SHIFT_LIMIT, MACHINE_LIMIT, IsWithin, AreInRange, IsPresentOrNamed, IsReachedFrom}
use Rattle.ngc_offsets.specs.Frames.{index, origin_of, shift_of}

-- on one axis: p is the programmed coordinate of m, or a coordinate in range
pub reach : (m s p : ℤ) → unsigned_abs s ≤ SHIFT_LIMIT → unsigned_abs m ≤ MACHINE_LIMIT → IsPresentOrNamed (m -ℤ s) p → unsigned_abs (p +ℤ s) ≤ MACHINE_LIMIT
reach m s p small near kept = elim kept [ inl same ↦ omega (arith, ints) | inr given ↦ omega (arith, ints) ]

pub IsWithin-plus : (place shift p : Point3) → IsWithin SHIFT_LIMIT shift → IsWithin MACHINE_LIMIT place → IsReachedFrom (minus place shift) p →
    IsWithin MACHINE_LIMIT (plus p shift)
IsWithin-plus place shift p small near from = record {
  x = reach place.x shift.x p.x small.x near.x from.x;
  y = reach place.y shift.y p.y small.y near.y from.y;
  z = reach place.z shift.z p.z small.z near.z from.z;
}

-- the same, for places that are equal to these
pub reaches : (place shift current p q : Point3) → q ≡ plus p shift → IsReachedFrom current p → current ≡ minus place shift → IsWithin SHIFT_LIMIT shift →
    IsWithin MACHINE_LIMIT place → IsWithin MACHINE_LIMIT q
reaches place shift current p q e from f small near =
    let P : Point3 → Type 0 = λ c. IsReachedFrom c p in
    let Q : Point3 → Type 0 = λ r. IsWithin MACHINE_LIMIT r in
    subst Q (sym e) (IsWithin-plus place shift p small near (subst P f from))

index_below : (system : System) → index system < 9
index_below First = omega arith
index_below Second = omega arith
index_below Third = omega arith
index_below Fourth = omega arith
index_below Fifth = omega arith
index_below Sixth = omega arith
index_below Seventh = omega arith
index_below Eighth = omega arith
index_below Ninth = omega arith

origin_within : (f : Offsets) (system : System) → AreInRange f → IsWithin OFFSET_LIMIT (origin_of f system)
origin_within f system h = h.origins (index system) zero_point (rw h.nine (index_below system))

-- the difference between machine places and programmed places is bounded
pub IsWithin-shift_of : (f : Offsets) → AreInRange f → IsWithin SHIFT_LIMIT (shift_of f)
IsWithin-shift_of f h =
    let o : IsWithin OFFSET_LIMIT (origin_of f f.active) = origin_within f f.active h in
    record {
      x = omega (arith, ints, o.x, h.axis_offset.x);
      y = omega (arith, ints, o.y, h.axis_offset.y);
      z = omega (arith, ints, o.z, h.axis_offset.z, h.length);
    }
