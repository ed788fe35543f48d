-- Millimetres can write all lengths.
use Rattle.std.proofs.Common.{◌≡◌, ℤ, Option, Some, None, true, refl}
use Rattle.ngc_fixed_length.specs.declared.units.Units.TheVariants.{Millimetres}
use Rattle.ngc_offsets.specs.declared.given.AxisLengths.{AxisLengths}
use Rattle.ngc_dialect_rules.specs.Lengths.{is_exact, is_exact_length, written_in}

exact_length : (length : Option ℤ) → is_exact_length Millimetres length ≡ true
unfolding written_in
exact_length None = refl
exact_length (Some l) = refl

pub exact_in_millimetres : (axes : AxisLengths) → is_exact Millimetres axes ≡ true
unfolding is_exact
exact_in_millimetres axes = rw (exact_length axes.x, exact_length axes.y, exact_length axes.z) refl
