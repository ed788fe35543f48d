-- A sine in units of 10^-12 is within one unit of its series.
use Rattle.std.proofs.Common.{◌≡◌, ℕ, zero, suc, ◌+◌, ◌-◌, ◌*◌, ◌/◌, ◌%◌, ◌≤◌, ◌<◌, ◌==◌, nat_le, Bool, true, false, not, cond, arith, refl, ℤ, pos, unsigned_abs}
use Rattle.std.proofs.lemmas.Bool.Decides.{nat_tests}
use Rattle.std.proofs.lemmas.Nat.{mul-le}
use Rattle.ngc_fixed_length.specs.Rounding.{nearest, nearest_size}
use Rattle.ngc_dialect_numbers.specs.Numbers.{signed}
use Rattle.ngc_dialect_numbers.specs.Series.{Fraction, terms, series, cosine_terms, sine_terms}
use Rattle.ngc_dialect_numbers.specs.Circles.{in_quarter, octant, octant_of, radians, square, low_cosine, low_ratio, low_sine, wide_size, sine, IsPi, IsWithinUnit, IsSine, terms_of}
use Rattle.ngc_dialect_numbers.specs.declared.circle.Octant.{Octant}
use Rattle.ngc_dialect_numbers.proofs.SeriesLaws.{Close, Square, close_terms, error_of, scaled, cancel_both, joined, wide_product, wide_first, wide_sum, positive_product, four, add_less}

-- x in 10^-18 is at most u / v, and less than 2 units below it
record Length (x u v : ℕ) : Type 0 where
  positive : 0 < v
  proper : u ≤ v
  size : x + 10 ≤ 1000000000000000000
  low : x * v ≤ 1000000000000000000 * u
  high : 1000000000000000000 * u ≤ (x + 2) * v

length_size : (a x : ℕ) → a ≤ 45000000000000 → x ≡ a * 3141592653589793238 / 180000000000000 → x + 10 ≤ 1000000000000000000
length_size a x small is = omega arith

length_low : (a x p q : ℕ) → x * 180000000000000 ≤ a * 3141592653589793238 → 3141592653589793238 * q ≤ 1000000000000000000 * p →
    x * (180000000000000 * q) ≤ 1000000000000000000 * (a * p)
length_low a x p q whole pi =
    let first : (x * 180000000000000) * q ≤ (a * 3141592653589793238) * q = scaled _ _ q whole in
    let second : a * (3141592653589793238 * q) ≤ a * (1000000000000000000 * p) = mul-le a _ a _ (omega arith) pi in
    omega arith

length_high : (a x p q : ℕ) → a ≤ 180000000000000 → a * 3141592653589793238 < (x + 1) * 180000000000000 →
    1000000000000000000 * p ≤ 3141592653589793239 * q → 1000000000000000000 * (a * p) ≤ (x + 2) * (180000000000000 * q)
length_high a x p q small whole pi =
    let first : (a * 3141592653589793238) * q ≤ ((x + 1) * 180000000000000) * q = scaled (a * 3141592653589793238) ((x + 1) * 180000000000000) q (omega arith) in
    let second : a * (1000000000000000000 * p) ≤ a * (3141592653589793239 * q) = mul-le a _ a _ (omega arith) pi in
    let third : a * q ≤ 180000000000000 * q = scaled a _ q small in
    omega arith

length_proper : (a p q : ℕ) → a ≤ 45000000000000 → 1000000000000000000 * p ≤ 3141592653589793239 * q → a * p ≤ 180000000000000 * q
length_proper a p q small pi =
    let least : p ≤ 4 * q = omega arith in
    let product : a * p ≤ 45000000000000 * (4 * q) = mul-le a p _ _ small least in
    omega arith

length_of : (a p q : ℕ) → a ≤ 45000000000000 → IsPi p q → Length (radians a) (a * p) (180000000000000 * q)
length_of a p q small pi = record {
  positive = omega (arith, pi.above_zero);
  proper = length_proper a p q small pi.high;
  size = length_size a (radians a) small refl;
  low = length_low a (radians a) p q (omega arith) pi.low;
  high = length_high a (radians a) p q (omega arith) (omega arith) pi.high;
}

whole_low : (x : ℕ) → 1000000000000000000 * (x / 1000000000000000000) ≤ x
whole_low x = omega arith

whole_high : (x : ℕ) → x < 1000000000000000000 * (x / 1000000000000000000) + 1000000000000000000
whole_high x = omega arith

square_size : (x : ℕ) → x + 10 ≤ 1000000000000000000 → x * x / 1000000000000000000 + 5 ≤ 1000000000000000000
square_size x small = let product : x * x ≤ x * 1000000000000000000 = mul-le x x x 1000000000000000000 (omega arith) (omega arith) in omega arith

square_above : (x : ℕ) → x + 10 ≤ 1000000000000000000 → (x + 2) * (x + 2) ≤ 1000000000000000000 * (x * x / 1000000000000000000 + 5)
square_above x small = omega arith

square_low : (s x u v : ℕ) → 1000000000000000000 * s ≤ x * x → x * v ≤ 1000000000000000000 * u → s * (v * v) ≤ 1000000000000000000 * (u * u)
square_low s x u v whole low =
    let first : (1000000000000000000 * s) * (v * v) ≤ (x * x) * (v * v) = scaled _ _ (v * v) whole in
    let second : (x * v) * (x * v) ≤ (1000000000000000000 * u) * (1000000000000000000 * u) = mul-le _ _ _ _ low low in
    cancel_both _ _ (joined _ _ _ _ _ _ (wide_first s (v * v)) first (four x x v v) second (wide_product u u))

square_high : (s x u v : ℕ) → (x + 2) * (x + 2) ≤ 1000000000000000000 * s → 1000000000000000000 * u ≤ (x + 2) * v →
    1000000000000000000 * (u * u) ≤ s * (v * v)
square_high s x u v whole high =
    let first : (1000000000000000000 * u) * (1000000000000000000 * u) ≤ ((x + 2) * v) * ((x + 2) * v) = mul-le _ _ _ _ high high in
    let second : ((x + 2) * (x + 2)) * (v * v) ≤ (1000000000000000000 * s) * (v * v) = scaled _ _ (v * v) whole in
    cancel_both _ _ (joined _ _ _ _ _ _ (wide_product u u) first (four (x + 2) v (x + 2) v) second (wide_first s (v * v)))

square_of : (x u v : ℕ) → Length x u v → Square (x * x / 1000000000000000000) (u * u) (v * v)
square_of x u v length = record {
  positive = positive_product v v length.positive length.positive;
  proper = mul-le u u v v length.proper length.proper;
  size = square_size x length.size;
  low = square_low _ x u v (whole_low (x * x)) length.low;
  high = square_high _ x u v (square_above x length.size) length.high;
}

-- ---- sine: the length times the series

sine_low : (h x s u v t b e : ℕ) → 1000000000000000000 * s ≤ x * h → x * v ≤ 1000000000000000000 * u → h * b ≤ 1000000000000000000 * t + e * b → u ≤ v →
    s * (v * b) ≤ 1000000000000000000 * (u * t) + e * (v * b)
sine_low h x s u v t b e whole low close proper =
    let first : (1000000000000000000 * s) * (v * b) ≤ (x * h) * (v * b) = scaled _ _ (v * b) whole in
    let second : (x * v) * (h * b) ≤ (1000000000000000000 * u) * (1000000000000000000 * t + e * b) = mul-le _ _ _ _ low close in
    let product : s * (v * b) ≤ 1000000000000000000 * (u * t) + e * (u * b) =
    cancel_both _ _ (joined _ _ _ _ _ _ (wide_first s (v * b)) first (four x h v b) second (wide_sum u t e b)) in
    let third : e * (u * b) ≤ e * (v * b) = mul-le e _ e _ (omega arith) (scaled u v b proper) in
    add_less _ _ _ _ product third

sine_room : (h x s e : ℕ) → h ≤ 1000000000000000000 → (x + 2) * e ≤ 1000000000000000000 * e → x * h < 1000000000000000000 * s + 1000000000000000000 →
    (x + 2) * (h + e) ≤ 1000000000000000000 * (s + e + 3)
sine_room h x s e small rest whole = omega arith

sine_high : (h x s u v t b e : ℕ) → x + 10 ≤ 1000000000000000000 → h ≤ 1000000000000000000 → x * h < 1000000000000000000 * s + 1000000000000000000 →
    1000000000000000000 * u ≤ (x + 2) * v → 1000000000000000000 * t ≤ (h + e) * b → 1000000000000000000 * (u * t) ≤ (s + e + 3) * (v * b)
sine_high h x s u v t b e length small whole high close =
    let room = sine_room h x s e small (scaled (x + 2) 1000000000000000000 e (omega arith)) whole in
    let first : (1000000000000000000 * u) * (1000000000000000000 * t) ≤ ((x + 2) * v) * ((h + e) * b) = mul-le _ _ _ _ high close in
    let second : ((x + 2) * (h + e)) * (v * b) ≤ (1000000000000000000 * (s + e + 3)) * (v * b) = scaled _ _ (v * b) room in
    cancel_both _ _ (joined _ _ _ _ _ _ (wide_product u t) first (four (x + 2) v (h + e) b) second (wide_first (s + e + 3) (v * b)))

-- ---- rounded to units of 10^-12

-- s in 10^-18 is within less than half a unit of a fraction
record Fine (s : ℕ) (f : Fraction) : Type 0 where
  positive : 0 < f.bottom
  above : s * f.bottom ≤ 1000000000000000000 * f.top + 400000 * f.bottom
  below : 1000000000000000000 * f.top ≤ (s + 400000) * f.bottom

unit_low : (s r t b : ℕ) → 0 < b → s + 500000 ≤ 1000000 * r + 1000000 → 1000000000000000000 * t ≤ (s + 400000) * b → 1000000000000 * t < (r + 1) * b
unit_low s r t b some whole low =
    let product : (s + 500000) * b ≤ (1000000 * r + 1000000) * b = scaled _ _ b whole in
    omega arith

unit_high : (s r t b : ℕ) → 0 < b → 1000000 * r ≤ s + 500000 → s * b ≤ 1000000000000000000 * t + 400000 * b → r * b < 1000000000000 * t + b
unit_high s r t b some whole high =
    let product : (1000000 * r) * b ≤ (s + 500000) * b = scaled _ _ b whole in
    omega arith

within_unit : (s : ℕ) (f : Fraction) → Fine s f → IsWithinUnit (nearest_size s 1000000) f
within_unit s f fine = record {
  above_zero = fine.positive;
  low = unit_low s (nearest_size s 1000000) f.top f.bottom fine.positive (omega arith) fine.below;
  high = unit_high s (nearest_size s 1000000) f.top f.bottom fine.positive (omega arith) fine.above;
}

coarser : (s e t b : ℕ) → e ≤ 400000 → (1000000000000000000 * t ≤ (s + e) * b) → 1000000000000000000 * t ≤ (s + 400000) * b
coarser s e t b small low = let more : (s + e) * b ≤ (s + 400000) * b = scaled (s + e) (s + 400000) b (omega arith) in omega arith

coarser_above : (x e b : ℕ) (t : ℕ) → e ≤ 400000 → x ≤ t + e * b → x ≤ t + 400000 * b
coarser_above x e b t small high = let more : e * b ≤ 400000 * b = scaled _ _ b small in omega arith

cosine_error : error_of 8 1 ≤ 400000
cosine_error = let e : error_of 8 1 ≡ 47800 = refl in omega arith

sine_error : error_of 8 2 + 3 ≤ 400000
sine_error = let e : error_of 8 2 ≡ 2814 = refl in omega arith

regrouped : (s e x y : ℕ) → y ≤ (s + e + 3) * x → y ≤ (s + (e + 3)) * x
regrouped s e x y h = omega arith

more_error : (y x e b : ℕ) → y ≤ x + e * b → y ≤ x + (e + 3) * b
more_error y x e b h = omega arith

fine_cosine : (a count p q : ℕ) → a ≤ 45000000000000 → 8 ≤ count → IsPi p q → Fine (low_cosine a) (cosine_terms count (a * p) (180000000000000 * q))
unfolding low_cosine
fine_cosine a count p q small long pi =
    let length = length_of a p q small pi in
    let u : ℕ = a * p in
    let v : ℕ = 180000000000000 * q in
    let close = close_terms 8 count 1 (u * u) (v * v) (square a) long (omega arith) (square_of (radians a) u v length) in
    record {
      positive = close.positive;
      above = coarser_above _ _ _ _ cosine_error close.above;
      below = coarser _ _ _ _ cosine_error close.below;
    }

fine_sine : (a count p q : ℕ) → a ≤ 45000000000000 → 8 ≤ count → IsPi p q → Fine (low_sine a) (sine_terms count (a * p) (180000000000000 * q))
unfolding low_ratio
fine_sine a count p q small long pi =
    let length = length_of a p q small pi in
    let u : ℕ = a * p in
    let v : ℕ = 180000000000000 * q in
    let x : ℕ = radians a in
    let h : ℕ = series 8 2 (square a) in
    let rest : Fraction = terms count 2 (u * u) (v * v) in
    let close = close_terms 8 count 2 (u * u) (v * v) (square a) long (omega arith) (square_of x u v length) in
    record {
      positive = positive_product v rest.bottom length.positive close.positive;
      above = coarser_above _ _ _ _ sine_error (more_error _ _ _ _ (sine_low h x (x * h / 1000000000000000000) u v rest.top rest.bottom (error_of 8 2) (whole_low (x * h)) length.low close.above length.proper));
      below = coarser _ _ _ _ sine_error (regrouped _ _ _ _ (sine_high h x (x * h / 1000000000000000000) u v rest.top rest.bottom (error_of 8 2) length.size close.size (whole_high (x * h)) length.high close.below));
    }

by_choice : (cosine : Bool) (a count p q : ℕ) → a ≤ 45000000000000 → 8 ≤ count → IsPi p q →
    IsWithinUnit (nearest_size (cond cosine (low_cosine a) (low_sine a)) 1000000)
    (cond cosine (cosine_terms count (a * p) (180000000000000 * q)) (sine_terms count (a * p) (180000000000000 * q)))
by_choice true a count p q small long pi = within_unit (low_cosine a) _ (fine_cosine a count p q small long pi)
by_choice false a count p q small long pi = within_unit (low_sine a) _ (fine_sine a count p q small long pi)

-- ---- any angle

abbrev of_parts : Bool → Bool → ℕ → Octant
of_parts negative cosine rest = record { negative = negative; cosine = cosine; rest = rest }

quarter_rest : (b negative cosine : Bool) (a : ℕ) → b ≡ nat_le a 45000000000000 → a ≤ 90000000000000 →
    (cond b (of_parts negative cosine a) (of_parts negative (not cosine) (90000000000000 - a))).rest ≤ 45000000000000
quarter_rest true negative cosine a is small = grind (arith, nat_tests)
quarter_rest false negative cosine a is small =
    let more : 45000000000000 < a = grind (arith, nat_tests) in
    omega arith

octant_rest : (a : ℕ) → (octant a).rest ≤ 45000000000000
octant_rest a = quarter_rest (nat_le (a % 90000000000000) 45000000000000) _ _ (a % 90000000000000) refl (omega arith)

nearest_signed : (negative : Bool) (n : ℕ) → nearest (signed negative n) (pos 1000000) ≡ signed negative (nearest_size n 1000000)
nearest_signed false n = refl
nearest_signed true zero = refl
nearest_signed true (suc n) = refl

pub sine_near : (z : ℤ) → IsSine z (sine z)
sine_near z = record {
  size = nearest_size (wide_size (octant_of z)) 1000000;
  sign = nearest_signed (octant_of z).negative (wide_size (octant_of z));
  near = λ count p q long pi. by_choice (octant_of z).cosine (octant_of z).rest count p q (octant_rest _) long pi;
}
