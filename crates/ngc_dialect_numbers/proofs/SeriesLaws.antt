-- The computed series of sine and cosine are near those that define them.
use Rattle.std.proofs.Common.{◌≡◌, ℕ, zero, suc, ◌+◌, ◌-◌, ◌*◌, ◌/◌, ◌%◌, ◌≤◌, ◌<◌, arith, ap}
use Rattle.std.proofs.lemmas.Nat.{mul-le}
use Rattle.ngc_dialect_numbers.specs.Series.{Fraction, term, terms, series}

cancel : (a b : ℕ) → 1000000000000000000 * (1000000000000000000 * a) ≤ 1000000000000000000 * b → 1000000000000000000 * a ≤ b
cancel a b h = omega arith

pub four : (a b c d : ℕ) → (a * b) * (c * d) ≡ (a * c) * (b * d)
four a b c d = omega arith

same : (n : ℕ) → n ≤ n
same n = omega arith

pub scaled : (a b c : ℕ) → a ≤ b → a * c ≤ b * c
scaled a b c h = mul-le a c b c h (same c)

pub joined : (x a b c d y : ℕ) → a ≡ x → a ≤ b → b ≡ c → c ≤ d → d ≡ y → x ≤ y
joined x a b c d y e f g h i = omega arith

pub wide_product : (n p : ℕ) → (1000000000000000000 * n) * (1000000000000000000 * p) ≡ 1000000000000000000 * (1000000000000000000 * (n * p))
wide_product n p = omega arith

pub wide_first : (a b : ℕ) → (1000000000000000000 * a) * b ≡ 1000000000000000000 * (a * b)
wide_first a b = omega arith

-- ---- a term of a series

factor_room : (h s t f e g : ℕ) → h ≤ 1000000000000000000 → (s + 5) * g ≤ 1000000000000000000 * g →
    h * s < 1000000000000000000 * (f * t) + 1000000000000000000 * f → f + 5 + g ≤ f * e → (s + 5) * (h + g) ≤ 1000000000000000000 * (f * (t + e))
factor_room h s t f e g small rest quotient room = omega arith

above : (h s t p q n d f e g : ℕ) → h ≤ 1000000000000000000 → s + 5 ≤ 1000000000000000000 →
    h * s < 1000000000000000000 * (f * t) + 1000000000000000000 * f → f + 5 + g ≤ f * e →
    1000000000000000000 * p ≤ (h + g) * q → 1000000000000000000 * n ≤ (s + 5) * d →
    1000000000000000000 * (n * p) ≤ (f * (t + e)) * (d * q)
above h s t p q n d f e g small square quotient room tail high =
    let product : (1000000000000000000 * n) * (1000000000000000000 * p) ≤ ((s + 5) * d) * ((h + g) * q) = mul-le _ _ _ _ high tail in
    let factor = factor_room h s t f e g small (scaled _ _ g square) quotient room in
    let whole : ((s + 5) * (h + g)) * (d * q) ≤ (1000000000000000000 * (f * (t + e))) * (d * q) = scaled _ _ (d * q) factor in
    cancel (n * p) ((f * (t + e)) * (d * q)) (joined _ _ _ _ _ _ (wide_product n p) product (four (s + 5) d (h + g) q) whole (wide_first (f * (t + e)) (d * q)))

pub wide_sum : (n p g q : ℕ) → (1000000000000000000 * n) * (1000000000000000000 * p + g * q) ≡ 1000000000000000000 * (1000000000000000000 * (n * p) + g * (n * q))
wide_sum n p g q = omega arith

pub cancel_both : (a b : ℕ) → 1000000000000000000 * a ≤ 1000000000000000000 * b → a ≤ b
cancel_both a b h = omega arith

below : (h s t p q n d f g : ℕ) → 1000000000000000000 * (f * t) ≤ h * s → s * d ≤ 1000000000000000000 * n → h * q ≤ 1000000000000000000 * p + g * q →
    (f * t) * (d * q) ≤ 1000000000000000000 * (n * p) + g * (n * q)
below h s t p q n d f g quotient low tail =
    let product : (s * d) * (h * q) ≤ (1000000000000000000 * n) * (1000000000000000000 * p + g * q) = mul-le _ _ _ _ low tail in
    let first : (1000000000000000000 * (f * t)) * (d * q) ≤ (h * s) * (d * q) = scaled _ _ (d * q) quotient in
    let turned : (h * s) * (d * q) ≡ (s * d) * (h * q) = omega arith in
    cancel_both _ _ (joined _ _ _ _ _ _ (wide_first (f * t) (d * q)) first turned product (wide_sum n p g q))

-- h in units of 10^-18 is within e units of a fraction of at most 1
pub record Close (h : ℕ) (f : Fraction) (e : ℕ) : Type 0 where
  pub positive : 0 < f.bottom
  pub proper : f.top ≤ f.bottom
  pub size : h ≤ 1000000000000000000
  pub above : h * f.bottom ≤ 1000000000000000000 * f.top + e * f.bottom
  pub below : 1000000000000000000 * f.top ≤ (h + e) * f.bottom

-- s in units of 10^-18 is at most n / d, and less than 5 units below it
pub record Square (s n d : ℕ) : Type 0 where
  pub positive : 0 < d
  pub proper : n ≤ d
  pub size : s + 5 ≤ 1000000000000000000
  pub low : s * d ≤ 1000000000000000000 * n
  pub high : 1000000000000000000 * n ≤ (s + 5) * d

-- what is subtracted is at most that from which it is
within_first : (d f q n p : ℕ) → 0 < f → n ≤ d → p ≤ q → n * p ≤ d * f * q
within_first d f q n p some small proper =
    let a : n * p ≤ d * q = mul-le n p d q small proper in
    let b : 1 * (d * q) ≤ f * (d * q) = scaled 1 f (d * q) (omega arith) in
    omega arith

parts_of : (u t b : ℕ) → u + t ≡ 1000000000000000000 → u * b + t * b ≡ 1000000000000000000 * b
parts_of u t b h = let whole : (u + t) * b ≡ 1000000000000000000 * b = ap (λ x. x * b) h in omega arith

-- u is what t leaves, v what a leaves of b
left_above : (u v t a b e : ℕ) → u * b + t * b ≡ 1000000000000000000 * b → v + a ≡ b → 1000000000000000000 * a ≤ t * b + e * b →
    u * b ≤ 1000000000000000000 * v + e * b
left_above u v t a b e whole rest high = omega arith

left_below : (u v t a b e : ℕ) → u * b + t * b ≡ 1000000000000000000 * b → v + a ≡ b → t * b ≤ 1000000000000000000 * a + e * b →
    1000000000000000000 * v ≤ (u + e) * b
left_below u v t a b e whole rest low = omega arith

-- the error of the rest counts less
less_error : (f e g n d q : ℕ) → f + 5 + g ≤ f * e → n ≤ d → g * (n * q) ≤ e * (d * f * q)
less_error f e g n d q room small =
    let first : n * q ≤ d * q = scaled n d q small in
    let whole : g * (n * q) ≤ (f * e) * (d * q) = mul-le g (n * q) (f * e) (d * q) (omega arith) first in
    omega arith

-- the quotient of a term is at most 1
small_quotient : (h s t f : ℕ) → h ≤ 1000000000000000000 → s + 5 ≤ 1000000000000000000 → 0 < f → 1000000000000000000 * (f * t) ≤ h * s →
    t ≤ 1000000000000000000
small_quotient h s t f small square some low =
    let first : h * s ≤ 1000000000000000000 * 1000000000000000000 = mul-le h s 1000000000000000000 1000000000000000000 small (omega arith) in
    let second : 1 * t ≤ f * t = scaled 1 f t (omega arith) in
    omega arith

turn_above : (f t d q x y : ℕ) → x ≤ y → (f * t) * (d * q) ≤ x → t * (d * f * q) ≤ y
turn_above f t d q x y small h = omega arith

turn_spread : (f t e d q x : ℕ) → x ≤ (f * (t + e)) * (d * q) → x ≤ t * (d * f * q) + e * (d * f * q)
turn_spread f t e d q x h = omega arith

pub add_less : (x y a b : ℕ) → x ≤ y + a → a ≤ b → x ≤ y + b
add_less x y a b h i = omega arith

add_error : (x a b : ℕ) → a ≤ b → x + a ≤ x + b
add_error x a b h = omega arith

left_of : (t : ℕ) → t ≤ 1000000000000000000 → (1000000000000000000 - t) + t ≡ 1000000000000000000
left_of t h = omega arith

left_of_first : (b a : ℕ) → a ≤ b → (b - a) + a ≡ b
left_of_first b a h = omega arith

left_at_most : (b a : ℕ) → b - a ≤ b
left_at_most b a = omega arith

pub positive_product : (a b : ℕ) → 0 < a → 0 < b → 0 < a * b
positive_product a b p q = let h : 1 * 1 ≤ a * b = mul-le 1 1 a b (omega arith) (omega arith) in omega arith

product_positive : (d f q : ℕ) → 0 < d → 0 < f → 0 < q → 0 < d * f * q
product_positive d f q p r s = positive_product (d * f) q (positive_product d f p r) s

factor_positive : (k : ℕ) → 0 < k → 0 < k * (k + 1)
factor_positive k h = positive_product k (k + 1) h (omega arith)

-- the quotient of a term
quotient_low : (x f : ℕ) → 0 < f → 1000000000000000000 * (f * (x / (1000000000000000000 * f))) ≤ x
quotient_low x f some = omega arith

quotient_high : (x f : ℕ) → 0 < f → x < 1000000000000000000 * (f * (x / (1000000000000000000 * f))) + 1000000000000000000 * f
quotient_high x f some = omega arith

quotient_above : (x f : ℕ) → 0 < f → x < f * (x / f) + f
quotient_above x f some = omega arith

room_by : (f g q : ℕ) → g + 5 < f * q + f → f + 5 + g ≤ f * (q + 2)
room_by f g q h = omega arith

first_close : (f : Fraction) → 0 < f.bottom → f.top ≤ f.bottom → Close 1000000000000000000 f 1000000000000000000
first_close f positive proper = record { positive = positive; proper = proper; size = omega arith; above = omega arith; below = omega arith }

next_by : (h s t n d f e g : ℕ) (r : Fraction) → 0 < f → f + 5 + g ≤ f * e → Square s n d → Close h r g →
    1000000000000000000 * (f * t) ≤ h * s → h * s < 1000000000000000000 * (f * t) + 1000000000000000000 * f →
    Close (1000000000000000000 - t) (record { top = d * f * r.bottom - n * r.top; bottom = d * f * r.bottom }) e
next_by h s t n d f e g r some room square close low high =
    let p : ℕ = r.top in
    let q : ℕ = r.bottom in
    let b : ℕ = d * f * q in
    let small : t ≤ 1000000000000000000 = small_quotient h s t f close.size square.size some low in
    let within : n * p ≤ b = within_first d f q n p some square.proper close.proper in
    let more : 1000000000000000000 * (n * p) ≤ t * b + e * b =
    turn_spread f t e d q _ (above h s t p q n d f e g close.size square.size high room close.below square.high) in
    let less : t * b ≤ 1000000000000000000 * (n * p) + e * b =
    turn_above f t d q _ _ (add_error _ _ _ (less_error f e g n d q room square.proper)) (below h s t p q n d f g low square.low close.above) in
    let whole : (1000000000000000000 - t) * b + t * b ≡ 1000000000000000000 * b = parts_of (1000000000000000000 - t) t b (left_of t small) in
    let rest : (b - n * p) + n * p ≡ b = left_of_first b (n * p) within in
    record {
      positive = product_positive d f q square.positive some close.positive;
      proper = left_at_most b (n * p);
      size = left_at_most 1000000000000000000 t;
      above = left_above (1000000000000000000 - t) (b - n * p) t (n * p) b e whole rest more;
      below = left_below (1000000000000000000 - t) (b - n * p) t (n * p) b e whole rest less;
    }

next : (h s n d f e g : ℕ) (r : Fraction) → 0 < f → f + 5 + g ≤ f * e → Square s n d → Close h r g →
    Close (term f s h) (record { top = d * f * r.bottom - n * r.top; bottom = d * f * r.bottom }) e
next h s n d f e g r some room square close =
    let t : ℕ = h * s / (1000000000000000000 * f) in
    next_by h s t n d f e g r some room square close (quotient_low (h * s) f some) (quotient_high (h * s) f some)

-- the error after this number of terms, of which the rest is any number up to 1
abbrev pub error_of : ℕ → ℕ → ℕ
error_of zero k = 1000000000000000000
error_of (suc count) k = (error_of count (k + 2) + 5) / (k * (k + 1)) + 2

room_for : (f g : ℕ) → 0 < f → f + 5 + g ≤ f * ((g + 5) / f + 2)
room_for f g some =
    let q : ℕ = (g + 5) / f in
    room_by f g q (quotient_above (g + 5) f some)

-- terms are at most 1
terms_proper : (m k n d : ℕ) → 0 < k → 0 < d → n ≤ d → (0 < (terms m k n d).bottom) × ((terms m k n d).top ≤ (terms m k n d).bottom)
terms_proper zero k n d some positive small = (omega arith, omega arith)
terms_proper (suc m) k n d some positive small =
    let rest = terms_proper m (k + 2) n d (omega arith) positive small in
    (product_positive d (k * (k + 1)) _ positive (factor_positive k some) rest.0, left_at_most _ _)

pub close_terms : (i m k n d s : ℕ) → i ≤ m → 0 < k → Square s n d → Close (series i k s) (terms m k n d) (error_of i k)
close_terms zero m k n d s long some square =
    let rest = terms_proper m k n d some square.positive square.proper in
    first_close (terms m k n d) rest.0 rest.1
close_terms (suc i) zero k n d s long some square = absurd (omega arith)
close_terms (suc i) (suc m) k n d s long some square =
    next (series i (k + 2) s) s n d (k * (k + 1)) (error_of (suc i) k) (error_of i (k + 2)) (terms m (k + 2) n d)
    (factor_positive k some) (room_for (k * (k + 1)) (error_of i (k + 2)) (factor_positive k some)) square
    (close_terms i m (k + 2) n d s (omega arith) (omega arith) square)
