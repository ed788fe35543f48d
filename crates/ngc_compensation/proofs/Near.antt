-- A rounded vector has its length to 1 nm, and its direction to 1 nm.
use Rattle.std.proofs.Common.{◌≡◌, ℕ, zero, suc, ◌+◌, ◌-◌, ◌*◌, ◌/◌, ◌^◌, ◌≤◌, ◌<◌, ℤ, pos, negsuc, ◌+ℤ◌, ◌-ℤ◌, ◌*ℤ◌, neg_ℤ, unsigned_abs, arith, ap, ◌∙◌, refl, inl, inr}
use Rattle.std.proofs.lemmas.Bool.{cases_lt}
use Rattle.std.proofs.lemmas.Int.{ints}
use Rattle.std.proofs.lemmas.Nat.{mul-le, div-add-mod', mod_below}
use Rattle.std.proofs.Math.IntN.{pos-*ℤ-negsuc, negsuc-*ℤ-pos, negsuc-*ℤ-negsuc}
use Rattle.ngc_fixed_length.specs.Roots.{whole_root}
use Rattle.ngc_fixed_length.specs.declared.points.Point2.{Point2}
use Rattle.ngc_fixed_length.proofs.RootLaws.{whole_root-greatest}
use Rattle.ngc_compensation.specs.Sides.{norm}
use Rattle.ngc_compensation.specs.Offsets.{part_size, with_sign, scaled}
use Rattle.ngc_compensation.specs.Laws.{IsAlong, OffsetsAreNear}
use Rattle.ngc_compensation.proofs.Parts.{quotient_small, quotient_within, part_within}

-- ---- one coordinate

-- k is the whole number nearest to the root of t t / s, half of it: by squares
record IsHalf (k t s : ℕ) : Type 0 where
  below : (j : ℕ) → k ≡ suc j → (2 * j + 1) * (2 * j + 1) * s ≤ t * t
  above : t * t < (2 * k + 1) * (2 * k + 1) * s

times_more : (a b s : ℕ) → a ≤ b → a * s ≤ b * s
times_more a b s h = mul-le a s b s h (omega arith)

half_below : (q r j t s : ℕ) → q * s ≤ t * t → r * r ≤ q → 2 * j + 1 ≤ r → (2 * j + 1) * (2 * j + 1) * s ≤ t * t
half_below q r j t s whole root less =
    let a = mul-le (2 * j + 1) (2 * j + 1) r r less less in
    let b = times_more ((2 * j + 1) * (2 * j + 1)) q s (omega (arith, a)) in
    omega (arith, b)

half_above : (q r k t s : ℕ) → t * t < (q + 1) * s → q < (r + 1) * (r + 1) → r + 1 ≤ 2 * k + 1 → t * t < (2 * k + 1) * (2 * k + 1) * s
half_above q r k t s whole root less =
    let a = mul-le (r + 1) (r + 1) (2 * k + 1) (2 * k + 1) less less in
    let b = times_more (q + 1) ((2 * k + 1) * (2 * k + 1)) s (omega (arith, a)) in
    omega (arith, b)

is_half : (t s : ℕ) → 0 < s → t * t / s ≤ 10 ^ 38 → IsHalf ((whole_root (t * t / s) + 1) / 2) t s
is_half t s some small =
    let q = t * t / s in
    let r = whole_root q in
    let root = whole_root-greatest q (omega arith) in
    let whole = div-add-mod' (t * t) s in
    let rest = mod_below (t * t) s some in
    record {
      below = λ j e. half_below q r j t s (omega (arith, whole)) root.square (omega (arith, e));
      above = half_above q r ((r + 1) / 2) t s (omega (arith, whole, rest)) root.greatest (omega arith);
    }

-- ---- two coordinates, by their sizes a and b

-- 4 k k s is at most t t and a little more
upper : (k t s : ℕ) → IsHalf k t s → 4 * (k * k) * s ≤ t * t + 4 * k * s
upper zero t s h = omega arith
upper (suc j) t s h = let p = h.below j refl in omega (arith, p)

cancelled : (x y s : ℕ) → 0 < s → x * s ≤ y * s → x ≤ y
cancelled x y s some h =
    elim (cases_lt y x) [
      | inl more ↦ (let p = times_more (y + 1) x s (omega arith) in absurd (omega arith))
      | inr less ↦ less
    ]

cancelled_less : (x y s : ℕ) → x * s < y * s → x < y
cancelled_less x y s h =
    elim (cases_lt x y) [
      | inl more ↦ more
      | inr less ↦ (let p = times_more y x s less in absurd (omega arith))
    ]

-- the square of the length
squares_sum : (n a b s : ℕ) → s ≡ a * a + b * b → (2 * n * a) * (2 * n * a) + (2 * n * b) * (2 * n * b) ≡ 4 * (n * n) * s
squares_sum n a b s e = rw e (omega arith)

not_long : (n a b s k l : ℕ) → s ≡ a * a + b * b → 0 < s → IsHalf k (2 * n * a) s → IsHalf l (2 * n * b) s → k ≤ n → l ≤ n → k * k + l * l ≤ (n + 1) * (n + 1)
not_long n a b s k l e some h g kn ln =
    let sum = squares_sum n a b s e in
    let p = upper k (2 * n * a) s h in
    let q = upper l (2 * n * b) s g in
    let all = cancelled (4 * (k * k) + 4 * (l * l)) (4 * (n * n) + 4 * k + 4 * l) s some (omega (arith, sum, p, q)) in
    omega (arith, all)

short_by_suc : (m k l : ℕ) → 4 * (suc m * suc m) < (2 * k + 1) * (2 * k + 1) + (2 * l + 1) * (2 * l + 1) → k ≤ suc m → l ≤ suc m → m * m ≤ k * k + l * l
short_by_suc m k l h kn ln =
    elim (cases_lt (k + l) (2 * suc m)) [
      | inl more ↦ omega (arith, h)
      | inr less ↦ (let p = mul-le m m k k (omega arith) (omega arith) in omega (arith, p))
    ]

short_by : (n k l : ℕ) → 4 * (n * n) < (2 * k + 1) * (2 * k + 1) + (2 * l + 1) * (2 * l + 1) → k ≤ n → l ≤ n → (n - 1) * (n - 1) ≤ k * k + l * l
short_by zero k l h kn ln = omega arith
short_by (suc m) k l h kn ln =
    let e : suc m - 1 ≡ m = omega arith in
    rw e (short_by_suc m k l h kn ln)

not_short : (n a b s k l : ℕ) → s ≡ a * a + b * b → IsHalf k (2 * n * a) s → IsHalf l (2 * n * b) s → k ≤ n → l ≤ n → (n - 1) * (n - 1) ≤ k * k + l * l
not_short n a b s k l e h g kn ln =
    let sum = squares_sum n a b s e in
    let p = h.above in
    let q = g.above in
    let all = cancelled_less (4 * (n * n)) ((2 * k + 1) * (2 * k + 1) + (2 * l + 1) * (2 * l + 1)) s (omega (arith, sum, p, q)) in
    short_by n k l all kn ln

-- the distance from the line
from_squares : (a b : ℕ) → a * a ≤ b * b → a ≤ b
from_squares a b h =
    elim (cases_lt b a) [
      | inl more ↦ (let p : (b + 1) * (b + 1) ≤ a * a = mul-le (b + 1) (b + 1) a a (omega arith) (omega arith) in absurd (omega arith))
      | inr less ↦ less
    ]

aside_by : (n a b s j l : ℕ) → 0 < s → (2 * j + 1) * (2 * j + 1) * s ≤ (2 * n * a) * (2 * n * a) → (2 * n * b) * (2 * n * b) < (2 * l + 1) * (2 * l + 1) * s → (2 * j + 1) * b ≤ (2 * l + 1) * a
aside_by n a b s j l some h g =
    let x = times_more ((2 * j + 1) * (2 * j + 1) * s) ((2 * n * a) * (2 * n * a)) (b * b) h in
    let y = times_more ((2 * n * b) * (2 * n * b)) ((2 * l + 1) * (2 * l + 1) * s) (a * a) (omega (arith, g)) in
    let all = cancelled (((2 * j + 1) * b) * ((2 * j + 1) * b)) (((2 * l + 1) * a) * ((2 * l + 1) * a)) s some (omega (arith, x, y)) in
    from_squares ((2 * j + 1) * b) ((2 * l + 1) * a) all

aside : (n a b s k l : ℕ) → 0 < s → IsHalf k (2 * n * a) s → IsHalf l (2 * n * b) s → 2 * (k * b) ≤ 2 * (l * a) + (a + b)
aside n a b s zero l some h g = omega arith
aside n a b s (suc j) l some h g =
    let p = aside_by n a b s j l some (h.below j refl) g.above in
    omega (arith, p)

-- ---- signs

minus_times : (l a : ℕ) → neg_ℤ (pos l) *ℤ pos a ≡ neg_ℤ (pos (l * a))
minus_times zero a = let e : 0 * a ≡ 0 = omega arith in rw e refl
minus_times (suc l) a = negsuc-*ℤ-pos l a

minus_times_minus : (l a : ℕ) → neg_ℤ (pos l) *ℤ negsuc a ≡ pos (l * suc a)
minus_times_minus zero a = let e : 0 * suc a ≡ 0 = omega arith in rw e refl
minus_times_minus (suc l) a = negsuc-*ℤ-negsuc l a

minus_is : (n : ℕ) → neg_ℤ (pos n) ≡ pos 0 -ℤ pos n
minus_is zero = refl
minus_is (suc n) = omega (arith, ints)

sign_size : (x : ℤ) (k : ℕ) → unsigned_abs (with_sign x k) ≡ k
sign_size (pos a) k = refl
sign_size (negsuc a) k = let e = minus_is k in rw e (omega (arith, ints))

along_sign : (x : ℤ) (k : ℕ) → with_sign x k *ℤ x ≡ pos (k * unsigned_abs x)
along_sign (pos a) k = refl
along_sign (negsuc a) k = minus_times_minus k a

apart_by : (p q c : ℕ) → 2 * p ≤ 2 * q + c → 2 * q ≤ 2 * p + c → 2 * unsigned_abs (pos p -ℤ pos q) ≤ c
apart_by p q c h g = omega (arith, ints)

apart_below : (p q c : ℕ) → 2 * p ≤ 2 * q + c → 2 * q ≤ 2 * p + c → 2 * unsigned_abs (neg_ℤ (pos p) -ℤ neg_ℤ (pos q)) ≤ c
apart_below p q c h g = let e = minus_is p in let f = minus_is q in rw (e, f) (omega (arith, ints))

across : (x y : ℤ) (k l : ℕ) → 2 * (k * unsigned_abs y) ≤ 2 * (l * unsigned_abs x) + (unsigned_abs x + unsigned_abs y) → 2 * (l * unsigned_abs x) ≤ 2 * (k * unsigned_abs y) + (unsigned_abs x + unsigned_abs y) →
    2 * unsigned_abs ((with_sign x k *ℤ y) -ℤ (with_sign y l *ℤ x)) ≤ unsigned_abs x + unsigned_abs y
across (pos a) (pos b) k l h g = apart_by (k * b) (l * a) (a + b) h g
across (pos a) (negsuc b) k l h g =
    let e = pos-*ℤ-negsuc k b in
    let f = minus_times l a in
    rw (e, f) (apart_below (k * suc b) (l * a) (a + suc b) h g)
across (negsuc a) (pos b) k l h g =
    let e = minus_times k b in
    let f = pos-*ℤ-negsuc l a in
    rw (e, f) (apart_below (k * b) (l * suc a) (suc a + b) h g)
across (negsuc a) (negsuc b) k l h g =
    let e = minus_times_minus k b in
    let f = minus_times_minus l a in
    rw (e, f) (apart_by (k * suc b) (l * suc a) (suc a + suc b) h g)

-- ---- the law

square_sum : (x y : ℤ) → unsigned_abs ((x *ℤ x) +ℤ (y *ℤ y)) ≡ unsigned_abs x * unsigned_abs x + unsigned_abs y * unsigned_abs y
square_sum (pos a) (pos b) = refl
square_sum (pos a) (negsuc b) = refl
square_sum (negsuc a) (pos b) = refl
square_sum (negsuc a) (negsuc b) = refl

double_product : (x y : ℕ) → 2 * (x * y) ≤ x * x + y * y
double_product x y =
    elim (cases_lt x y) [
      | inl more ↦ (let d = y - x in let e : y ≡ x + d = omega arith in rw e (omega arith))
      | inr less ↦ (let d = x - y in let e : x ≡ y + d = omega arith in rw e (omega arith))
    ]

near_line : (c a b : ℕ) → 2 * c ≤ a + b → c * c ≤ a * a + b * b
near_line c a b h =
    let p = mul-le (2 * c) (2 * c) (a + b) (a + b) h h in
    let q = double_product a b in
    omega (arith, p, q)

-- both coordinates of a rounded vector
record AreHalves (n a b s k l : ℕ) : Type 0 where
  first : IsHalf k (2 * n * a) s
  second : IsHalf l (2 * n * b) s
  first_within : k ≤ n
  second_within : l ≤ n

part_is : (n a s : ℕ) → n ≤ 500000000 → 0 < s → a * a ≤ s → IsHalf (part_size n a s) (2 * n * a) s
part_is n a s small some within = is_half (2 * n * a) s some (quotient_small n a s (2 * n * a) small refl within)

part_less : (n a s : ℕ) → n ≤ 500000000 → a * a ≤ s → part_size n a s ≤ n
part_less n a s small within =
    let q = (2 * n * a) * (2 * n * a) / s in
    let least = quotient_small n a s (2 * n * a) small refl within in
    let root = whole_root-greatest q (omega (arith, least)) in
    part_within n (whole_root q) q root.square (quotient_within n a s (2 * n * a) refl within)

along_by : (n : ℕ) (d : Point2) (k l : ℕ) → 0 < norm d → AreHalves n (unsigned_abs d.u) (unsigned_abs d.v) (norm d) k l → IsAlong n d (record { u = with_sign d.u k; v = with_sign d.v l })
along_by n d k l some h =
    let a = unsigned_abs d.u in
    let b = unsigned_abs d.v in
    let e : norm d ≡ a * a + b * b = square_sum d.u d.v in
    let u = sign_size d.u k in
    let v = sign_size d.v l in
    let size : norm (record { u = with_sign d.u k; v = with_sign d.v l }) ≡ k * k + l * l = square_sum (with_sign d.u k) (with_sign d.v l) ∙ (ap (λ x. x * x + unsigned_abs (with_sign d.v l) * unsigned_abs (with_sign d.v l)) u ∙ ap (λ y. k * k + y * y) v) in
    let one = aside n a b (norm d) k l some h.first h.second in
    let other = aside n b a (norm d) l k some h.second h.first in
    let near = across d.u d.v k l one (omega (arith, other)) in
    let line = near_line (unsigned_abs ((with_sign d.u k *ℤ d.v) -ℤ (with_sign d.v l *ℤ d.u))) a b near in
    let p = along_sign d.u k in
    let q = along_sign d.v l in
    record {
      long = rw size (not_short n a b (norm d) k l e h.first h.second h.first_within h.second_within);
      short = rw size (not_long n a b (norm d) k l e some h.first h.second h.first_within h.second_within);
      near = omega (arith, line, e);
      ahead = omega (arith, ints, p, q);
    }

pub offsets_are_near : OffsetsAreNear
unfolding scaled
offsets_are_near n d small within some =
    let a = unsigned_abs d.u in
    let b = unsigned_abs d.v in
    let e : norm d ≡ a * a + b * b = square_sum d.u d.v in
    let ea : a * a ≤ norm d = omega (arith, e) in
    let eb : b * b ≤ norm d = omega (arith, e) in
    along_by n d (part_size n a (norm d)) (part_size n b (norm d)) some (record {
      first = part_is n a (norm d) small some ea;
      second = part_is n b (norm d) small some eb;
      first_within = part_less n a (norm d) small ea;
      second_within = part_less n b (norm d) small eb;
    })
