-- Products of signed numbers: sums multiply out.
use Rattle.std.proofs.Common.{◌≡◌, ℕ, suc, ◌+◌, ◌*◌, ◌/◌, ◌^◌, ◌≤◌, ◌<◌, to_z, of_z, ℤ, pos, negsuc, ◌+ℤ◌, ◌-ℤ◌, ◌*ℤ◌, unsigned_abs, refl, arith}
use Rattle.std.specs.Int.{w128, int_div_euclid}
use Rattle.std.proofs.lemmas.Int.{ints}
use Rattle.std.proofs.lemmas.Nat.{mul-le, div-add-mod'}
use Rattle.std.proofs.Math.IntN.{pos-*ℤ-negsuc, negsuc-*ℤ-pos, negsuc-*ℤ-negsuc}

-- a number is the difference of these two
abbrev up : ℤ → ℕ
up (pos n) = n
up (negsuc n) = 0

abbrev down : ℤ → ℕ
down (pos n) = 0
down (negsuc n) = suc n

parts : (z : ℤ) → z +ℤ pos (down z) ≡ pos (up z)
parts (pos n) = omega (arith, ints)
parts (negsuc n) = omega (arith, ints)

-- the product of two differences, m - n and k - l
of_parts : (x y : ℤ) (m n k l : ℕ) → x +ℤ pos n ≡ pos m → y +ℤ pos l ≡ pos k → (x *ℤ y) +ℤ pos (m * l + n * k) ≡ pos (m * k + n * l)
of_parts (pos i) (pos j) m n k l e f =
    let me : m ≡ i + n = omega (arith, ints) in
    let ke : k ≡ j + l = omega (arith, ints) in
    rw (me, ke) (omega (arith, ints))
of_parts (pos i) (negsuc j) m n k l e f =
    let me : m ≡ i + n = omega (arith, ints) in
    let le : l ≡ k + suc j = omega (arith, ints) in
    rw (me, le) (omega (arith, ints, pos-*ℤ-negsuc i j))
of_parts (negsuc i) (pos j) m n k l e f =
    let ne : n ≡ m + suc i = omega (arith, ints) in
    let ke : k ≡ j + l = omega (arith, ints) in
    rw (ne, ke) (omega (arith, ints, negsuc-*ℤ-pos i j))
of_parts (negsuc i) (negsuc j) m n k l e f =
    let ne : n ≡ m + suc i = omega (arith, ints) in
    let le : l ≡ k + suc j = omega (arith, ints) in
    rw (ne, le) (omega (arith, ints, negsuc-*ℤ-negsuc i j))

pub times_sum : (x y z : ℤ) → x *ℤ (y +ℤ z) ≡ (x *ℤ y) +ℤ (x *ℤ z)
times_sum x y z =
    let xs = parts x in let ys = parts y in let zs = parts z in
    let sum = of_parts x (y +ℤ z) (up x) (down x) (up y + up z) (down y + down z) xs (omega (arith, ints)) in
    let first = of_parts x y (up x) (down x) (up y) (down y) xs ys in
    let second = of_parts x z (up x) (down x) (up z) (down z) xs zs in
    omega (arith, ints, sum, first, second)

pub sum_times : (x y z : ℤ) → (x +ℤ y) *ℤ z ≡ (x *ℤ z) +ℤ (y *ℤ z)
sum_times x y z =
    let xs = parts x in let ys = parts y in let zs = parts z in
    let sum = of_parts (x +ℤ y) z (up x + up y) (down x + down y) (up z) (down z) (omega (arith, ints)) zs in
    let first = of_parts x z (up x) (down x) (up z) (down z) xs zs in
    let second = of_parts y z (up y) (down y) (up z) (down z) ys zs in
    omega (arith, ints, sum, first, second)

-- the first two factors change places
pub swapped : (x y z : ℤ) → x *ℤ (y *ℤ z) ≡ y *ℤ (x *ℤ z)
swapped x y z =
    let xs = parts x in let ys = parts y in let zs = parts z in
    let yz = of_parts y z (up y) (down y) (up z) (down z) ys zs in
    let xz = of_parts x z (up x) (down x) (up z) (down z) xs zs in
    let left = of_parts x (y *ℤ z) (up x) (down x) (up y * up z + down y * down z) (up y * down z + down y * up z) xs yz in
    let right = of_parts y (x *ℤ z) (up y) (down y) (up x * up z + down x * down z) (up x * down z + down x * up z) ys xz in
    omega (arith, ints, left, right)

pub grouped : (x y z : ℤ) → x *ℤ (y *ℤ z) ≡ (x *ℤ y) *ℤ z
grouped x y z =
    let xs = parts x in let ys = parts y in let zs = parts z in
    let yz = of_parts y z (up y) (down y) (up z) (down z) ys zs in
    let xy = of_parts x y (up x) (down x) (up y) (down y) xs ys in
    let left = of_parts x (y *ℤ z) (up x) (down x) (up y * up z + down y * down z) (up y * down z + down y * up z) xs yz in
    let right = of_parts (x *ℤ y) z (up x * up y + down x * down y) (up x * down y + down x * up y) (up z) (down z) xy zs in
    omega (arith, ints, left, right)

-- the square of a difference
pub square_of : (x y : ℤ) → ((x -ℤ y) *ℤ (x -ℤ y)) +ℤ ((x *ℤ y) +ℤ (x *ℤ y)) ≡ (x *ℤ x) +ℤ (y *ℤ y)
square_of x y =
    let xs = parts x in let ys = parts y in
    let diff : (x -ℤ y) +ℤ pos (down x + up y) ≡ pos (up x + down y) = omega (arith, ints) in
    let whole = of_parts (x -ℤ y) (x -ℤ y) (up x + down y) (down x + up y) (up x + down y) (down x + up y) diff diff in
    let xy = of_parts x y (up x) (down x) (up y) (down y) xs ys in
    let xx = of_parts x x (up x) (down x) (up x) (down x) xs xs in
    let yy = of_parts y y (up y) (down y) (up y) (down y) ys ys in
    omega (arith, ints, whole, xy, xx, yy)

-- a square is that of the size
pub size_square : (x : ℤ) → pos (unsigned_abs x * unsigned_abs x) ≡ x *ℤ x
size_square (pos n) = refl
size_square (negsuc n) = refl

-- ---- quotients

quotient_size : (a m : ℕ) → 0 < m → a / m ≤ a
quotient_size a m some =
    let whole = div-add-mod' a m in
    let p : a / m * 1 ≤ a / m * m = mul-le (a / m) 1 (a / m) m (omega arith) some in
    omega arith

pub quotient_within : (x : ℤ) (m n : ℕ) → 0 < m → unsigned_abs x ≤ n → unsigned_abs (int_div_euclid x (pos m)) ≤ n + 1
quotient_within (pos a) m n some small = let q = quotient_size a m some in omega (arith, ints)
quotient_within (negsuc a) m n some small = let q = quotient_size a m some in omega (arith, ints)

pub quotient_kept : (q : ℤ) → unsigned_abs q ≤ 9 * 10 ^ 33 + 1 → to_z w128 (of_z w128 q) ≡ q
quotient_kept q small = omega (arith, ints)

pub dividend_kept : (p : ℤ) (n : ℕ) → unsigned_abs p ≤ 8 * 10 ^ 33 → n ≤ 80000000000000000000000 → to_z w128 (of_z w128 (to_z w128 (of_z w128 p) +ℤ to_z w128 n)) ≡ p +ℤ pos n
dividend_kept p n small less = omega (arith, ints)

pub dividend_within : (p : ℤ) (n : ℕ) → unsigned_abs p ≤ 8 * 10 ^ 33 → n ≤ 80000000000000000000000 → unsigned_abs (p +ℤ pos n) ≤ 9 * 10 ^ 33
dividend_within p n small less = omega (arith, ints)

pub divisor_kept : (n : ℕ) → n ≤ 80000000000000000000000 → to_z w128 (of_z w128 (pos 2 *ℤ to_z w128 n)) ≡ pos (2 * n)
divisor_kept n less = omega (arith, ints)

-- ---- differences of squares

pub difference_kept : (m n : ℕ) → m ≤ 8 * 10 ^ 22 → n ≤ 8 * 10 ^ 22 → to_z w128 (of_z w128 (to_z w128 m -ℤ to_z w128 n)) ≡ pos m -ℤ pos n
difference_kept m n less small = omega (arith, ints)

pub difference_within : (m n : ℕ) → m ≤ 8 * 10 ^ 22 → n ≤ 8 * 10 ^ 22 → unsigned_abs (pos m -ℤ pos n) ≤ 8 * 10 ^ 22
difference_within m n less small = omega (arith, ints)
