-- Products of signed numbers: sums multiply out.
use Rattle.std.proofs.Common.{◌≡◌, ℕ, suc, ◌+◌, ◌*◌, ℤ, pos, negsuc, ◌+ℤ◌, ◌-ℤ◌, ◌*ℤ◌, arith, ap, sym, ◌∙◌}
use Rattle.std.proofs.lemmas.Int.{ints}
use Rattle.std.proofs.Math.IntN.{pos-*ℤ-negsuc, negsuc-*ℤ-pos, negsuc-*ℤ-negsuc}

-- a number is the difference of these two
abbrev up : ℤ → ℕ
up (pos n) = n
up (negsuc n) = 0

abbrev down : ℤ → ℕ
down (pos n) = 0
down (negsuc n) = suc n

parts : (z : ℤ) → z +ℤ pos (down z) ≡ pos (up z)
parts (pos n) = omega (arith, ints)
parts (negsuc n) = omega (arith, ints)

-- the product of two differences, m - n and k - l
of_parts : (x y : ℤ) (m n k l : ℕ) → x +ℤ pos n ≡ pos m → y +ℤ pos l ≡ pos k → (x *ℤ y) +ℤ pos (m * l + n * k) ≡ pos (m * k + n * l)
of_parts (pos i) (pos j) m n k l e f =
    let me : m ≡ i + n = omega (arith, ints) in
    let ke : k ≡ j + l = omega (arith, ints) in
    rw (me, ke) (omega (arith, ints))
of_parts (pos i) (negsuc j) m n k l e f =
    let me : m ≡ i + n = omega (arith, ints) in
    let le : l ≡ k + suc j = omega (arith, ints) in
    rw (me, le) (omega (arith, ints, pos-*ℤ-negsuc i j))
of_parts (negsuc i) (pos j) m n k l e f =
    let ne : n ≡ m + suc i = omega (arith, ints) in
    let ke : k ≡ j + l = omega (arith, ints) in
    rw (ne, ke) (omega (arith, ints, negsuc-*ℤ-pos i j))
of_parts (negsuc i) (negsuc j) m n k l e f =
    let ne : n ≡ m + suc i = omega (arith, ints) in
    let le : l ≡ k + suc j = omega (arith, ints) in
    rw (ne, le) (omega (arith, ints, negsuc-*ℤ-negsuc i j))

pub times_sum : (x y z : ℤ) → x *ℤ (y +ℤ z) ≡ (x *ℤ y) +ℤ (x *ℤ z)
times_sum x y z =
    let xs = parts x in let ys = parts y in let zs = parts z in
    let sum = of_parts x (y +ℤ z) (up x) (down x) (up y + up z) (down y + down z) xs (omega (arith, ints)) in
    let first = of_parts x y (up x) (down x) (up y) (down y) xs ys in
    let second = of_parts x z (up x) (down x) (up z) (down z) xs zs in
    omega (arith, ints, sum, first, second)

pub sum_times : (x y z : ℤ) → (x +ℤ y) *ℤ z ≡ (x *ℤ z) +ℤ (y *ℤ z)
sum_times x y z =
    let xs = parts x in let ys = parts y in let zs = parts z in
    let sum = of_parts (x +ℤ y) z (up x + up y) (down x + down y) (up z) (down z) (omega (arith, ints)) zs in
    let first = of_parts x z (up x) (down x) (up z) (down z) xs zs in
    let second = of_parts y z (up y) (down y) (up z) (down z) ys zs in
    omega (arith, ints, sum, first, second)

-- the first two factors change places
pub swapped : (x y z : ℤ) → x *ℤ (y *ℤ z) ≡ y *ℤ (x *ℤ z)
swapped x y z =
    let xs = parts x in let ys = parts y in let zs = parts z in
    let yz = of_parts y z (up y) (down y) (up z) (down z) ys zs in
    let xz = of_parts x z (up x) (down x) (up z) (down z) xs zs in
    let left = of_parts x (y *ℤ z) (up x) (down x) (up y * up z + down y * down z) (up y * down z + down y * up z) xs yz in
    let right = of_parts y (x *ℤ z) (up y) (down y) (up x * up z + down x * down z) (up x * down z + down x * up z) ys xz in
    omega (arith, ints, left, right)

pub grouped : (x y z : ℤ) → x *ℤ (y *ℤ z) ≡ (x *ℤ y) *ℤ z
grouped x y z =
    let xs = parts x in let ys = parts y in let zs = parts z in
    let yz = of_parts y z (up y) (down y) (up z) (down z) ys zs in
    let xy = of_parts x y (up x) (down x) (up y) (down y) xs ys in
    let left = of_parts x (y *ℤ z) (up x) (down x) (up y * up z + down y * down z) (up y * down z + down y * up z) xs yz in
    let right = of_parts (x *ℤ y) z (up x * up y + down x * down y) (up x * down y + down x * up y) (up z) (down z) xy zs in
    omega (arith, ints, left, right)

pub times_difference : (x y z : ℤ) → x *ℤ (y -ℤ z) ≡ (x *ℤ y) -ℤ (x *ℤ z)
times_difference x y z =
    let s = times_sum x (y -ℤ z) z in
    let e : x *ℤ ((y -ℤ z) +ℤ z) ≡ x *ℤ y = ap (λ t. x *ℤ t) (omega (arith, ints)) in
    omega (arith, ints, s, e)
