-- The points near a stretch: by cases, and that they are convex.
use Rattle.std.proofs.Common.{◌≡◌, ℕ, zero, suc, ◌+◌, ◌*◌, ◌<◌, ◌≤◌, ℤ, pos, ◌+ℤ◌, ◌-ℤ◌, ◌*ℤ◌, ◌≤ℤ◌, ◌<ℤ◌, ◌⊎◌, unsigned_abs, inl, inr, refl, sym, ◌∙◌, ap, ap₂, subst, arith, [], ◌∷◌}
use Rattle.std.proofs.Math.Nat.{mul-le-mul_left}
use Rattle.std.proofs.lemmas.Bool.{cases_lt}
use Rattle.std.proofs.lemmas.Int.{ints, by_lt_z}
use Rattle.ngc_cells.proofs.Ring.{Term, V, S, P, ring}
use Rattle.ngc_cells.proofs.Vectors.{Q, L, natural, product_least, square_least, times_most, times_out, sum_most, same_signs}
use Rattle.ngc_cells.specs.declared.stretch.Spot.{Spot}
use Rattle.ngc_cells.specs.declared.stretch.Stretch.{Stretch}
use Rattle.ngc_cells.specs.Stretches.{square, IsAround, IsNear, IsBeside, spot}

-- d is the line's vector, w that from its start to a point
abbrev short : ℤ → ℤ → ℤ → ℤ → ℤ
short n k d w = (n *ℤ w) -ℤ (k *ℤ d)

abbrev Short : Term → Term → Term → Term → Term
Short n k d w = L (P n w) (P k d)

abbrev off : ℤ → ℤ → ℤ → ℤ → ℤ → ℤ → ℤ
off n k dx dy wx wy = square (short n k dx wx) +ℤ square (short n k dy wy)

abbrev Off : Term → Term → Term
Off n k = S (Q (Short n k (V 4) (V 6))) (Q (Short n k (V 5) (V 7)))

abbrev across : ℤ → ℤ → ℤ → ℤ → ℤ → ℤ → ℤ
across n k dx dy wx wy = (dx *ℤ short n k dx wx) +ℤ (dy *ℤ short n k dy wy)

abbrev Across : Term
Across = S (P (V 4) (Short (V 0) (V 1) (V 4) (V 6))) (P (V 5) (Short (V 0) (V 1) (V 5) (V 7)))

abbrev long : ℤ → ℤ → ℤ
long dx dy = square dx +ℤ square dy

abbrev Long : Term
Long = S (Q (V 4)) (Q (V 5))

-- the squares of the distances from two points of the line
apart : (n k m j dx dy wx wy : ℤ) → (n *ℤ n) *ℤ off m j dx dy wx wy ≡
    ((m *ℤ m) *ℤ off n k dx dy wx wy) +ℤ
    ((long dx dy *ℤ square ((m *ℤ k) -ℤ (n *ℤ j))) +ℤ ((m +ℤ m) *ℤ (((m *ℤ k) -ℤ (n *ℤ j)) *ℤ across n k dx dy wx wy)))
apart n k m j dx dy wx wy = ring (n ∷ k ∷ m ∷ j ∷ dx ∷ dy ∷ wx ∷ wy ∷ [])
    (P (Q (V 0)) (Off (V 2) (V 3)))
    (S (P (Q (V 2)) (Off (V 0) (V 1)))
    (S (P Long (Q (L (P (V 2) (V 1)) (P (V 0) (V 3))))) (P (S (V 2) (V 2)) (P (L (P (V 2) (V 1)) (P (V 0) (V 3))) Across)))) refl

-- the distance from a point of the line, by that from the line
shared : (m j dx dy wx wy : ℤ) → long dx dy *ℤ off m j dx dy wx wy ≡
    ((m *ℤ m) *ℤ square ((dx *ℤ wy) -ℤ (dy *ℤ wx))) +ℤ square ((m *ℤ ((dx *ℤ wx) +ℤ (dy *ℤ wy))) -ℤ (j *ℤ long dx dy))
shared m j dx dy wx wy = ring (pos 0 ∷ pos 0 ∷ m ∷ j ∷ dx ∷ dy ∷ wx ∷ wy ∷ [])
    (P Long (Off (V 2) (V 3)))
    (S (P (Q (V 2)) (Q (L (P (V 4) (V 7)) (P (V 5) (V 6))))) (Q (L (P (V 2) (S (P (V 4) (V 6)) (P (V 5) (V 7)))) (P (V 3) Long)))) refl

-- the foot of the perpendicular
foot : (dx dy wx wy : ℤ) → off (long dx dy) ((dx *ℤ wx) +ℤ (dy *ℤ wy)) dx dy wx wy ≡ long dx dy *ℤ square ((dx *ℤ wy) -ℤ (dy *ℤ wx))
foot dx dy wx wy = ring (pos 0 ∷ pos 0 ∷ pos 0 ∷ pos 0 ∷ dx ∷ dy ∷ wx ∷ wy ∷ [])
    (Off Long (S (P (V 4) (V 6)) (P (V 5) (V 7))))
    (P Long (Q (L (P (V 4) (V 7)) (P (V 5) (V 6))))) refl

across_is : (n k dx dy wx wy : ℤ) → across n k dx dy wx wy ≡ (n *ℤ ((dx *ℤ wx) +ℤ (dy *ℤ wy))) -ℤ (k *ℤ long dx dy)
across_is n k dx dy wx wy = ring (n ∷ k ∷ pos 0 ∷ pos 0 ∷ dx ∷ dy ∷ wx ∷ wy ∷ [])
    Across (L (P (V 0) (S (P (V 4) (V 6)) (P (V 5) (V 7)))) (P (V 1) Long)) refl

squares_of : (n m r : ℕ) → (n * n) * ((m * r) * (m * r)) ≡ (m * m) * ((n * r) * (n * r))
squares_of n m r = omega arith

some_square : (m : ℕ) → 0 < m → 0 < m * m
some_square (suc m) h = omega arith
some_square zero h = absurd (omega arith)

-- from a point of the line to another that isn't farther from w
nearer : (n k m j r : ℕ) (dx dy wx wy : ℤ) → 0 < m →
    pos 0 ≤ℤ (((pos m *ℤ pos k) -ℤ (pos n *ℤ pos j)) *ℤ across (pos n) (pos k) dx dy wx wy) →
    off (pos m) (pos j) dx dy wx wy ≤ℤ pos ((m * r) * (m * r)) →
    off (pos n) (pos k) dx dy wx wy ≤ℤ pos ((n * r) * (n * r))
nearer n k m j r dx dy wx wy some turn h =
    let e = apart (pos n) (pos k) (pos m) (pos j) dx dy wx wy in
    let p = product_least (long dx dy) (square ((pos m *ℤ pos k) -ℤ (pos n *ℤ pos j))) (let a = square_least dx in let b = square_least dy in omega (arith, ints, a, b)) (square_least ((pos m *ℤ pos k) -ℤ (pos n *ℤ pos j))) in
    let q = product_least (pos m +ℤ pos m) (((pos m *ℤ pos k) -ℤ (pos n *ℤ pos j)) *ℤ across (pos n) (pos k) dx dy wx wy) (omega (arith, ints)) turn in
    let t = times_most (pos (n * n)) (off (pos m) (pos j) dx dy wx wy) (pos ((m * r) * (m * r))) (omega (arith, ints)) h in
    let g : pos ((n * n) * ((m * r) * (m * r))) ≡ pos ((m * m) * ((n * r) * (n * r))) = ap pos (squares_of n m r) in
    times_out (pos (m * m)) (off (pos n) (pos k) dx dy wx wy) (pos ((n * r) * (n * r))) (let z = some_square m some in omega (arith, ints))
    (omega (arith, ints, e, p, q, t, g))

long_least : (dx dy : ℤ) → pos 0 ≤ℤ long dx dy
long_least dx dy = let a = square_least dx in let b = square_least dy in omega (arith, ints, a, b)

squares_with : (m r : ℕ) (l : ℤ) → l *ℤ pos ((m * r) * (m * r)) ≡ pos (m * m) *ℤ (pos (r * r) *ℤ l)
squares_with m r l =
    ring (l ∷ pos m ∷ pos r ∷ []) (P (V 0) (P (P (V 1) (V 2)) (P (V 1) (V 2)))) (P (P (V 1) (V 1)) (P (P (V 2) (V 2)) (V 0))) refl

-- a point near some point of the line is near the line
near_line : (m j r : ℕ) (dx dy wx wy : ℤ) → 0 < m → off (pos m) (pos j) dx dy wx wy ≤ℤ pos ((m * r) * (m * r)) →
    square ((dx *ℤ wy) -ℤ (dy *ℤ wx)) ≤ℤ (pos (r * r) *ℤ long dx dy)
near_line m j r dx dy wx wy some h =
    let e = shared (pos m) (pos j) dx dy wx wy in
    let p = square_least ((pos m *ℤ ((dx *ℤ wx) +ℤ (dy *ℤ wy))) -ℤ (pos j *ℤ long dx dy)) in
    let t = times_most (long dx dy) (off (pos m) (pos j) dx dy wx wy) (pos ((m * r) * (m * r))) (long_least dx dy) h in
    let g = squares_with m r (long dx dy) in
    times_out (pos (m * m)) (square ((dx *ℤ wy) -ℤ (dy *ℤ wx))) (pos (r * r) *ℤ long dx dy) (let z = some_square m some in omega (arith, ints))
    (omega (arith, ints, e, p, t, g))

one_on : (n k o dx dy wx wy : ℤ) → across n (k +ℤ o) dx dy wx wy ≡ across n k dx dy wx wy -ℤ (o *ℤ long dx dy)
one_on n k o dx dy wx wy = ring (n ∷ k ∷ o ∷ pos 0 ∷ dx ∷ dy ∷ wx ∷ wy ∷ [])
    (S (P (V 4) (Short (V 0) (S (V 1) (V 2)) (V 4) (V 6))) (P (V 5) (Short (V 0) (S (V 1) (V 2)) (V 5) (V 7))))
    (L Across (P (V 2) Long)) refl

next_across : (n k : ℕ) (dx dy wx wy : ℤ) → across (pos n) (pos (k + 1)) dx dy wx wy ≡ across (pos n) (pos k) dx dy wx wy -ℤ long dx dy
next_across n k dx dy wx wy = let e = one_on (pos n) (pos k) (pos 1) dx dy wx wy in omega (arith, ints, e)

-- the case by the place along the line, where the stretch is part k of n
cases_core : (n k m j r : ℕ) (dx dy wx wy : ℤ) → 0 < m → k * m ≤ j * n → j * n ≤ (k + 1) * m →
    off (pos m) (pos j) dx dy wx wy ≤ℤ pos ((m * r) * (m * r)) →
    (off (pos n) (pos k) dx dy wx wy ≤ℤ pos ((n * r) * (n * r))) ⊎
    ((off (pos n) (pos (k + 1)) dx dy wx wy ≤ℤ pos ((n * r) * (n * r))) ⊎
    ((pos 0 <ℤ across (pos n) (pos k) dx dy wx wy) × (across (pos n) (pos k) dx dy wx wy <ℤ long dx dy)))
cases_core n k m j r dx dy wx wy some first last h =
    by_lt_z (pos 0) (across (pos n) (pos k) dx dy wx wy)
    (λ ahead. by_lt_z (across (pos n) (pos k) dx dy wx wy) (long dx dy)
    (λ before. inr (inr (ahead, before)))
    (λ past.
    let next = next_across n k dx dy wx wy in
    inr (inl (nearer n (k + 1) m j r dx dy wx wy some
    (product_least ((pos m *ℤ pos (k + 1)) -ℤ (pos n *ℤ pos j)) (across (pos n) (pos (k + 1)) dx dy wx wy) (omega (arith, ints, last)) (omega (arith, ints, next, past)))
    h))))
    (λ behind. inl (nearer n k m j r dx dy wx wy some
    (same_signs ((pos m *ℤ pos k) -ℤ (pos n *ℤ pos j)) (across (pos n) (pos k) dx dy wx wy) (omega (arith, ints, first)) behind) h))

places : (n k m j : ℕ) (c l : ℤ) → c ≡ (pos n *ℤ pos j) -ℤ (pos k *ℤ pos m) → l ≡ pos m → pos 0 <ℤ c → c <ℤ l → (0 < m) × (k * m ≤ j * n) × (j * n ≤ (k + 1) * m)
places n k m j c l e f after before = (omega (arith, ints, e, f, after, before), omega (arith, ints, e, after), omega (arith, ints, e, f, before))

square_times : (m r : ℕ) → m * ((r * r) * m) ≡ (m * r) * (m * r)
square_times m r = omega arith

-- the point of the line nearest to w, where that is in part k of n
foot_core : (n k r : ℕ) (dx dy wx wy : ℤ) → pos 0 <ℤ across (pos n) (pos k) dx dy wx wy → across (pos n) (pos k) dx dy wx wy <ℤ long dx dy →
    square ((dx *ℤ wy) -ℤ (dy *ℤ wx)) ≤ℤ (pos (r * r) *ℤ long dx dy) →
    (m : ℕ) × (j : ℕ) × (0 < m) × (k * m ≤ j * n) × (j * n ≤ (k + 1) * m) × (off (pos m) (pos j) dx dy wx wy ≤ℤ pos ((m * r) * (m * r)))
foot_core n k r dx dy wx wy after before close =
    let l = long dx dy in
    let t = (dx *ℤ wx) +ℤ (dy *ℤ wy) in
    let e = across_is (pos n) (pos k) dx dy wx wy in
    let ln = natural l (long_least dx dy) in
    let kl = product_least (pos k) l (omega (arith, ints)) (long_least dx dy) in
    let tp : pos 0 ≤ℤ t = by_lt_z t (pos 0) (λ less.
    let q = times_most (pos n) t (pos 0) (omega (arith, ints)) (omega (arith, ints, less)) in
    let z : pos n *ℤ pos 0 ≡ pos 0 = omega (arith, ints) in
    absurd (omega (arith, ints, q, z, e, kl, after))) (λ more. more) in
    let tn = natural t tp in
    let m = unsigned_abs l in
    let j = unsigned_abs t in
    let p = places n k m j (across (pos n) (pos k) dx dy wx wy) l (e ∙ ap₂ (λ (x y : ℤ). (pos n *ℤ x) -ℤ (pos k *ℤ y)) tn ln) ln after before in
    let f = foot dx dy wx wy in
    let g : off (pos m) (pos j) dx dy wx wy ≡ l *ℤ square ((dx *ℤ wy) -ℤ (dy *ℤ wx)) = ap₂ (λ (x y : ℤ). off x y dx dy wx wy) (sym ln) (sym tn) ∙ f in
    let q = times_most l (square ((dx *ℤ wy) -ℤ (dy *ℤ wx))) (pos (r * r) *ℤ l) (long_least dx dy) close in
    let u : l *ℤ (pos (r * r) *ℤ l) ≡ pos ((m * r) * (m * r)) = ap (λ (x : ℤ). x *ℤ (pos (r * r) *ℤ x)) ln ∙ ap pos (square_times m r) in
    (m, j, p.0, p.1, p.2, omega (arith, ints, g, q, u))

-- ---- on stretches

pub cases_of : (s : Stretch) (r : ℕ) (q : Spot) → IsNear s r q → IsAround s.parts s.part s.start s.end r q ⊎ (IsAround s.parts (s.part + 1) s.start s.end r q ⊎ IsBeside s r q)
cases_of s r q h =
    let dx = s.end.x -ℤ s.start.x in
    let dy = s.end.y -ℤ s.start.y in
    let wx = q.x -ℤ s.start.x in
    let wy = q.y -ℤ s.start.y in
    elim (cases_core s.parts s.part h.0 h.1 r dx dy wx wy h.2.some h.2.first h.2.last h.3) [
      | inl a ↦ inl a
      | inr (inl b) ↦ inr (inl b)
      | inr (inr c) ↦ inr (inr (record { along = record { after = c.0; before = c.1 }; close = near_line h.0 h.1 r dx dy wx wy h.2.some h.3 }))
    ]

pub first_of : (s : Stretch) (r : ℕ) (q : Spot) → 0 < s.parts → IsAround s.parts s.part s.start s.end r q → IsNear s r q
first_of s r q some h = (s.parts, s.part, record { some = some; first = omega arith; last = omega arith }, h)

pub last_of : (s : Stretch) (r : ℕ) (q : Spot) → 0 < s.parts → IsAround s.parts (s.part + 1) s.start s.end r q → IsNear s r q
last_of s r q some h = (s.parts, s.part + 1, record { some = some; first = omega arith; last = omega arith }, h)

pub beside_of : (s : Stretch) (r : ℕ) (q : Spot) → IsBeside s r q → IsNear s r q
beside_of s r q h =
    let f = foot_core s.parts s.part r (s.end.x -ℤ s.start.x) (s.end.y -ℤ s.start.y) (q.x -ℤ s.start.x) (q.y -ℤ s.start.y) h.along.after h.along.before h.close in
    (f.0, f.1, record { some = f.2; first = f.3; last = f.4 }, f.5)

-- ---- convexity

off_scaled : (c n k dx dy wx wy : ℤ) → off (c *ℤ n) (c *ℤ k) dx dy wx wy ≡ (c *ℤ c) *ℤ off n k dx dy wx wy
off_scaled c n k dx dy wx wy = ring (n ∷ k ∷ c ∷ pos 0 ∷ dx ∷ dy ∷ wx ∷ wy ∷ [])
    (Off (P (V 2) (V 0)) (P (V 2) (V 1))) (P (Q (V 2)) (Off (V 0) (V 1))) refl

scaled_in : (c n k r : ℕ) (dx dy wx wy : ℤ) → off (pos n) (pos k) dx dy wx wy ≤ℤ pos ((n * r) * (n * r)) →
    off (pos (c * n)) (pos (c * k)) dx dy wx wy ≤ℤ pos (((c * n) * r) * ((c * n) * r))
scaled_in c n k r dx dy wx wy h =
    let e = off_scaled (pos c) (pos n) (pos k) dx dy wx wy in
    let t = times_most (pos (c * c)) (off (pos n) (pos k) dx dy wx wy) (pos ((n * r) * (n * r))) (omega (arith, ints)) h in
    let g : pos ((c * c) * ((n * r) * (n * r))) ≡ pos (((c * n) * r) * ((c * n) * r)) = ap pos (let f : (c * c) * ((n * r) * (n * r)) ≡ ((c * n) * r) * ((c * n) * r) = omega arith in f) in
    omega (arith, ints, e, t, g)

-- a is the share of the point at wx - b, and b that of the point at wx + a
shared_x : (n j m i a b d w : ℤ) → short ((((a *ℤ m) *ℤ n) +ℤ ((b *ℤ n) *ℤ m))) ((((a *ℤ m) *ℤ j) +ℤ ((b *ℤ n) *ℤ i))) d w ≡
    short ((a *ℤ m) *ℤ n) ((a *ℤ m) *ℤ j) d (w -ℤ b) +ℤ short ((b *ℤ n) *ℤ m) ((b *ℤ n) *ℤ i) d (w +ℤ a)
shared_x n j m i a b d w = ring (n ∷ j ∷ m ∷ i ∷ a ∷ b ∷ d ∷ w ∷ [])
    (Short (S (P (P (V 4) (V 2)) (V 0)) (P (P (V 5) (V 0)) (V 2))) (S (P (P (V 4) (V 2)) (V 1)) (P (P (V 5) (V 0)) (V 3))) (V 6) (V 7))
    (S (Short (P (P (V 4) (V 2)) (V 0)) (P (P (V 4) (V 2)) (V 1)) (V 6) (L (V 7) (V 5))) (Short (P (P (V 5) (V 0)) (V 2)) (P (P (V 5) (V 0)) (V 3)) (V 6) (S (V 7) (V 4)))) refl

shared_y : (n j m i a b d w : ℤ) → short ((((a *ℤ m) *ℤ n) +ℤ ((b *ℤ n) *ℤ m))) ((((a *ℤ m) *ℤ j) +ℤ ((b *ℤ n) *ℤ i))) d w ≡
    short ((a *ℤ m) *ℤ n) ((a *ℤ m) *ℤ j) d w +ℤ short ((b *ℤ n) *ℤ m) ((b *ℤ n) *ℤ i) d w
shared_y n j m i a b d w = ring (n ∷ j ∷ m ∷ i ∷ a ∷ b ∷ d ∷ w ∷ [])
    (Short (S (P (P (V 4) (V 2)) (V 0)) (P (P (V 5) (V 0)) (V 2))) (S (P (P (V 4) (V 2)) (V 1)) (P (P (V 5) (V 0)) (V 3))) (V 6) (V 7))
    (S (Short (P (P (V 4) (V 2)) (V 0)) (P (P (V 4) (V 2)) (V 1)) (V 6) (V 7)) (Short (P (P (V 5) (V 0)) (V 2)) (P (P (V 5) (V 0)) (V 3)) (V 6) (V 7))) refl

between_core : (n j m i a b r : ℕ) (dx dy wx wy : ℤ) →
    off (pos n) (pos j) dx dy (wx -ℤ pos b) wy ≤ℤ pos ((n * r) * (n * r)) →
    off (pos m) (pos i) dx dy (wx +ℤ pos a) wy ≤ℤ pos ((m * r) * (m * r)) →
    off (pos ((a * m) * n + (b * n) * m)) (pos ((a * m) * j + (b * n) * i)) dx dy wx wy ≤ℤ pos ((((a * m) * n + (b * n) * m) * r) * (((a * m) * n + (b * n) * m) * r))
between_core n j m i a b r dx dy wx wy h g =
    let p = scaled_in (a * m) n j r dx dy (wx -ℤ pos b) wy h in
    let q = scaled_in (b * n) m i r dx dy (wx +ℤ pos a) wy g in
    let s = sum_most
    (short (pos ((a * m) * n)) (pos ((a * m) * j)) dx (wx -ℤ pos b)) (short (pos ((a * m) * n)) (pos ((a * m) * j)) dy wy)
    (short (pos ((b * n) * m)) (pos ((b * n) * i)) dx (wx +ℤ pos a)) (short (pos ((b * n) * m)) (pos ((b * n) * i)) dy wy)
    (((a * m) * n) * r) (((b * n) * m) * r) p q in
    let ex = shared_x (pos n) (pos j) (pos m) (pos i) (pos a) (pos b) dx wx in
    let ey = shared_y (pos n) (pos j) (pos m) (pos i) (pos a) (pos b) dy wy in
    let e : ((a * m) * n) * r + ((b * n) * m) * r ≡ ((a * m) * n + (b * n) * m) * r = omega arith in
    subst (λ (x : ℤ). (square x +ℤ square (short (pos ((a * m) * n + (b * n) * m)) (pos ((a * m) * j + (b * n) * i)) dy wy)) ≤ℤ pos ((((a * m) * n + (b * n) * m) * r) * (((a * m) * n + (b * n) * m) * r))) (sym ex)
    (subst (λ (y : ℤ). (square (short (pos ((a * m) * n)) (pos ((a * m) * j)) dx (wx -ℤ pos b) +ℤ short (pos ((b * n) * m)) (pos ((b * n) * i)) dx (wx +ℤ pos a)) +ℤ square y) ≤ℤ pos ((((a * m) * n + (b * n) * m) * r) * (((a * m) * n + (b * n) * m) * r))) (sym ey)
    (subst (λ (t : ℕ). (square (short (pos ((a * m) * n)) (pos ((a * m) * j)) dx (wx -ℤ pos b) +ℤ short (pos ((b * n) * m)) (pos ((b * n) * i)) dx (wx +ℤ pos a)) +ℤ square (short (pos ((a * m) * n)) (pos ((a * m) * j)) dy wy +ℤ short (pos ((b * n) * m)) (pos ((b * n) * i)) dy wy)) ≤ℤ pos (t * t)) e s))

some_sum : (a b n m : ℕ) → 0 < a + b → 0 < n → 0 < m → 0 < (a * m) * n + (b * n) * m
some_sum (suc a) b (suc n) (suc m) h i j = omega arith
some_sum zero (suc b) (suc n) (suc m) h i j = omega arith
some_sum zero zero n m h i j = absurd (omega arith)
some_sum (suc a) b zero m h i j = absurd (omega arith)
some_sum zero (suc b) zero m h i j = absurd (omega arith)
some_sum (suc a) b (suc n) zero h i j = absurd (omega arith)
some_sum zero (suc b) (suc n) zero h i j = absurd (omega arith)

first_share : (k p n j m i a b : ℕ) → k * n ≤ j * p → k * m ≤ i * p → k * ((a * m) * n + (b * n) * m) ≤ ((a * m) * j + (b * n) * i) * p
first_share k p n j m i a b h g =
    let x = mul-le-mul_left (a * m) h in
    let y = mul-le-mul_left (b * n) g in
    omega (arith, x, y)

last_share : (k p n j m i a b : ℕ) → j * p ≤ k * n → i * p ≤ k * m → ((a * m) * j + (b * n) * i) * p ≤ k * ((a * m) * n + (b * n) * m)
last_share k p n j m i a b h g =
    let x = mul-le-mul_left (a * m) h in
    let y = mul-le-mul_left (b * n) g in
    omega (arith, x, y)

-- between two near points of a row all are near
pub between : (s : Stretch) (r : ℕ) (l x h y : ℤ) → l ≤ℤ x → x ≤ℤ h → IsNear s r (spot l y) → IsNear s r (spot h y) → IsNear s r (spot x y)
between s r l x h y lx xh pl ph =
    let a = unsigned_abs (h -ℤ x) in
    let b = unsigned_abs (x -ℤ l) in
    let ea = natural (h -ℤ x) (omega (arith, ints, xh)) in
    let eb = natural (x -ℤ l) (omega (arith, ints, lx)) in
    elim (cases_lt 0 (a + b)) [
      | inl some ↦ (
          let n = pl.0 in let j = pl.1 in let m = ph.0 in let i = ph.1 in
          let dx = s.end.x -ℤ s.start.x in
          let dy = s.end.y -ℤ s.start.y in
          let wl : l -ℤ s.start.x ≡ (x -ℤ s.start.x) -ℤ pos b = omega (arith, ints, eb) in
          let wh : h -ℤ s.start.x ≡ (x -ℤ s.start.x) +ℤ pos a = omega (arith, ints, ea) in (
            (a * m) * n + (b * n) * m,
            (a * m) * j + (b * n) * i,
            record {
              some = some_sum a b n m some pl.2.some ph.2.some;
              first = first_share s.part s.parts n j m i a b pl.2.first ph.2.first;
              last = last_share (s.part + 1) s.parts n j m i a b pl.2.last ph.2.last;
            },
            between_core n j m i a b r dx dy (x -ℤ s.start.x) (y -ℤ s.start.y)
                (subst (λ (w : ℤ). off (pos n) (pos j) dx dy w (y -ℤ s.start.y) ≤ℤ pos ((n * r) * (n * r))) wl pl.3)
                (subst (λ (w : ℤ). off (pos m) (pos i) dx dy w (y -ℤ s.start.y) ≤ℤ pos ((m * r) * (m * r))) wh ph.3),
          ))
      | inr none ↦ (let e : l ≡ x = omega (arith, ints, eb, none) in subst (λ (w : ℤ). IsNear s r (spot w y)) e pl)
    ]
