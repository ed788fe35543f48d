-- From a cell's centre to its points, and from the points of a line to those of its pieces.
use Rattle.std.proofs.Common.{◌≡◌, ℕ, ◌+◌, ◌*◌, ◌^◌, ◌<◌, ◌≤◌, ℤ, pos, negsuc, ◌+ℤ◌, ◌-ℤ◌, ◌*ℤ◌, ◌≤ℤ◌, ◌<ℤ◌, unsigned_abs, inl, inr, refl, sym, ◌∙◌, ap, subst, arith, [], ◌∷◌, min}
use Rattle.std.proofs.lemmas.Bool.{cases_lt}
use Rattle.std.proofs.lemmas.Nat.{mul-le}
use Rattle.std.proofs.lemmas.Int.{ints, clamps, by_lt_z}
use Rattle.std.specs.Int.{int_min, int_max}
use Rattle.ngc_fixed_length.proofs.RootLaws.{whole_root_above-least}
use Rattle.ngc_fixed_length.specs.declared.points.Point3.{Point3}
use Rattle.ngc_cells.specs.declared.grid.Grid.{Grid}
use Rattle.ngc_cells.specs.declared.stretch.Spot.{Spot}
use Rattle.ngc_cells.specs.Stretches.{square, ahead, IsAround, REACH}
use Rattle.ngc_cells.specs.Grids.{IsGrid, centre}
use Rattle.ngc_cells.proofs.Ring.{V, S, P, ring}
use Rattle.ngc_cells.proofs.Vectors.{Q, L, times_most, times_out, sum_most, product_least, same_signs}
use Rattle.ngc_cells.proofs.Quotients.{floor_is, ceiling_is}
use Rattle.ngc_stock.specs.declared.cylinder.Cylinder.{Cylinder}
use Rattle.ngc_stock.specs.declared.stock.Stock.{Stock}
use Rattle.ngc_stock.specs.Stocks.{kappa, tip, pieces, highest_tip, lowest_tip, natural_of, level_of, IsInCell}

-- ---- within a cell

square_most : (z : ℤ) (h : ℕ) → unsigned_abs z ≤ h → square z ≤ℤ pos (h * h)
square_most (pos n) h i = let p = mul-le n n h h i i in omega (arith, ints, p)
square_most (negsuc n) h i = let p = mul-le (n + 1) (n + 1) h h (omega (arith, ints, i)) (omega (arith, ints, i)) in omega (arith, ints, p)

small_half : (h : ℕ) → h ≤ REACH → 2 * (h * h) < 4 ^ 64
small_half h i = let p = mul-le h h REACH REACH i i in omega (arith, p)

-- a point of a cell is at most kappa from its centre
pub cell_most : (g : Grid) (k : ℕ) (q : Point3) → IsGrid g → IsInCell g k q →
    (square (q.x -ℤ (centre g k).x) +ℤ square (q.y -ℤ (centre g k).y)) ≤ℤ pos (kappa g * kappa g)
cell_most g k q grid h =
    let a = square_most (q.x -ℤ (centre g k).x) g.half h.x in
    let b = square_most (q.y -ℤ (centre g k).y) g.half h.y in
    let r = (whole_root_above-least (2 * (g.half * g.half)) (small_half g.half grid.wide)).square in
    omega (arith, ints, a, b, r)

turned : (x y : ℤ) → square (x -ℤ y) ≡ square (y -ℤ x)
turned x y = ring (x ∷ y ∷ []) (Q (L (V 0) (V 1))) (Q (L (V 1) (V 0))) refl

pub turned_most : (x y u v : ℤ) (m : ℕ) → (square (x -ℤ u) +ℤ square (y -ℤ v)) ≤ℤ pos m → (square (u -ℤ x) +ℤ square (v -ℤ y)) ≤ℤ pos m
turned_most x y u v m h = let a = turned x u in let b = turned y v in omega (arith, ints, a, b, h)

ahead_moved : (n k a b c q : ℤ) → (n *ℤ (q -ℤ a)) -ℤ (k *ℤ (b -ℤ a)) ≡ ((n *ℤ (c -ℤ a)) -ℤ (k *ℤ (b -ℤ a))) +ℤ (n *ℤ (q -ℤ c))
ahead_moved n k a b c q = ring (n ∷ k ∷ a ∷ b ∷ c ∷ q ∷ [])
    (L (P (V 0) (L (V 5) (V 2))) (P (V 1) (L (V 3) (V 2))))
    (S (L (P (V 0) (L (V 4) (V 2))) (P (V 1) (L (V 3) (V 2)))) (P (V 0) (L (V 5) (V 4)))) refl

scaled_squares : (n x y : ℤ) → square (n *ℤ x) +ℤ square (n *ℤ y) ≡ (n *ℤ n) *ℤ (square x +ℤ square y)
scaled_squares n x y = ring (n ∷ x ∷ y ∷ []) (S (Q (P (V 0) (V 1))) (Q (P (V 0) (V 2)))) (P (Q (V 0)) (S (Q (V 1)) (Q (V 2)))) refl

pub scaled_most : (n m : ℕ) (x y : ℤ) → (square x +ℤ square y) ≤ℤ pos (m * m) → (square (pos n *ℤ x) +ℤ square (pos n *ℤ y)) ≤ℤ pos ((n * m) * (n * m))
scaled_most n m x y h =
    let e = scaled_squares (pos n) x y in
    let t = times_most (pos (n * n)) (square x +ℤ square y) (pos (m * m)) (omega (arith, ints)) h in
    let f : pos ((n * n) * (m * m)) ≡ pos ((n * m) * (n * m)) = ap pos (let g : (n * n) * (m * m) ≡ (n * m) * (n * m) = omega arith in g) in
    omega (arith, ints, e, t, f)

-- what is around c is a little farther around a point near c
pub moved : (n k r m : ℕ) (a b c q : Spot) → IsAround n k a b r c → (square (q.x -ℤ c.x) +ℤ square (q.y -ℤ c.y)) ≤ℤ pos (m * m) → IsAround n k a b (r + m) q
moved n k r m a b c q h near =
    let i = scaled_most n m (q.x -ℤ c.x) (q.y -ℤ c.y) near in
    let s = sum_most (ahead n k a.x b.x c.x) (ahead n k a.y b.y c.y) (pos n *ℤ (q.x -ℤ c.x)) (pos n *ℤ (q.y -ℤ c.y)) (n * r) (n * m) h i in
    let ex = ahead_moved (pos n) (pos k) a.x b.x c.x q.x in
    let ey = ahead_moved (pos n) (pos k) a.y b.y c.y q.y in
    let e : n * r + n * m ≡ n * (r + m) = omega arith in
    subst (λ (x : ℤ). (square x +ℤ square (ahead n k a.y b.y q.y)) ≤ℤ pos ((n * (r + m)) * (n * (r + m)))) (sym ex)
    (subst (λ (y : ℤ). (square (ahead n k a.x b.x c.x +ℤ (pos n *ℤ (q.x -ℤ c.x))) +ℤ square y) ≤ℤ pos ((n * (r + m)) * (n * (r + m)))) (sym ey)
    (subst (λ (t : ℕ). (square (ahead n k a.x b.x c.x +ℤ (pos n *ℤ (q.x -ℤ c.x))) +ℤ square (ahead n k a.y b.y c.y +ℤ (pos n *ℤ (q.y -ℤ c.y)))) ≤ℤ pos (t * t)) e s))

-- ---- the end of a line, by itself

at_point : (n j b x : ℤ) → (n *ℤ (x -ℤ b)) -ℤ (j *ℤ (b -ℤ b)) ≡ n *ℤ (x -ℤ b)
at_point n j b x = ring (n ∷ j ∷ b ∷ x ∷ []) (L (P (V 0) (L (V 3) (V 2))) (P (V 1) (L (V 2) (V 2)))) (P (V 0) (L (V 3) (V 2))) refl

at_end : (a b x : ℤ) → (pos 1 *ℤ (x -ℤ a)) -ℤ (pos 1 *ℤ (b -ℤ a)) ≡ x -ℤ b
at_end a b x = omega (arith, ints)

-- what is around a point is around it as the end of a line, and the other way
pub point_around : (n j r : ℕ) (a b c : Spot) → 0 < n → IsAround n j b b r c → IsAround 1 1 a b r c
point_around n j r a b c some h =
    let ex = at_point (pos n) (pos j) b.x c.x in
    let ey = at_point (pos n) (pos j) b.y c.y in
    let e = scaled_squares (pos n) (c.x -ℤ b.x) (c.y -ℤ b.y) in
    let g : (square (pos n *ℤ (c.x -ℤ b.x)) +ℤ square (pos n *ℤ (c.y -ℤ b.y))) ≤ℤ pos ((n * r) * (n * r)) =
    subst (λ (x : ℤ). (square x +ℤ square (pos n *ℤ (c.y -ℤ b.y))) ≤ℤ pos ((n * r) * (n * r))) ex
    (subst (λ (y : ℤ). (square (ahead n j b.x b.x c.x) +ℤ square y) ≤ℤ pos ((n * r) * (n * r))) ey h) in
    let f : pos ((n * r) * (n * r)) ≡ pos (n * n) *ℤ pos (r * r) = ap pos (let i : (n * r) * (n * r) ≡ (n * n) * (r * r) = omega arith in i) in
    let d = times_out (pos (n * n)) (square (c.x -ℤ b.x) +ℤ square (c.y -ℤ b.y)) (pos (r * r)) (let p = mul-le 1 1 n n some some in omega (arith, ints, p)) (omega (arith, ints, e, g, f)) in
    let fx = at_end a.x b.x c.x in
    let fy = at_end a.y b.y c.y in
    let m : (1 * r) * (1 * r) ≡ r * r = omega arith in
    subst (λ (x : ℤ). (square x +ℤ square (ahead 1 1 a.y b.y c.y)) ≤ℤ pos ((1 * r) * (1 * r))) (sym fx)
    (subst (λ (y : ℤ). (square (c.x -ℤ b.x) +ℤ square y) ≤ℤ pos ((1 * r) * (1 * r))) (sym fy)
    (subst (λ (t : ℕ). (square (c.x -ℤ b.x) +ℤ square (c.y -ℤ b.y)) ≤ℤ pos t) (sym m) d))

pub around_point : (r : ℕ) (a b c : Spot) → IsAround 1 1 a b r c → IsAround 1 0 b b r c
around_point r a b c h =
    let fx = at_end a.x b.x c.x in
    let fy = at_end a.y b.y c.y in
    let gx : ahead 1 0 b.x b.x c.x ≡ c.x -ℤ b.x = omega (arith, ints) in
    let gy : ahead 1 0 b.y b.y c.y ≡ c.y -ℤ b.y = omega (arith, ints) in
    subst (λ (x : ℤ). (square x +ℤ square (ahead 1 0 b.y b.y c.y)) ≤ℤ pos ((1 * r) * (1 * r))) (fx ∙ sym gx)
    (subst (λ (y : ℤ). (square (ahead 1 1 a.x b.x c.x) +ℤ square y) ≤ℤ pos ((1 * r) * (1 * r))) (fy ∙ sym gy) h)

-- ---- heights along a line

-- the tip at j/m against that at k/n: n times the one less m times the other
tip_apart : (z d n k m j : ℤ) → (n *ℤ ((m *ℤ z) +ℤ (j *ℤ d))) -ℤ (m *ℤ ((n *ℤ z) +ℤ (k *ℤ d))) ≡ ((j *ℤ n) -ℤ (k *ℤ m)) *ℤ d
tip_apart z d n k m j = ring (z ∷ d ∷ n ∷ k ∷ m ∷ j ∷ [])
    (L (P (V 2) (S (P (V 4) (V 0)) (P (V 5) (V 1)))) (P (V 4) (S (P (V 2) (V 0)) (P (V 3) (V 1)))))
    (P (L (P (V 5) (V 2)) (P (V 3) (V 4))) (V 1)) refl

signed_most : (e d : ℤ) → (pos 0 ≤ℤ e) → (d ≤ℤ pos 0) → (e *ℤ d) ≤ℤ pos 0
signed_most e d h i = let p = times_most e d (pos 0) h i in let z : e *ℤ pos 0 ≡ pos 0 = omega (arith, ints) in omega (arith, ints, p, z)

signed_least : (e d : ℤ) → (e ≤ℤ pos 0) → (pos 0 ≤ℤ d) → (e *ℤ d) ≤ℤ pos 0
signed_least e d h i = let p = times_most d e (pos 0) i h in let z : d *ℤ pos 0 ≡ pos 0 = omega (arith, ints) in let c : d *ℤ e ≡ e *ℤ d = omega (arith, ints) in omega (arith, ints, p, z, c)

-- n times the tip within a piece is at most m times that at one of the piece's ends, and at least that
-- at the other
tip_high : (z d : ℤ) (n k m j : ℕ) → k * m ≤ j * n → j * n ≤ (k + 1) * m →
    (pos n *ℤ ((pos m *ℤ z) +ℤ (pos j *ℤ d))) ≤ℤ (pos m *ℤ int_max ((pos n *ℤ z) +ℤ (pos k *ℤ d)) ((pos n *ℤ z) +ℤ (pos (k + 1) *ℤ d)))
tip_high z d n k m j h i =
    let first = (pos n *ℤ z) +ℤ (pos k *ℤ d) in
    let last = (pos n *ℤ z) +ℤ (pos (k + 1) *ℤ d) in
    let a = times_most (pos m) first (int_max first last) (omega (arith, ints)) (omega (arith, ints, clamps)) in
    let b = times_most (pos m) last (int_max first last) (omega (arith, ints)) (omega (arith, ints, clamps)) in
    by_lt_z (pos 0) d
    (λ up. let e = tip_apart z d (pos n) (pos (k + 1)) (pos m) (pos j) in
    let s = signed_least ((pos j *ℤ pos n) -ℤ (pos (k + 1) *ℤ pos m)) d (omega (arith, ints, i)) (omega (arith, ints, up)) in
    omega (arith, ints, e, s, b))
    (λ down. let e = tip_apart z d (pos n) (pos k) (pos m) (pos j) in
    let s = signed_most ((pos j *ℤ pos n) -ℤ (pos k *ℤ pos m)) d (omega (arith, ints, h)) down in
    omega (arith, ints, e, s, a))

tip_low : (z d : ℤ) (n k m j : ℕ) → k * m ≤ j * n → j * n ≤ (k + 1) * m →
    (pos m *ℤ int_min ((pos n *ℤ z) +ℤ (pos k *ℤ d)) ((pos n *ℤ z) +ℤ (pos (k + 1) *ℤ d))) ≤ℤ (pos n *ℤ ((pos m *ℤ z) +ℤ (pos j *ℤ d)))
tip_low z d n k m j h i =
    let first = (pos n *ℤ z) +ℤ (pos k *ℤ d) in
    let last = (pos n *ℤ z) +ℤ (pos (k + 1) *ℤ d) in
    let a = times_most (pos m) (int_min first last) first (omega (arith, ints)) (omega (arith, ints, clamps)) in
    let b = times_most (pos m) (int_min first last) last (omega (arith, ints)) (omega (arith, ints, clamps)) in
    by_lt_z (pos 0) d
    (λ up. let e = tip_apart z d (pos n) (pos k) (pos m) (pos j) in
    let p : pos 0 ≤ℤ (((pos j *ℤ pos n) -ℤ (pos k *ℤ pos m)) *ℤ d) = product_least ((pos j *ℤ pos n) -ℤ (pos k *ℤ pos m)) d (omega (arith, ints, h)) (omega (arith, ints, up)) in
    omega (arith, ints, e, p, a))
    (λ down. let e = tip_apart z d (pos n) (pos (k + 1)) (pos m) (pos j) in
    let p = same_signs ((pos j *ℤ pos n) -ℤ (pos (k + 1) *ℤ pos m)) d (omega (arith, ints, i)) down in
    omega (arith, ints, e, p, b))

-- a multiple of a number is at most that of another; so is the number
swap_times : (n m : ℕ) (x : ℤ) → pos n *ℤ (pos m *ℤ x) ≡ pos m *ℤ (pos n *ℤ x)
swap_times n m x = ring (pos n ∷ pos m ∷ x ∷ []) (P (V 0) (P (V 1) (V 2))) (P (V 1) (P (V 0) (V 2))) refl

pub tip_below : (t : Cylinder) (a b : Point3) (k m j : ℕ) → 0 < pieces a b → k * m ≤ j * pieces a b → j * pieces a b ≤ (k + 1) * m →
    tip t m j a b ≤ℤ (pos m *ℤ highest_tip t a b k)
tip_below t a b k m j some h i =
    let n = pieces a b in
    let top = int_max (tip t n k a b) (tip t n (k + 1) a b) in
    let p = tip_high (a.z +ℤ t.bottom) (b.z -ℤ a.z) n k m j h i in
    let c = (ceiling_is (pos n) (highest_tip t a b k) top (omega (arith, ints, some))).0 (omega (arith, ints)) in
    let q = times_most (pos m) top (highest_tip t a b k *ℤ pos n) (omega (arith, ints)) c in
    let e : pos m *ℤ (highest_tip t a b k *ℤ pos n) ≡ pos n *ℤ (pos m *ℤ highest_tip t a b k) =
    ring (pos m ∷ highest_tip t a b k ∷ pos n ∷ []) (P (V 0) (P (V 1) (V 2))) (P (V 2) (P (V 0) (V 1))) refl in
    times_out (pos n) (tip t m j a b) (pos m *ℤ highest_tip t a b k) (omega (arith, ints, some)) (omega (arith, ints, p, q, e))

pub tip_above : (t : Cylinder) (a b : Point3) (k m j : ℕ) → 0 < pieces a b → k * m ≤ j * pieces a b → j * pieces a b ≤ (k + 1) * m →
    (pos m *ℤ lowest_tip t a b k) ≤ℤ tip t m j a b
tip_above t a b k m j some h i =
    let n = pieces a b in
    let low = int_min (tip t n k a b) (tip t n (k + 1) a b) in
    let p = tip_low (a.z +ℤ t.bottom) (b.z -ℤ a.z) n k m j h i in
    let c = (floor_is (pos n) (lowest_tip t a b k) low (omega (arith, ints, some))).0 (omega (arith, ints)) in
    let q = times_most (pos m) (lowest_tip t a b k *ℤ pos n) low (omega (arith, ints)) c in
    let e : pos m *ℤ (lowest_tip t a b k *ℤ pos n) ≡ pos n *ℤ (pos m *ℤ lowest_tip t a b k) =
    ring (pos m ∷ lowest_tip t a b k ∷ pos n ∷ []) (P (V 0) (P (V 1) (V 2))) (P (V 2) (P (V 0) (V 1))) refl in
    times_out (pos n) (pos m *ℤ lowest_tip t a b k) (tip t m j a b) (omega (arith, ints, some)) (omega (arith, ints, p, q, e))

-- ---- levels

natural_is : (z : ℤ) → pos 0 ≤ℤ z → pos (natural_of z) ≡ z
natural_is (pos n) h = refl
natural_is (negsuc n) h = absurd (omega (arith, ints, h))

none_below : (z : ℤ) → z <ℤ pos 0 → natural_of z ≡ 0
none_below (pos n) h = absurd (omega (arith, ints, h))
none_below (negsuc n) h = refl

-- what is left below a height is below its level
pub level_over : (s : Stock) (z q : ℤ) → s.bottom ≤ℤ q → q <ℤ (s.bottom +ℤ pos s.height) → q <ℤ z → q <ℤ (s.bottom +ℤ pos (level_of s z))
level_over s z q low top h =
    let e = natural_is (z -ℤ s.bottom) (omega (arith, ints, low, h)) in
    elim (cases_lt s.height (natural_of (z -ℤ s.bottom))) [
      | inl less ↦ (let f : min s.height (natural_of (z -ℤ s.bottom)) ≡ s.height = omega arith in rw f (omega (arith, ints, top)))
      | inr more ↦ (let f : min s.height (natural_of (z -ℤ s.bottom)) ≡ natural_of (z -ℤ s.bottom) = omega arith in rw (f, e) (omega (arith, ints, h)))
    ]

-- what is left in a cell that is at most the level of a height is below that height
pub level_under : (s : Stock) (z q : ℤ) (h : ℕ) → s.bottom ≤ℤ q → q <ℤ (s.bottom +ℤ pos h) → h ≤ level_of s z → q <ℤ z
level_under s z q h low below most =
    let m : h ≤ natural_of (z -ℤ s.bottom) = omega arith in
    by_lt_z (z -ℤ s.bottom) (pos 0)
    (λ less. let e = none_below (z -ℤ s.bottom) less in absurd (omega (arith, ints, m, e, low, below)))
    (λ more. let e = natural_is (z -ℤ s.bottom) more in omega (arith, ints, m, e, below))
