-- A line that passes the tests on its ends follows the arc at each of its points.
use Rattle.std.proofs.Common.{◌≡◌, ℕ, ◌+◌, ◌*◌, ◌-◌, ◌<◌, ◌≤◌, ◌⊎◌, inl, inr, ℤ, pos, negsuc, ◌+ℤ◌, ◌-ℤ◌, ◌*ℤ◌, ◌≤ℤ◌, ◌<ℤ◌, unsigned_abs, refl, sym, ◌∙◌, ap, subst, arith, [], ◌∷◌, Bool, true, false}
use Rattle.std.specs.Prelude.{◌&&◌, ◌||◌, int_le, nat_le, nat_lt, if◌then◌else◌}
use Rattle.std.proofs.lemmas.Bool.{leb-true, ltb-true}
use Rattle.std.proofs.lemmas.Int.{ints}
use Rattle.ngc_fixed_length.specs.Places.{cross, dot, from, shifted}
use Rattle.ngc_fixed_length.specs.declared.modes.Turn.{Turn}
use Rattle.ngc_fixed_length.specs.declared.modes.Turn.TheVariants.{Clockwise, Counterclockwise}
use Rattle.ngc_fixed_length.specs.declared.points.Point2.{Point2}
use Rattle.ngc_arc_geometry.specs.Shape.{ArcShape, start_of, end_of}
use Rattle.ngc_arc_geometry.specs.Sector.{turning, is_full, in_sector}
use Rattle.ngc_cells.specs.Stretches.{middle, square}
use Rattle.ngc_cells.proofs.Ring.{V, S, P, M, ring}
use Rattle.ngc_cells.proofs.Vectors.{Q, L, times_most, times_out, product_least, sum_most, square_least}
use Rattle.ngc_stock.specs.Arcs.{between, IsChord}
use Rattle.ngc_stock.proofs.Distances.{scaled_most}
use Rattle.ngc_material.specs.declared.chord.Sector.{Sector}
use Rattle.ngc_material.specs.declared.chord.Band.{Band}
use Rattle.ngc_material.specs.Chords.{IsSector, IsBand, leads, is_in, is_within, length_squared, is_beyond, is_chord}

-- ---- tests

both : (a b : Bool) → (a && b) ≡ true → (a ≡ true) × (b ≡ true)
both true b h = (refl, h)
both false b h = absurd (cc)

one_of : (a b : Bool) → (a || b) ≡ true → (a ≡ true) ⊎ (b ≡ true)
one_of true b h = inl refl
one_of false b h = inr h

le_of : (x y : ℤ) → int_le x y ≡ true → x ≤ℤ y
le_of x y h = grind (arith, ints)

of_le : (x y : ℤ) → x ≤ℤ y → int_le x y ≡ true
of_le x y h = grind (arith, ints)

-- ---- a point of the line is a sum of parts of its ends

split : (m k a b : ℤ) → ((m +ℤ k) *ℤ a) +ℤ (k *ℤ (b -ℤ a)) ≡ (m *ℤ a) +ℤ (k *ℤ b)
split m k a b = ring (m ∷ k ∷ a ∷ b ∷ []) (S (P (S (V 0) (V 1)) (V 2)) (P (V 1) (L (V 3) (V 2)))) (S (P (V 0) (V 2)) (P (V 1) (V 3))) refl

parts : (n k : ℕ) (a b : ℤ) → k ≤ n → middle n k a b ≡ (pos (n - k) *ℤ a) +ℤ (pos k *ℤ b)
parts n k a b h =
    let e : pos n ≡ pos (n - k) +ℤ pos k = omega (arith, ints, h) in
    subst (λ (x : ℤ). ((x *ℤ a) +ℤ (pos k *ℤ (b -ℤ a))) ≡ ((pos (n - k) *ℤ a) +ℤ (pos k *ℤ b))) (sym e) (split (pos (n - k)) (pos k) a b)

-- ---- within a distance

within_parts : (m k r : ℕ) (d e : Point2) → dot d d ≤ℤ pos (r * r) → dot e e ≤ℤ pos (r * r) →
    (square ((pos m *ℤ d.u) +ℤ (pos k *ℤ e.u)) +ℤ square ((pos m *ℤ d.v) +ℤ (pos k *ℤ e.v))) ≤ℤ pos (((m + k) * r) * ((m + k) * r))
within_parts m k r d e h i =
    let s = sum_most (pos m *ℤ d.u) (pos m *ℤ d.v) (pos k *ℤ e.u) (pos k *ℤ e.v) (m * r) (k * r) (scaled_most m r d.u d.v h) (scaled_most k r e.u e.v i) in
    let f : m * r + k * r ≡ (m + k) * r = omega arith in
    subst (λ (t : ℕ). (square ((pos m *ℤ d.u) +ℤ (pos k *ℤ e.u)) +ℤ square ((pos m *ℤ d.v) +ℤ (pos k *ℤ e.v))) ≤ℤ pos (t * t)) f s

within_line : (r : ℕ) (d e : Point2) → is_within r d e ≡ true → (n k : ℕ) → k ≤ n → dot (between n k d e) (between n k d e) ≤ℤ pos ((n * r) * (n * r))
within_line r d e test n k h =
    let b = both (int_le (dot d d) (pos (r * r))) (int_le (dot e e) (pos (r * r))) test in
    let s = within_parts (n - k) k r d e (le_of (dot d d) (pos (r * r)) b.0) (le_of (dot e e) (pos (r * r)) b.1) in
    let f : (n - k) + k ≡ n = omega (arith, h) in
    subst (λ (x : ℤ). (square x +ℤ square (middle n k d.v e.v)) ≤ℤ pos ((n * r) * (n * r))) (sym (parts n k d.u e.u h))
    (subst (λ (y : ℤ). (square ((pos (n - k) *ℤ d.u) +ℤ (pos k *ℤ e.u)) +ℤ square y) ≤ℤ pos ((n * r) * (n * r))) (sym (parts n k d.v e.v h))
    (subst (λ (t : ℕ). (square ((pos (n - k) *ℤ d.u) +ℤ (pos k *ℤ e.u)) +ℤ square ((pos (n - k) *ℤ d.v) +ℤ (pos k *ℤ e.v))) ≤ℤ pos ((t * r) * (t * r))) f s))

-- ---- beyond a distance

-- the line's direction and a point of it span what its ends span, times n
spanned : (n k a b c d : ℤ) → (((n *ℤ a) +ℤ (k *ℤ (c -ℤ a))) *ℤ (d -ℤ b)) -ℤ (((n *ℤ b) +ℤ (k *ℤ (d -ℤ b))) *ℤ (c -ℤ a)) ≡ n *ℤ ((a *ℤ d) -ℤ (b *ℤ c))
spanned n k a b c d = ring (n ∷ k ∷ a ∷ b ∷ c ∷ d ∷ [])
    (L (P (S (P (V 0) (V 2)) (P (V 1) (L (V 4) (V 2)))) (L (V 5) (V 3))) (P (S (P (V 0) (V 3)) (P (V 1) (L (V 5) (V 3)))) (L (V 4) (V 2))))
    (P (V 0) (L (P (V 2) (V 5)) (P (V 3) (V 4)))) refl

square_of_product : (n c : ℤ) → square (n *ℤ c) ≡ (n *ℤ n) *ℤ square c
square_of_product n c = ring (n ∷ c ∷ []) (Q (P (V 0) (V 1))) (P (Q (V 0)) (Q (V 1))) refl

turned_out : (l n r : ℤ) → l *ℤ ((n *ℤ r) *ℤ (n *ℤ r)) ≡ (n *ℤ n) *ℤ ((r *ℤ r) *ℤ l)
turned_out l n r = ring (l ∷ n ∷ r ∷ []) (P (V 0) (Q (P (V 1) (V 2)))) (P (Q (V 1)) (P (Q (V 2)) (V 0))) refl

two_products : (a b c d : ℤ) → (square a +ℤ square b) *ℤ (square c +ℤ square d) ≡ square ((a *ℤ c) +ℤ (b *ℤ d)) +ℤ square ((a *ℤ d) -ℤ (b *ℤ c))
two_products a b c d = ring (a ∷ b ∷ c ∷ d ∷ [])
    (P (S (Q (V 0)) (Q (V 1))) (S (Q (V 2)) (Q (V 3))))
    (S (Q (S (P (V 0) (V 2)) (P (V 1) (V 3)))) (Q (L (P (V 0) (V 3)) (P (V 1) (V 2))))) refl

beyond_of : (l far dist across aside most least : ℤ) → pos 0 <ℤ l → dist *ℤ l ≡ across +ℤ aside → pos 0 ≤ℤ across → aside ≡ most → least ≤ℤ most → l *ℤ far ≡ least → far ≤ℤ dist
beyond_of l far dist across aside most least some two q e p o =
    let w : dist *ℤ l ≡ l *ℤ dist = ring (dist ∷ l ∷ []) (P (V 0) (V 1)) (P (V 1) (V 0)) refl in
    times_out l far dist some (omega (arith, ints, two, q, e, p, o, w))

far_line : (n k r : ℕ) (d e : Point2) → pos 0 <ℤ length_squared d e → ((pos r *ℤ pos r) *ℤ length_squared d e) ≤ℤ square (cross d e) →
    ((pos n *ℤ pos r) *ℤ (pos n *ℤ pos r)) ≤ℤ dot (between n k d e) (between n k d e)
far_line n k r d e some far =
    let l = length_squared d e in
    let x = middle n k d.u e.u in let y = middle n k d.v e.v in
    let u = e.u -ℤ d.u in let v = e.v -ℤ d.v in
    beyond_of l ((pos n *ℤ pos r) *ℤ (pos n *ℤ pos r)) (dot (between n k d e) (between n k d e)) (square ((x *ℤ u) +ℤ (y *ℤ v))) (square ((x *ℤ v) -ℤ (y *ℤ u)))
    ((pos n *ℤ pos n) *ℤ square (cross d e)) ((pos n *ℤ pos n) *ℤ ((pos r *ℤ pos r) *ℤ l))
    some (two_products x y u v) (square_least ((x *ℤ u) +ℤ (y *ℤ v)))
    (ap square (spanned (pos n) (pos k) d.u d.v e.u e.v) ∙ square_of_product (pos n) (cross d e))
    (times_most (pos n *ℤ pos n) ((pos r *ℤ pos r) *ℤ l) (square (cross d e)) (square_least (pos n)) far)
    (turned_out l (pos n) (pos r))

as_naturals : (n r : ℕ) (z : ℤ) → ((pos n *ℤ pos r) *ℤ (pos n *ℤ pos r)) ≤ℤ z → pos ((n * r) * (n * r)) ≤ℤ z
as_naturals n r z h = omega (arith, ints, h)

sizes : (l c : ℤ) (r : ℕ) → pos 0 ≤ℤ l → (r * r) * unsigned_abs l ≤ unsigned_abs c * unsigned_abs c → ((pos r *ℤ pos r) *ℤ l) ≤ℤ square c
sizes (pos l) (pos c) r h i = omega (arith, ints, i)
sizes (pos l) (negsuc c) r h i = omega (arith, ints, i)
sizes (negsuc l) c r h i = absurd (omega (arith, ints, h))

long : (l : ℤ) → pos 0 ≤ℤ l → 0 < unsigned_abs l → pos 0 <ℤ l
long (pos l) h i = omega (arith, ints, i)
long (negsuc l) h i = absurd (omega (arith, ints, h))

beyond_line : (r : ℕ) (d e : Point2) → is_beyond r d e ≡ true → (n k : ℕ) → pos ((n * r) * (n * r)) ≤ℤ dot (between n k d e) (between n k d e)
beyond_line r d e test n k =
    let l = length_squared d e in
    let b = both (nat_lt 0 (unsigned_abs l)) (nat_le ((r * r) * unsigned_abs l) (unsigned_abs (cross d e) * unsigned_abs (cross d e))) test in
    let a = square_least (e.u -ℤ d.u) in let c = square_least (e.v -ℤ d.v) in
    let least : pos 0 ≤ℤ l = omega (arith, ints, a, c) in
    let f = far_line n k r d e (long l least (ltb-true 0 (unsigned_abs l) b.0))
    (sizes l (cross d e) r least (leb-true ((r * r) * unsigned_abs l) (unsigned_abs (cross d e) * unsigned_abs (cross d e)) b.1)) in
    as_naturals n r (dot (between n k d e) (between n k d e)) f

-- ---- in the sector

cross_right : (a b u v x y m k : ℤ) → (a *ℤ ((m *ℤ v) +ℤ (k *ℤ y))) -ℤ (b *ℤ ((m *ℤ u) +ℤ (k *ℤ x))) ≡ (m *ℤ ((a *ℤ v) -ℤ (b *ℤ u))) +ℤ (k *ℤ ((a *ℤ y) -ℤ (b *ℤ x)))
cross_right a b u v x y m k = ring (a ∷ b ∷ u ∷ v ∷ x ∷ y ∷ m ∷ k ∷ [])
    (L (P (V 0) (S (P (V 6) (V 3)) (P (V 7) (V 5)))) (P (V 1) (S (P (V 6) (V 2)) (P (V 7) (V 4)))))
    (S (P (V 6) (L (P (V 0) (V 3)) (P (V 1) (V 2)))) (P (V 7) (L (P (V 0) (V 5)) (P (V 1) (V 4))))) refl

cross_left : (a b u v x y m k : ℤ) → (((m *ℤ u) +ℤ (k *ℤ x)) *ℤ b) -ℤ (((m *ℤ v) +ℤ (k *ℤ y)) *ℤ a) ≡ (m *ℤ ((u *ℤ b) -ℤ (v *ℤ a))) +ℤ (k *ℤ ((x *ℤ b) -ℤ (y *ℤ a)))
cross_left a b u v x y m k = ring (a ∷ b ∷ u ∷ v ∷ x ∷ y ∷ m ∷ k ∷ [])
    (L (P (S (P (V 6) (V 2)) (P (V 7) (V 4))) (V 1)) (P (S (P (V 6) (V 3)) (P (V 7) (V 5))) (V 0)))
    (S (P (V 6) (L (P (V 2) (V 1)) (P (V 3) (V 0)))) (P (V 7) (L (P (V 4) (V 1)) (P (V 5) (V 0))))) refl

turned_sum : (t : Turn) (m k x y : ℤ) → turning t ((m *ℤ x) +ℤ (k *ℤ y)) ≡ (m *ℤ turning t x) +ℤ (k *ℤ turning t y)
turned_sum Counterclockwise m k x y = refl
turned_sum Clockwise m k x y = ring (m ∷ k ∷ x ∷ y ∷ []) (M (S (P (V 0) (V 2)) (P (V 1) (V 3)))) (S (P (V 0) (M (V 2))) (P (V 1) (M (V 3)))) refl

least_sum : (m k : ℕ) (x y : ℤ) → pos 0 ≤ℤ x → pos 0 ≤ℤ y → pos 0 ≤ℤ ((pos m *ℤ x) +ℤ (pos k *ℤ y))
least_sum m k x y h i =
    let p = product_least (pos m) x (omega (arith, ints)) h in
    let q = product_least (pos k) y (omega (arith, ints)) i in
    omega (arith, ints, p, q)

-- what leads to both ends leads to each point between, and the other way
leads_line : (t : Turn) (s d e : Point2) (n k : ℕ) → k ≤ n → (leads t s d && leads t s e) ≡ true → leads t s (between n k d e) ≡ true
leads_line t s d e n k h test =
    let b = both (leads t s d) (leads t s e) test in
    let p = least_sum (n - k) k (turning t (cross s d)) (turning t (cross s e)) (le_of (pos 0) (turning t (cross s d)) b.0) (le_of (pos 0) (turning t (cross s e)) b.1) in
    let f = turned_sum t (pos (n - k)) (pos k) (cross s d) (cross s e) in
    let g = ap (turning t) (cross_right s.u s.v d.u d.v e.u e.v (pos (n - k)) (pos k)) in
    of_le (pos 0) (turning t (cross s (between n k d e)))
    (subst (λ (x : ℤ). pos 0 ≤ℤ turning t ((s.u *ℤ middle n k d.v e.v) -ℤ (s.v *ℤ x))) (sym (parts n k d.u e.u h))
    (subst (λ (y : ℤ). pos 0 ≤ℤ turning t ((s.u *ℤ y) -ℤ (s.v *ℤ ((pos (n - k) *ℤ d.u) +ℤ (pos k *ℤ e.u))))) (sym (parts n k d.v e.v h))
    (subst (λ (z : ℤ). pos 0 ≤ℤ z) (sym (g ∙ f)) p)))

led_line : (t : Turn) (s d e : Point2) (n k : ℕ) → k ≤ n → (leads t d s && leads t e s) ≡ true → leads t (between n k d e) s ≡ true
led_line t s d e n k h test =
    let b = both (leads t d s) (leads t e s) test in
    let p = least_sum (n - k) k (turning t (cross d s)) (turning t (cross e s)) (le_of (pos 0) (turning t (cross d s)) b.0) (le_of (pos 0) (turning t (cross e s)) b.1) in
    let f = turned_sum t (pos (n - k)) (pos k) (cross d s) (cross e s) in
    let g = ap (turning t) (cross_left s.u s.v d.u d.v e.u e.v (pos (n - k)) (pos k)) in
    of_le (pos 0) (turning t (cross (between n k d e) s))
    (subst (λ (x : ℤ). pos 0 ≤ℤ turning t ((x *ℤ s.v) -ℤ (middle n k d.v e.v *ℤ s.u))) (sym (parts n k d.u e.u h))
    (subst (λ (y : ℤ). pos 0 ≤ℤ turning t ((((pos (n - k) *ℤ d.u) +ℤ (pos k *ℤ e.u)) *ℤ s.v) -ℤ (y *ℤ s.u))) (sym (parts n k d.v e.v h))
    (subst (λ (z : ℤ). pos 0 ≤ℤ z) (sym (g ∙ f)) p)))

-- the sector's test on a point of which the vector from the centre is x
abbrev sees : Bool → Turn → Point2 → Point2 → Point2 → Bool
sees full t start end x =
    if full then true
    else (if leads t start end then leads t start x && leads t x end else leads t start x || leads t x end)

or_right : (x y : Bool) → y ≡ true → (x || y) ≡ true
or_right true y h = refl
or_right false y h = h

within_both : (full wide : Bool) (a b c d x y : Bool) → ((a && b) ≡ true → x ≡ true) → ((c && d) ≡ true → y ≡ true) →
    (if full then true else (if wide then (a && b) && (c && d) else (a && b) || (c && d))) ≡ true →
    (if full then true else (if wide then x && y else x || y)) ≡ true
within_both true wide a b c d x y f g h = refl
within_both false true a b c d x y f g h =
    let s = both (a && b) (c && d) h in
    let p = f s.0 in let q = g s.1 in
    rw (p, q) refl
within_both false false a b c d x y f g h =
    elim (one_of (a && b) (c && d) h) [ inl i ↦ (let p = f i in rw p refl) | inr j ↦ (let q = g j in or_right x y q) ]

seen_line : (s : Sector) (d e : Point2) (n k : ℕ) → k ≤ n → is_in s d e ≡ true → sees s.is_full s.turn s.start s.end (between n k d e) ≡ true
seen_line s d e n k h test =
    within_both s.is_full (leads s.turn s.start s.end) (leads s.turn s.start d) (leads s.turn s.start e) (leads s.turn d s.end) (leads s.turn e s.end)
    (leads s.turn s.start (between n k d e)) (leads s.turn (between n k d e) s.end)
    (leads_line s.turn s.start d e n k h) (led_line s.turn s.end d e n k h) test

back : (c x : ℤ) → (c +ℤ x) -ℤ c ≡ x
back c x = omega (arith, ints)

seen_again : (c x : Point2) → from c (shifted c x) ≡ x
seen_again c x = rw (back c.u x.u, back c.v x.v) refl

-- a sector's test is that of its arc
sees_sector : (a : ArcShape) (s : Sector) (x : Point2) → IsSector a s → sees s.is_full s.turn s.start s.end x ≡ true → in_sector a (shifted a.centre x) ≡ true
sees_sector a s x h i =
    let start = from a.centre (start_of a) in let end = from a.centre (end_of a) in
    let j = subst (λ (f : Bool). sees f s.turn s.start s.end x ≡ true) h.full i in
    let k = subst (λ (t : Turn). sees (is_full a) t s.start s.end x ≡ true) h.turn j in
    let l = subst (λ (p : Point2). sees (is_full a) a.turn p s.end x ≡ true) h.start k in
    let m = subst (λ (p : Point2). sees (is_full a) a.turn start p x ≡ true) h.end l in
    subst (λ (y : Point2). sees (is_full a) a.turn start end y ≡ true) (sym (seen_again a.centre x)) m

-- ---- all of it

pub follows : (a : ArcShape) (room : ℕ) (s : Sector) (b : Band) (d e : Point2) → IsSector a s → IsBand a room b → is_chord s b d e ≡ true → IsChord a room d e
follows a room s b d e sector band test n k some small =
    let t = both (is_within b.most d e) (is_beyond b.least d e && is_in s d e) test in
    let u = both (is_beyond b.least d e) (is_in s d e) t.1 in
    record {
      sector = sees_sector a s (between n k d e) sector (seen_line s d e n k small u.1);
      inner = subst (λ (r : ℕ). pos ((n * r) * (n * r)) ≤ℤ dot (between n k d e) (between n k d e)) band.least (beyond_line b.least d e u.0 n k);
      outer = subst (λ (r : ℕ). dot (between n k d e) (between n k d e) ≤ℤ pos ((n * r) * (n * r))) band.most (within_line b.most d e t.0 n k small);
    }
