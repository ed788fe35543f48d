-- The points of a row that are near a stretch.
use Rattle.std.proofs.Common.{◌≡◌, ℕ, ◌+◌, ◌*◌, ◌-◌, ◌<◌, ◌≤◌, ℤ, pos, ◌+ℤ◌, ◌-ℤ◌, ◌*ℤ◌, neg_ℤ, ◌≤ℤ◌, ◌<ℤ◌, ◌↔◌, unsigned_abs, inl, inr, refl, sym, ◌∙◌, ap, arith, [], ◌∷◌}
use Rattle.std.proofs.Math.IntN.{*ℤ-zero}
use Rattle.ngc_fixed_length.specs.Roots.{IsRootFloor}
use Rattle.std.proofs.lemmas.Bool.{cases_lt}
use Rattle.std.proofs.lemmas.Nat.{mul-le}
use Rattle.std.proofs.lemmas.Int.{ints}
use Rattle.ngc_cells.proofs.Ring.{V, S, P, M, ring}
use Rattle.ngc_cells.proofs.Vectors.{L, natural, square_least, times_most, times_out}
use Rattle.ngc_cells.proofs.Roots.{root_is}
use Rattle.ngc_cells.proofs.Nearness.{cases_of, first_of, last_of, beside_of, between}
use Rattle.ngc_cells.specs.declared.span.Span.{Span}
use Rattle.ngc_cells.specs.declared.stretch.Spot.{Spot}
use Rattle.ngc_cells.specs.declared.stretch.Stretch.{Stretch}
use Rattle.ngc_cells.specs.Spans.{IsIn, IsInEither, IsBetween}
use Rattle.ngc_cells.specs.Stretches.{ahead, spot, IsAround, IsOn, IsNear, squared_length, along, aside, IsAlong, IsClose, IsBand, IsWidth, IsPast}

-- ---- how far a point is along and beside the line, by its x

aside_from : (dx dy ax ay x y z : ℤ) → (dx *ℤ (y -ℤ ay)) -ℤ (dy *ℤ (x -ℤ ax)) ≡ ((dx *ℤ (y -ℤ ay)) -ℤ (dy *ℤ (z -ℤ ax))) -ℤ ((x -ℤ z) *ℤ dy)
aside_from dx dy ax ay x y z = ring (dx ∷ dy ∷ ax ∷ ay ∷ x ∷ y ∷ z ∷ [])
    (L (P (V 0) (L (V 5) (V 3))) (P (V 1) (L (V 4) (V 2))))
    (L (L (P (V 0) (L (V 5) (V 3))) (P (V 1) (L (V 6) (V 2)))) (P (L (V 4) (V 6)) (V 1))) refl

along_from : (n k dx rest ax x z : ℤ) → (dx *ℤ ((n *ℤ (x -ℤ ax)) -ℤ (k *ℤ dx))) +ℤ rest ≡ ((dx *ℤ ((n *ℤ (z -ℤ ax)) -ℤ (k *ℤ dx))) +ℤ rest) +ℤ ((x -ℤ z) *ℤ (n *ℤ dx))
along_from n k dx rest ax x z = ring (n ∷ k ∷ dx ∷ rest ∷ ax ∷ x ∷ z ∷ [])
    (S (P (V 2) (L (P (V 0) (L (V 5) (V 4))) (P (V 1) (V 2)))) (V 3))
    (S (S (P (V 2) (L (P (V 0) (L (V 6) (V 4))) (P (V 1) (V 2)))) (V 3)) (P (L (V 5) (V 6)) (P (V 0) (V 2)))) refl

less_zero : (x f : ℤ) → (x -ℤ pos 0) *ℤ f ≡ x *ℤ f
less_zero x f = ap (λ (z : ℤ). z *ℤ f) (let e : x -ℤ pos 0 ≡ x = omega (arith, ints) in e)

aside_at : (s : Stretch) (x y : ℤ) → aside s.start s.end (spot x y) ≡ aside s.start s.end (spot (pos 0) y) -ℤ (x *ℤ (s.end.y -ℤ s.start.y))
aside_at s x y =
    aside_from (s.end.x -ℤ s.start.x) (s.end.y -ℤ s.start.y) s.start.x s.start.y x y (pos 0)
    ∙ ap (λ (z : ℤ). aside s.start s.end (spot (pos 0) y) -ℤ z) (less_zero x (s.end.y -ℤ s.start.y))

along_at : (s : Stretch) (x y : ℤ) → along s (spot x y) ≡ along s (spot (pos 0) y) +ℤ (x *ℤ (pos s.parts *ℤ (s.end.x -ℤ s.start.x)))
along_at s x y =
    along_from (pos s.parts) (pos s.part) (s.end.x -ℤ s.start.x) ((s.end.y -ℤ s.start.y) *ℤ ahead s.parts s.part s.start.y s.end.y y) s.start.x x (pos 0)
    ∙ ap (λ (z : ℤ). along s (spot (pos 0) y) +ℤ z) (less_zero x (pos s.parts *ℤ (s.end.x -ℤ s.start.x)))

-- the code's form of aside and along at 0
pub aside_zero : (dx dy ax up : ℤ) → (dx *ℤ up) +ℤ (dy *ℤ ax) ≡ (dx *ℤ up) -ℤ (dy *ℤ (pos 0 -ℤ ax))
aside_zero dx dy ax up =
    let e : pos 0 -ℤ ax ≡ neg_ℤ ax = omega (arith, ints) in
    let f = ring (dx ∷ dy ∷ ax ∷ up ∷ []) (S (P (V 0) (V 3)) (P (V 1) (V 2))) (L (P (V 0) (V 3)) (P (V 1) (M (V 2)))) refl in
    f ∙ ap (λ (z : ℤ). (dx *ℤ up) -ℤ (dy *ℤ z)) (sym e)

pub along_zero : (n k dx dy ax rise : ℤ) → (dy *ℤ rise) -ℤ (dx *ℤ ((n *ℤ ax) +ℤ (k *ℤ dx))) ≡ (dx *ℤ ((n *ℤ (pos 0 -ℤ ax)) -ℤ (k *ℤ dx))) +ℤ (dy *ℤ rise)
along_zero n k dx dy ax rise =
    let e : pos 0 -ℤ ax ≡ neg_ℤ ax = omega (arith, ints) in
    let f = ring (n ∷ k ∷ dx ∷ dy ∷ ax ∷ rise ∷ [])
    (L (P (V 3) (V 5)) (P (V 2) (S (P (V 0) (V 4)) (P (V 1) (V 2)))))
    (S (P (V 2) (L (P (V 0) (M (V 4))) (P (V 1) (V 2)))) (P (V 3) (V 5))) refl in
    f ∙ ap (λ (z : ℤ). (dx *ℤ ((n *ℤ z) -ℤ (k *ℤ dx))) +ℤ (dy *ℤ rise)) (sym e)

-- ---- spans

pub across_row : (s : Stretch) (w : ℕ) (span : Span) (x y : ℤ) →
    (IsIn span x ↔ (((aside s.start s.end (spot (pos 0) y) -ℤ pos w) ≤ℤ (x *ℤ (s.end.y -ℤ s.start.y))) × ((x *ℤ (s.end.y -ℤ s.start.y)) ≤ℤ (aside s.start s.end (spot (pos 0) y) +ℤ pos w)))) →
    IsIn span x ↔ IsBand s w (spot x y)
across_row s w span x y f =
    let e = aside_at s x y in (
      (λ i. let p = f.0 i in record { low = omega (arith, ints, e, p.1); high = omega (arith, ints, e, p.0) }),
      (λ i. f.1 (omega (arith, ints, e, i.high), omega (arith, ints, e, i.low))),
    )

pub along_row : (s : Stretch) (span : Span) (x y : ℤ) →
    (IsIn span x ↔ (((pos 1 -ℤ along s (spot (pos 0) y)) ≤ℤ (x *ℤ (pos s.parts *ℤ (s.end.x -ℤ s.start.x)))) × ((x *ℤ (pos s.parts *ℤ (s.end.x -ℤ s.start.x))) ≤ℤ ((squared_length s.start s.end -ℤ pos 1) -ℤ along s (spot (pos 0) y))))) →
    IsIn span x ↔ IsAlong s (spot x y)
along_row s span x y f =
    let e = along_at s x y in (
      (λ i. let p = f.0 i in record { after = omega (arith, ints, e, p.0); before = omega (arith, ints, e, p.1) }),
      (λ i. f.1 (omega (arith, ints, e, i.after), omega (arith, ints, e, i.before))),
    )

no_way : (a b : ℤ) → b ≡ a → b -ℤ a ≡ pos 0
no_way a b e = omega (arith, ints, e)

pub level_row : (s : Stretch) (x y : ℤ) → s.end.y ≡ s.start.y → aside s.start s.end (spot x y) ≡ aside s.start s.end (spot (pos 0) y)
level_row s x y level =
    let e = aside_at s x y in
    let f : x *ℤ (s.end.y -ℤ s.start.y) ≡ pos 0 = ap (λ (z : ℤ). x *ℤ z) (no_way s.start.y s.end.y level) ∙ *ℤ-zero x in
    omega (arith, ints, e, f)

pub upright_row : (s : Stretch) (x y : ℤ) → s.end.x ≡ s.start.x → along s (spot x y) ≡ along s (spot (pos 0) y)
upright_row s x y upright =
    let e = along_at s x y in
    let g : pos s.parts *ℤ (s.end.x -ℤ s.start.x) ≡ pos 0 = ap (λ (z : ℤ). pos s.parts *ℤ z) (no_way s.start.x s.end.x upright) ∙ *ℤ-zero (pos s.parts) in
    let f : x *ℤ (pos s.parts *ℤ (s.end.x -ℤ s.start.x)) ≡ pos 0 = ap (λ (z : ℤ). x *ℤ z) g ∙ *ℤ-zero x in
    omega (arith, ints, e, f)

pub level_band : (s : Stretch) (w : ℕ) (x y : ℤ) → s.end.y ≡ s.start.y → neg_ℤ (pos w) ≤ℤ aside s.start s.end (spot (pos 0) y) → aside s.start s.end (spot (pos 0) y) ≤ℤ pos w → IsBand s w (spot x y)
level_band s w x y level low high = let e = level_row s x y level in record { low = omega (arith, ints, e, low); high = omega (arith, ints, e, high) }

pub upright_along : (s : Stretch) (x y : ℤ) → s.end.x ≡ s.start.x → pos 0 <ℤ along s (spot (pos 0) y) → along s (spot (pos 0) y) <ℤ squared_length s.start s.end → IsAlong s (spot x y)
upright_along s x y upright after before = let e = upright_row s x y upright in record { after = omega (arith, ints, e, after); before = omega (arith, ints, e, before) }

-- a line of no length has nothing along it
pub no_line : (s : Stretch) (x y : ℤ) → s.end.x ≡ s.start.x → s.end.y ≡ s.start.y → ¬ (IsAlong s (spot x y))
no_line s x y upright level h =
    let ex = ap (λ (z : ℤ). z *ℤ z) (no_way s.start.x s.end.x upright) in
    let ey = ap (λ (z : ℤ). z *ℤ z) (no_way s.start.y s.end.y level) in
    omega (arith, ints, h.after, h.before, ex, ey)

pub none_row : (span : Span) (x : ℤ) (Those : Type 0) → ¬ (IsIn span x) → ¬ Those → IsIn span x ↔ Those
none_row span x Those none f = ((λ i. absurd (none i)), (λ p. absurd (f p)))

pub no_product : (n : ℕ) (d : ℤ) → 0 < n → pos n *ℤ d ≡ pos 0 → d ≡ pos 0
no_product n d some e =
    let z : pos n *ℤ pos 0 ≡ pos 0 = omega (arith, ints) in
    let a = times_out (pos n) d (pos 0) (omega (arith, ints, some)) (omega (arith, ints, e, z)) in
    let b = times_out (pos n) (pos 0) d (omega (arith, ints, some)) (omega (arith, ints, e, z)) in
    omega (arith, ints, a, b)

-- ---- rows out of reach

above_ends : (n k r : ℕ) (a b y : ℤ) → 0 < n → k ≤ n → (a +ℤ pos r) <ℤ y → (b +ℤ pos r) <ℤ y → pos (n * r) <ℤ ahead n k a b y
above_ends n k r a b y some small p q =
    let m = n - k in
    let e : n ≡ m + k = omega arith in
    let f = ring (pos m ∷ pos k ∷ a ∷ b ∷ y ∷ pos r ∷ [])
    (L (L (P (S (V 0) (V 1)) (L (V 4) (V 2))) (P (V 1) (L (V 3) (V 2)))) (P (S (V 0) (V 1)) (V 5)))
    (S (P (V 0) (L (V 4) (S (V 2) (V 5)))) (P (V 1) (L (V 4) (S (V 3) (V 5))))) refl in
    let g = times_most (pos m) (pos 1) (y -ℤ (a +ℤ pos r)) (omega (arith, ints)) (omega (arith, ints, p)) in
    let h = times_most (pos k) (pos 1) (y -ℤ (b +ℤ pos r)) (omega (arith, ints)) (omega (arith, ints, q)) in
    rw e (omega (arith, ints, f, g, h, some, e))

below_ends : (n k r : ℕ) (a b y : ℤ) → 0 < n → k ≤ n → y <ℤ (a -ℤ pos r) → y <ℤ (b -ℤ pos r) → ahead n k a b y <ℤ neg_ℤ (pos (n * r))
below_ends n k r a b y some small p q =
    let m = n - k in
    let e : n ≡ m + k = omega arith in
    let f = ring (pos m ∷ pos k ∷ a ∷ b ∷ y ∷ pos r ∷ [])
    (S (L (P (S (V 0) (V 1)) (L (V 4) (V 2))) (P (V 1) (L (V 3) (V 2)))) (P (S (V 0) (V 1)) (V 5)))
    (M (S (P (V 0) (L (L (V 2) (V 5)) (V 4))) (P (V 1) (L (L (V 3) (V 5)) (V 4))))) refl in
    let g = times_most (pos m) (pos 1) ((a -ℤ pos r) -ℤ y) (omega (arith, ints)) (omega (arith, ints, p)) in
    let h = times_most (pos k) (pos 1) ((b -ℤ pos r) -ℤ y) (omega (arith, ints)) (omega (arith, ints, q)) in
    rw e (omega (arith, ints, f, g, h, some, e))

own_root : (m : ℕ) → IsRootFloor (m * m) m
own_root m = record { square = omega arith; greatest = omega arith }

on_line : (s : Stretch) (n k : ℕ) → s.part < s.parts → IsOn s n k → k ≤ n
on_line s n k less h =
    elim (cases_lt n k) [
      | inl more ↦ (let a = mul-le (n + 1) s.parts k s.parts (omega arith) (omega arith) in let b = mul-le (s.part + 1) n s.parts n (omega arith) (omega arith) in absurd (omega (arith, a, b, h.last)))
      | inr less ↦ less
    ]

pub far_row : (s : Stretch) (r : ℕ) (x y : ℤ) → s.part < s.parts → IsPast s.start.y s.end.y r y → ¬ (IsNear s r (spot x y))
far_row s r x y less past h =
    let n = h.0 in let k = h.1 in
    let small = on_line s n k less h.2 in
    let a = square_least (ahead n k s.start.x s.end.x x) in
    let m = (root_is (ahead n k s.start.y s.end.y y) ((n * r) * (n * r)) (n * r) (own_root (n * r))).0 (omega (arith, ints, a, h.3)) in
    elim past [
      | inl p ↦ (let q = above_ends n k r s.start.y s.end.y y h.2.some small p.0 p.1 in omega (arith, ints, m.1, q))
      | inr p ↦ (let q = below_ends n k r s.start.y s.end.y y h.2.some small p.0 p.1 in omega (arith, ints, m.0, q))
    ]

-- ---- all that is near

close_is : (s : Stretch) (r w : ℕ) (q : Spot) → IsWidth s r w → IsClose s r q ↔ IsBand s w q
close_is s r w q h =
    let l = squared_length s.start s.end in
    let a = square_least (s.end.x -ℤ s.start.x) in
    let b = square_least (s.end.y -ℤ s.start.y) in
    let e : pos (r * r) *ℤ l ≡ pos (r * r * unsigned_abs l) = ap (λ (z : ℤ). pos (r * r) *ℤ z) (natural l (omega (arith, ints, a, b))) in
    let f = root_is (aside s.start s.end q) (r * r * unsigned_abs l) w h in (
      (λ i. let p = f.0 (rw e at i) in record { low = p.0; high = p.1 }),
      (λ i. rw e (f.1 (i.low, i.high))),
    )

pub near_row : (s : Stretch) (r w : ℕ) (y : ℤ) (a b c ab all : Span) → 0 < s.parts → IsWidth s r w →
    ((x : ℤ) → IsIn a x ↔ IsAround s.parts s.part s.start s.end r (spot x y)) →
    ((x : ℤ) → IsIn b x ↔ IsAround s.parts (s.part + 1) s.start s.end r (spot x y)) →
    ((x : ℤ) → IsIn c x ↔ (IsAlong s (spot x y) × IsBand s w (spot x y))) →
    ((x : ℤ) → IsInEither a b x → IsIn ab x) → ((x : ℤ) → IsIn ab x → IsBetween a b x) →
    ((x : ℤ) → IsInEither ab c x → IsIn all x) → ((x : ℤ) → IsIn all x → IsBetween ab c x) →
    (x : ℤ) → IsIn all x ↔ IsNear s r (spot x y)
near_row s r w y a b c ab all some width fa fb fc hab bab hall ball x =
    let near_a : (z : ℤ) → IsIn a z → IsNear s r (spot z y) = λ z i. first_of s r (spot z y) some ((fa z).0 i) in
    let near_b : (z : ℤ) → IsIn b z → IsNear s r (spot z y) = λ z i. last_of s r (spot z y) some ((fb z).0 i) in
    let near_c : (z : ℤ) → IsIn c z → IsNear s r (spot z y) =
    λ z i. let p = (fc z).0 i in beside_of s r (spot z y) (record { along = p.0; close = (close_is s r w (spot z y) width).1 p.1 }) in
    let near_e : (z : ℤ) → IsInEither a b z → IsNear s r (spot z y) = λ z i. elim i [ inl p ↦ near_a z p | inr p ↦ near_b z p ] in
    let near_ab : (z : ℤ) → IsIn ab z → IsNear s r (spot z y) =
    λ z i. let p = bab z i in between s r p.least z p.greatest y p.low p.high (near_e p.least p.least_in) (near_e p.greatest p.greatest_in) in
    let near_f : (z : ℤ) → IsInEither ab c z → IsNear s r (spot z y) = λ z i. elim i [ inl p ↦ near_ab z p | inr p ↦ near_c z p ] in (
      (λ i. let p = ball x i in between s r p.least x p.greatest y p.low p.high (near_f p.least p.least_in) (near_f p.greatest p.greatest_in)),
      (λ h. elim (cases_of s r (spot x y) h) [
        | inl p ↦ hall x (inl (hab x (inl ((fa x).1 p))))
        | inr (inl p) ↦ hall x (inl (hab x (inr ((fb x).1 p))))
        | inr (inr p) ↦ hall x (inr ((fc x).1 (p.along, (close_is s r w (spot x y) width).0 p.close)))
      ]),
    )
