-- The spokes that the sector of an arc contains, and those that it does not contain.
use Rattle.std.proofs.Common.{◌≡◌, ℕ, zero, suc, ◌+◌, ◌-◌, ◌*◌, ◌<◌, ◌≤◌, ℤ, pos, ◌-ℤ◌, negsuc, neg_ℤ, ◌≤ℤ◌, unsigned_abs, ◌⊎◌, inl, inr, refl, sym, ◌∙◌, ap}
use Rattle.std.proofs.Common.{subst, arith}
use Rattle.std.specs.Prelude.{Bool, true, false, int_lt, ◌&&◌, ◌||◌, if◌then◌else◌}
use Rattle.std.proofs.lemmas.Bool.{cases_lt}
use Rattle.std.proofs.lemmas.Int.{ints}
use Rattle.std.proofs.lemmas.Nat.{mul-le}
use borrow.Author.Differences.{neg_is}
use Rattle.ngc_fixed_length.specs.Signed.{is_zero}
use Rattle.ngc_fixed_length.specs.Places.{dot, from, shifted}
use Rattle.ngc_fixed_length.specs.declared.points.Point2.{Point2}
use Rattle.ngc_circle_walk.specs.declared.spoke.Quadrant.{Quadrant}
use Rattle.ngc_circle_walk.specs.declared.spoke.Quadrant.TheVariants.{First, Second, Third, Fourth}
use Rattle.ngc_circle_walk.specs.declared.spoke.Spoke.{Spoke}
use Rattle.ngc_circle_walk.specs.Quadrants.{following}
use Rattle.ngc_circle_walk.specs.Around.{around}
use Rattle.ngc_circle_walk.proofs.QuadrantTurns.{cross_same, cross_next, cross_behind}
use Rattle.ngc_circle_walk.proofs.DirectionsInSector.{IsWithinTurn, both_ahead, one_ahead}
use Rattle.ngc_circle_walk.specs.Directions.{IsNoLater}
use Rattle.ngc_arc_geometry.specs.Shape.{ArcShape, start_of, end_of}
use Rattle.ngc_arc_geometry.specs.Sector.{turn_from, is_ahead, same_direction, in_sector}
use Rattle.ngc_circle_laws.specs.Placed.{mirrored, placed, turned_by, axis_spoke, IsATurn}
use Rattle.ngc_circle_laws.proofs.CrossProducts.{times_neg, neg_times, negs_times, turn_placed, dot_placed, four_on, same_axis, IsBehind, ahead_or_behind, is_ahead_true}
use Rattle.ngc_circle_laws.proofs.CrossProducts.{is_ahead_false}

-- the test of the definition, with start and end as parameters
abbrev pub between : ArcShape → Point2 → Point2 → Point2 → Bool
between a b e p =
    if same_direction a b e then true
    else (if is_ahead a b e then is_ahead a b p && is_ahead a p e else is_ahead a b p || is_ahead a p e)

pub in_sector_is : (a : ArcShape) (b e p : Point2) → start_of a ≡ b → end_of a ≡ e → in_sector a p ≡ between a b e p
in_sector_is a b e p hb he = ap (λ s. between a s (end_of a) p) hb ∙ ap (λ s. between a b s p) he

if_full : (f x : Bool) → f ≡ true → (if f then true else x) ≡ true
if_full f x h = rw h refl

if_any : (f x : Bool) → x ≡ true → (if f then true else x) ≡ true
if_any true x h = refl
if_any false x h = h

if_small : (f i j : Bool) → f ≡ true → i ≡ true → j ≡ true → (if f then (i && j) else (i || j)) ≡ true
if_small f i j hf hi hj = rw (hf, hi, hj) refl

or_left : (i j : Bool) → i ≡ true → (i || j) ≡ true
or_left i j h = rw h refl

or_right : (i j : Bool) → j ≡ true → (i || j) ≡ true
or_right true j h = refl
or_right false j h = h

if_large : (f i j : Bool) → f ≡ false → (i ≡ true) ⊎ (j ≡ true) → (if f then (i && j) else (i || j)) ≡ true
if_large f i j hf (inl hi) = rw hf (or_left i j hi)
if_large f i j hf (inr hj) = rw hf (or_right i j hj)

-- ---- full circles

dot_same : (q : Quadrant) (x y z w : ℕ) → dot (around q x y) (around q z w) ≡ pos (x * z + y * w)
dot_same First x y z w = refl
dot_same Second x y z w = rw (negs_times (pos y) (pos w)) (omega (arith, ints))
dot_same Third x y z w = rw (negs_times (pos x) (pos z), negs_times (pos y) (pos w)) refl
dot_same Fourth x y z w = rw (negs_times (pos x) (pos z)) (omega (arith, ints))

positive : (z : ℤ) (n : ℕ) → z ≡ pos n → 0 < n → int_lt (pos 0) z ≡ true
positive z n e h = rw e (grind (arith, ints))

nothing : (z : ℤ) → z ≡ pos 0 → is_zero z ≡ true
nothing z e = rw e refl

both : (i j : Bool) → i ≡ true → j ≡ true → (i && j) ≡ true
both i j hi hj = rw (hi, hj) refl

pub same_ray : (a : ArcShape) (s t : Spoke) → t.quadrant ≡ s.quadrant → 0 < s.x → 0 < t.x → s.x * t.y ≡ s.y * t.x →
    same_direction a (placed a s) (placed a t) ≡ true
same_ray a s t e hs ht h =
    let c : turn_from a (placed a s) (placed a t) ≡ pos 0 = turn_placed a s t ∙ (rw e (cross_same s.quadrant s.x s.y t.x t.y ∙ omega (arith, ints, h))) in
    let d : dot (from a.centre (placed a s)) (from a.centre (placed a t)) ≡ pos (s.x * t.x + s.y * t.y) =
    dot_placed a s t ∙ (rw e (dot_same s.quadrant s.x s.y t.x t.y)) in
    both _ _ (nothing _ c) (positive _ (s.x * t.x + s.y * t.y) d (omega (arith, mul-le 1 1 s.x t.x hs ht)))

-- ---- the points between

within_or_full : (n x y z w : ℕ) → IsATurn n x y z w → IsWithinTurn n x y z w ⊎ ((n ≡ 4) × (x * w ≡ y * z))
within_or_full zero x y z w h = inl tt
within_or_full (suc zero) x y z w h = inl tt
within_or_full (suc (suc zero)) x y z w h = inl tt
within_or_full (suc (suc (suc zero))) x y z w h = inl tt
within_or_full (suc (suc (suc (suc zero)))) x y z w h = elim (cases_lt (x * w) (y * z)) [ inl less ↦ inl less | inr more ↦ inr (refl, omega (arith, h)) ]
within_or_full (suc (suc (suc (suc (suc n))))) x y z w h = absurd h

pub few_quadrants : (n x y z w : ℕ) → IsATurn n x y z w → n ≤ 4
few_quadrants zero x y z w h = omega arith
few_quadrants (suc zero) x y z w h = omega arith
few_quadrants (suc (suc zero)) x y z w h = omega arith
few_quadrants (suc (suc (suc zero))) x y z w h = omega arith
few_quadrants (suc (suc (suc (suc zero)))) x y z w h = omega arith
few_quadrants (suc (suc (suc (suc (suc n))))) x y z w h = absurd h

pub turned_sum : (m n : ℕ) (q : Quadrant) → turned_by n (turned_by m q) ≡ turned_by (m + n) q
turned_sum m zero q = let e : m + 0 ≡ m = omega arith in rw e refl
turned_sum m (suc n) q = let e : m + suc n ≡ suc (m + n) = omega arith in rw e (ap following (turned_sum m n q))

-- a point m quadrants after the start b and n before the end e, with neither before its ray
between_ahead : (a : ArcShape) (b p e : Spoke) (m n : ℕ) → p.quadrant ≡ turned_by m b.quadrant → e.quadrant ≡ turned_by n p.quadrant →
    0 < b.x → 0 < p.x → 0 < e.x → IsNoLater m b.x b.y p.x p.y → IsNoLater n p.x p.y e.x e.y → IsATurn (m + n) b.x b.y e.x e.y →
    between a (placed a b) (placed a e) (placed a p) ≡ true
between_ahead a b p e m n hp he bx px ex bp pe turn =
    let few = few_quadrants (m + n) b.x b.y e.x e.y turn in
    let whole : e.quadrant ≡ turned_by (m + n) b.quadrant = he ∙ ap (turned_by n) hp ∙ turned_sum m n b.quadrant in
    let fm : m ≤ 4 = omega (arith, few) in
    let fn : n ≤ 4 = omega (arith, few) in
    elim (within_or_full (m + n) b.x b.y e.x e.y turn) [
      | inr full ↦ (
          let same : e.quadrant ≡ b.quadrant = whole ∙ ap (λ k. turned_by k b.quadrant) full.0 ∙ four_on b.quadrant in
          if_full _ _ (same_ray a b e same bx ex full.1))
      | inl within ↦ if_any _ _ (
          elim (ahead_or_behind (m + n) b.x b.y e.x e.y) [
            | inl small ↦ (
                let two = both_ahead m n b.x b.y p.x p.y e.x e.y bx px ex bp pe within small in
                if_small _ _ _ (is_ahead_true a b e (m + n) few whole small) (is_ahead_true a b p m fm hp two.0) (is_ahead_true a p e n fn he two.1))
            | inr large ↦ if_large _ _ _ (is_ahead_false a b e (m + n) few whole large) (
                elim (one_ahead m n b.x b.y p.x p.y e.x e.y bx px ex bp pe within) [
                  | inl h ↦ inl (is_ahead_true a b p m fm hp h)
                  | inr h ↦ inr (is_ahead_true a p e n fn he h)
                ])
          ])
    ]

pub on_axis : (a : ArcShape) (p : Spoke) → p.x ≡ 0 → placed a p ≡ placed a (record { quadrant = following p.quadrant; x = p.y; y = 0 })
on_axis a p h = rw h (ap (λ d. shifted a.centre (mirrored a.turn d)) (same_axis p.quadrant p.y))

some_factor : (x y z : ℕ) → z < x * y → 0 < y
some_factor x zero z h = absurd (omega (arith, h))
some_factor x (suc y) z h = omega arith

pub beside : (n y z w : ℕ) → IsNoLater n y 0 z w
beside zero y z w = omega arith
beside (suc n) y z w = tt

-- the same for a point on the axis at its quadrant's end
between_somewhere : (a : ArcShape) (b p e : Spoke) (m n : ℕ) → p.quadrant ≡ turned_by m b.quadrant → e.quadrant ≡ turned_by n p.quadrant →
    0 < b.x → 0 < p.x + p.y → 0 < e.x → IsNoLater m b.x b.y p.x p.y → IsNoLater n p.x p.y e.x e.y → IsATurn (m + n) b.x b.y e.x e.y →
    between a (placed a b) (placed a e) (placed a p) ≡ true
between_somewhere a b p e m zero hp he bx some ex bp pe turn =
    elim (cases_lt 0 p.x) [
      | inl px ↦ between_ahead a b p e m zero hp he bx px ex bp pe turn
      | inr none ↦ (
          let y : 0 < p.y = omega (arith, some, none) in
          let x : p.x ≡ 0 = omega (arith, none) in
          let pe0 : p.y * e.x ≤ 0 * e.y = rw x at pe in
          absurd (omega (arith, pe0, mul-le 1 1 p.y e.x y ex)))
    ]
between_somewhere a b p e m (suc n) hp he bx some ex bp pe turn =
    elim (cases_lt 0 p.x) [
      | inl px ↦ between_ahead a b p e m (suc n) hp he bx px ex bp pe turn
      | inr none ↦ (
          let y : 0 < p.y = omega (arith, some, none) in
          let x : p.x ≡ 0 = omega (arith, none) in
          let q : Spoke = record { quadrant = following p.quadrant; x = p.y; y = 0 } in
          let one : 1 + n ≡ suc n = omega arith in
          let sum : m + suc n ≡ suc m + n = omega arith in
          let hq : e.quadrant ≡ turned_by n q.quadrant = he ∙ sym (turned_sum 1 n p.quadrant ∙ ap (λ k. turned_by k p.quadrant) one) in
          let last : IsNoLater n p.y 0 e.x e.y = beside n p.y e.x e.y in
          let turn' : IsATurn (suc m + n) b.x b.y e.x e.y = subst (λ k. IsATurn k b.x b.y e.x e.y) sum turn in
          subst (λ z. between a (placed a b) (placed a e) z ≡ true) (sym (on_axis a p x))
          (between_ahead a b q e (suc m) n (ap following hp) hq bx y ex tt last turn'))
    ]

-- A point m quadrants after the start b and n before the end e, with neither before its ray, is in
-- the sector.
pub in_round : (a : ArcShape) (b p e : Spoke) (m n : ℕ) → start_of a ≡ placed a b → end_of a ≡ placed a e →
    p.quadrant ≡ turned_by m b.quadrant → e.quadrant ≡ turned_by n p.quadrant →
    0 < b.x → 0 < p.x + p.y → 0 < e.x → IsNoLater m b.x b.y p.x p.y → IsNoLater n p.x p.y e.x e.y → IsATurn (m + n) b.x b.y e.x e.y →
    in_sector a (placed a p) ≡ true
in_round a b p e m n hb hend hp he bx some ex bp pe turn =
    in_sector_is a (placed a b) (placed a e) (placed a p) hb hend ∙ between_somewhere a b p e m n hp he bx some ex bp pe turn

-- ---- quadrant points past the end

dot_opposite : (q : Quadrant) (x y z w : ℕ) → dot (around q x y) (around (following (following q)) z w) ≡ neg_ℤ (pos (x * z + y * w))
dot_opposite First x y z w = let f = neg_is (pos (x * z)) in let g = neg_is (pos (y * w)) in let h = neg_is (pos (x * z + y * w)) in
    rw (times_neg (pos x) (pos z), times_neg (pos y) (pos w)) (omega (arith, ints, f.0, f.1, g.0, g.1, h.0, h.1))
dot_opposite Second x y z w = let f = neg_is (pos (x * z)) in let g = neg_is (pos (y * w)) in let h = neg_is (pos (x * z + y * w)) in
    rw (times_neg (pos x) (pos z), neg_times (pos y) (pos w)) (omega (arith, ints, f.0, f.1, g.0, g.1, h.0, h.1))
dot_opposite Third x y z w = let f = neg_is (pos (x * z)) in let g = neg_is (pos (y * w)) in let h = neg_is (pos (x * z + y * w)) in
    rw (neg_times (pos x) (pos z), neg_times (pos y) (pos w)) (omega (arith, ints, f.0, f.1, g.0, g.1, h.0, h.1))
dot_opposite Fourth x y z w = let f = neg_is (pos (x * z)) in let g = neg_is (pos (y * w)) in let h = neg_is (pos (x * z + y * w)) in
    rw (neg_times (pos x) (pos z), times_neg (pos y) (pos w)) (omega (arith, ints, f.0, f.1, g.0, g.1, h.0, h.1))

something : (z : ℤ) → 0 < unsigned_abs z → is_zero z ≡ false
something z h = grind (arith, h)

not_positive : (z : ℤ) → z ≤ℤ pos 0 → int_lt (pos 0) z ≡ false
not_positive (pos n) h = grind (arith, ints, h)
not_positive (negsuc n) h = refl

not_left : (i j : Bool) → i ≡ false → (i && j) ≡ false
not_left i j h = rw h refl

not_right : (i j : Bool) → j ≡ false → (i && j) ≡ false
not_right true j h = h
not_right false j h = refl

some_turn : (a : ArcShape) (b e : Spoke) → 0 < unsigned_abs (turn_from a (placed a b) (placed a e)) → same_direction a (placed a b) (placed a e) ≡ false
some_turn a b e h =
    let t = turn_from a (placed a b) (placed a e) in
    let d = dot (from a.centre (placed a b)) (from a.centre (placed a e)) in
    not_left (is_zero t) (int_lt (pos 0) d) (something t h)

rays_apart : (a : ArcShape) (b e : Spoke) (n : ℕ) → n ≤ 3 → e.quadrant ≡ turned_by n b.quadrant → 0 < b.x → 0 < e.x → IsATurn n b.x b.y e.x e.y →
    same_direction a (placed a b) (placed a e) ≡ false
rays_apart a b e zero few h bx ex turn =
    let c : turn_from a (placed a b) (placed a e) ≡ pos (b.x * e.y) -ℤ pos (b.y * e.x) = turn_placed a b e ∙ (rw h (cross_same b.quadrant b.x b.y e.x e.y)) in
    some_turn a b e (subst (λ z. 0 < unsigned_abs z) (sym c) (omega (arith, ints, turn)))
rays_apart a b e (suc zero) few h bx ex turn =
    let c : turn_from a (placed a b) (placed a e) ≡ pos (b.x * e.x + b.y * e.y) = turn_placed a b e ∙ (rw h (cross_next b.quadrant b.x b.y e.x e.y)) in
    some_turn a b e (subst (λ z. 0 < unsigned_abs z) (sym c) (omega (arith, ints, mul-le 1 1 b.x e.x bx ex)))
rays_apart a b e (suc (suc zero)) few h bx ex turn =
    let i = neg_is (pos (b.x * e.x + b.y * e.y)) in
    let d : dot (from a.centre (placed a b)) (from a.centre (placed a e)) ≡ neg_ℤ (pos (b.x * e.x + b.y * e.y)) =
    dot_placed a b e ∙ (rw h (dot_opposite b.quadrant b.x b.y e.x e.y)) in
    not_right _ _ (not_positive _ (subst (λ z. z ≤ℤ pos 0) (sym d) (omega (arith, ints, i.0, i.1))))
rays_apart a b e (suc (suc (suc zero))) few h bx ex turn =
    let i = neg_is (pos (b.x * e.x + b.y * e.y)) in
    let c : turn_from a (placed a b) (placed a e) ≡ neg_ℤ (pos (b.x * e.x + b.y * e.y)) =
    turn_placed a b e ∙ (rw h (cross_behind b.quadrant b.x b.y e.x e.y)) in
    some_turn a b e (subst (λ z. 0 < unsigned_abs z) (sym c) (omega (arith, ints, i.0, i.1, mul-le 1 1 b.x e.x bx ex)))
rays_apart a b e (suc (suc (suc (suc n)))) few h bx ex turn = absurd (omega (arith, few))

-- the half axis j quadrants further on is past the end, which is n quadrants further on
one_behind : (j n bx by ex ey r : ℕ) → n < j → j ≤ 4 → (j ≡ 4 → 0 < by) → 0 < bx → 0 < ex → 0 < r → IsATurn n bx by ex ey →
    IsBehind j bx by r 0 ⊎ IsBehind (n + 4 - j) r 0 ex ey
one_behind zero n bx by ex ey r less few last b e some turn = absurd (omega (arith, less))
one_behind (suc zero) zero bx by ex ey r less few last b e some turn = inr (omega (arith, mul-le 1 1 r ex some e))
one_behind (suc zero) (suc n) bx by ex ey r less few last b e some turn = absurd (omega (arith, less))
one_behind (suc (suc zero)) zero bx by ex ey r less few last b e some turn = inr (omega (arith, mul-le 1 1 r ey some (some_factor bx ey (by * ex) turn)))
one_behind (suc (suc zero)) (suc zero) bx by ex ey r less few last b e some turn = inr (omega (arith, mul-le 1 1 r ex some e))
one_behind (suc (suc zero)) (suc (suc n)) bx by ex ey r less few last b e some turn = absurd (omega (arith, less))
one_behind (suc (suc (suc zero))) n bx by ex ey r less few last b e some turn = inl (omega (arith, mul-le 1 1 bx r b some))
one_behind (suc (suc (suc (suc zero)))) n bx by ex ey r less few last b e some turn = inl (omega (arith, mul-le 1 1 by r (last refl) some))
one_behind (suc (suc (suc (suc (suc j))))) n bx by ex ey r less few last b e some turn = absurd (omega (arith, few))

both_behind : (j n bx by ex ey r : ℕ) → n < j → j ≤ 4 → (j ≡ 4 → 0 < by) → 0 < bx → 0 < ex → 0 < r → IsATurn n bx by ex ey → IsBehind n bx by ex ey →
    IsBehind j bx by r 0 × IsBehind (n + 4 - j) r 0 ex ey
both_behind zero n bx by ex ey r less few last b e some turn large = absurd (omega (arith, less))
both_behind (suc j) zero bx by ex ey r less few last b e some turn large = absurd (omega (arith, turn, large))
both_behind (suc j) (suc zero) bx by ex ey r less few last b e some turn large = absurd large
both_behind (suc zero) (suc (suc n)) bx by ex ey r less few last b e some turn large = absurd (omega (arith, less))
both_behind (suc (suc zero)) (suc (suc n)) bx by ex ey r less few last b e some turn large = absurd (omega (arith, less))
both_behind (suc (suc (suc zero))) (suc (suc zero)) bx by ex ey r less few last b e some turn large =
    (omega (arith, mul-le 1 1 bx r b some), omega (arith, mul-le 1 1 r ex some e))
both_behind (suc (suc (suc zero))) (suc (suc (suc n))) bx by ex ey r less few last b e some turn large = absurd (omega (arith, less))
both_behind (suc (suc (suc (suc zero)))) (suc (suc zero)) bx by ex ey r less few last b e some turn large =
    (omega (arith, mul-le 1 1 by r (last refl) some), omega (arith, mul-le 1 1 r ey some (some_factor bx ey (by * ex) large)))
both_behind (suc (suc (suc (suc zero)))) (suc (suc (suc zero))) bx by ex ey r less few last b e some turn large =
    (omega (arith, mul-le 1 1 by r (last refl) some), omega (arith, mul-le 1 1 r ex some e))
both_behind (suc (suc (suc (suc zero)))) (suc (suc (suc (suc n)))) bx by ex ey r less few last b e some turn large = absurd (omega (arith, less))
both_behind (suc (suc (suc (suc (suc j))))) (suc (suc n)) bx by ex ey r less few last b e some turn large = absurd (omega (arith, few))

unless_small : (s f i j : Bool) → s ≡ false → f ≡ true → (i ≡ false) ⊎ (j ≡ false) → (if s then true else (if f then (i && j) else (i || j))) ≡ false
unless_small s f i j hs hf (inl hi) = rw (hs, hf) (not_left i j hi)
unless_small s f i j hs hf (inr hj) = rw (hs, hf) (not_right i j hj)

unless_large : (s f i j : Bool) → s ≡ false → f ≡ false → i ≡ false → j ≡ false → (if s then true else (if f then (i && j) else (i || j))) ≡ false
unless_large s f i j hs hf hi hj = rw (hs, hf, hi, hj) refl

pub out_of_round : (a : ArcShape) (b e : Spoke) (r j n : ℕ) → start_of a ≡ placed a b → end_of a ≡ placed a e → e.quadrant ≡ turned_by n b.quadrant →
    n < j → j ≤ 4 → (j ≡ 4 → 0 < b.y) → 0 < b.x → 0 < e.x → 0 < r → IsATurn n b.x b.y e.x e.y →
    in_sector a (placed a (axis_spoke b r j)) ≡ false
out_of_round a b e r j n hb hend he less few last bx ex some turn =
    let p = axis_spoke b r j in
    let sum : j + (n + 4 - j) ≡ 4 + n = omega (arith, less, few) in
    let round : turned_by (4 + n) b.quadrant ≡ turned_by n b.quadrant = sym (turned_sum 4 n b.quadrant) ∙ ap (turned_by n) (four_on b.quadrant) in
    let hp : e.quadrant ≡ turned_by (n + 4 - j) p.quadrant = he ∙ sym (turned_sum j (n + 4 - j) b.quadrant ∙ ap (λ k. turned_by k b.quadrant) sum ∙ round) in
    let apart = rays_apart a b e n (omega (arith, less, few)) he bx ex turn in
    let small : n + 4 - j ≤ 4 = omega (arith, less) in
    in_sector_is a (placed a b) (placed a e) (placed a p) hb hend ∙
    elim (ahead_or_behind n b.x b.y e.x e.y) [
      | inl ahead ↦ unless_small _ _ _ _ apart (is_ahead_true a b e n (omega (arith, less, few)) he ahead) (
          elim (one_behind j n b.x b.y e.x e.y r less few last bx ex some turn) [
            | inl h ↦ inl (is_ahead_false a b p j few refl h)
            | inr h ↦ inr (is_ahead_false a p e (n + 4 - j) small hp h)
          ])
      | inr afterwards ↦ (
          let two = both_behind j n b.x b.y e.x e.y r less few last bx ex some turn afterwards in
          unless_large _ _ _ _ apart (is_ahead_false a b e n (omega (arith, less, few)) he afterwards) (is_ahead_false a b p j few refl two.0)
          (is_ahead_false a p e (n + 4 - j) small hp two.1))
    ]
