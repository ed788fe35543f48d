-- The law of cut arcs: each point of band and sector lies in the box of one of the pieces.
use Rattle.std.proofs.Common.{◌≡◌, ℕ, zero, suc, ◌+◌, ◌-◌, ◌*◌, ◌<◌, ◌≤◌, inl, inr, ap, ap₂, arith, refl, subst, ℤ, pos, negsuc, ◌+ℤ◌, ◌-ℤ◌, ◌*ℤ◌, neg_ℤ, ◌≤ℤ◌}
use Rattle.std.proofs.Common.{unsigned_abs, sym, ◌∙◌, ◌⊎◌, Bool, true, false, List, [], ◌∷◌}
use Rattle.std.specs.Prelude.{IsTrue, ◌&&◌, ◌||◌, not, int_le, int_lt, if◌then◌else◌, Any}
use Rattle.std.specs.Int.{int_min, int_max}
use Rattle.std.proofs.lemmas.Int.{ints, clamps}
use Rattle.std.proofs.lemmas.Bool.Decides.{nat_tests}
use Rattle.ngc_fixed_length.specs.Places.{from, cross, dot}
use Rattle.ngc_fixed_length.specs.Signed.{same, is_zero}
use Rattle.ngc_fixed_length.specs.Boxes.{IsIn}
use Rattle.ngc_fixed_length.specs.LinePath.{point}
use Rattle.ngc_fixed_length.specs.declared.points.Point2.{Point2}
use Rattle.ngc_fixed_length.specs.declared.points.GridBox.{GridBox}
use Rattle.ngc_fixed_length.specs.declared.points.StepPos.{StepPos}
use Rattle.ngc_arc_geometry.specs.Shape.{ArcShape, start_of, end_of}
use Rattle.ngc_arc_geometry.specs.Radii.{squared_distance, inner_radius, outer_radius, HasEvenRadii}
use Rattle.ngc_arc_geometry.specs.Sector.{turn_from, is_ahead, is_full, in_sector}
use Rattle.ngc_arc_geometry.specs.Swept.{margin, start_height, end_height}
use Rattle.ngc_arc_geometry.specs.GridPlaces.{seen, height_of}
use Rattle.ngc_arc_geometry.specs.ArcBand.{leeway, spread, IsInBand}
use Rattle.ngc_arc_geometry.specs.ArcSides.{IsBetweenEnds}
use Rattle.ngc_arc_geometry.specs.ArcPath.{IsArcOf}
use Rattle.ngc_arc_geometry.specs.CutArc.{is_in_band, share_quadrant, turns_on, passes_start, is_inner_cut, is_end, cut_follows, cut_box, IsCutChain, cut_boxes}
use Rattle.ngc_arc_geometry.specs.CutArc.{CoveredByCuts}
use Rattle.ngc_arc_geometry.proofs.CutInts.{three_turns}
use Rattle.ngc_arc_geometry.proofs.Squares.{first_within, second_within}
use Rattle.ngc_arc_geometry.proofs.CutSigns.{onward, backward}
use Rattle.ngc_arc_geometry.proofs.CutBetween.{IsAmong, AreAmong, between}
use Rattle.ngc_arc_geometry.proofs.CutGrid.{below_high, above_low, placed, heights, u_scaled, v_scaled}
use Rattle.ngc_arc_geometry.proofs.CutSeen.{faced, dot_by, turn_faced, reached, banded, start_reached, end_reached, AreAlike, alike_faced, among_faced, both}

le_of : (a b : ℤ) → IsTrue (int_le a b) → a ≤ℤ b
le_of a b h = grind (arith, ints)

lt_of : (a b : ℤ) → IsTrue (int_lt a b) → (a +ℤ pos 1) ≤ℤ b
lt_of a b h = grind (arith, ints)

-- what is known of a point that a box must contain
record IsToHold (g : ℕ) (a : ArcShape) (p : StepPos) : Type 0 where
  arc : HasEvenRadii a
  some : 0 < g
  small : 8 * g ≤ inner_radius a
  at : IsInBand a g (seen (pos g) a p)
  low : int_min (start_height (pos g) a) (end_height (pos g) a) ≤ℤ height_of a p
  high : height_of a p ≤ℤ int_max (start_height (pos g) a) (end_height (pos g) a)

margin_is : (g : ℕ) (a : ArcShape) → margin (pos g) a ≡ pos (2 * g + (outer_radius a - inner_radius a))
margin_is g a = omega (arith, ints)

-- a point between the cut points in the plane lies in the box
in_box : (g : ℕ) (a : ArcShape) (q r : Point2) (p : StepPos) → IsToHold g a p →
    AreAmong (2 * g + (outer_radius a - inner_radius a)) q r (seen (pos g) a p) → IsIn (cut_box (pos g) a q r) p
in_box g a q r p h m =
    let e = margin_is g a in
    placed a.plane p _ _ _ _ _ _ (record {
      u_low = above_low g _ _ h.some (omega (arith, ints, m.u.low, e, u_scaled a.plane (pos g) p));
      u_high = below_high g _ _ h.some (omega (arith, ints, m.u.high, e, u_scaled a.plane (pos g) p));
      v_low = above_low g _ _ h.some (omega (arith, ints, m.v.low, e, v_scaled a.plane (pos g) p));
      v_high = below_high g _ _ h.some (omega (arith, ints, m.v.high, e, v_scaled a.plane (pos g) p));
      w_low = h.low;
      w_high = h.high;
    })

-- a piece that turns forward, with both cut points in the band, contains the points of its cone
record IsPiece (g : ℕ) (a : ArcShape) (q r : Point2) : Type 0 where
  quadrant : AreAlike (from a.centre q) (from a.centre r)
  turns : pos 1 ≤ℤ turn_from a q r
  first : IsInBand a g q
  second : IsInBand a g r

held : (g : ℕ) (a : ArcShape) (q r : Point2) (p : StepPos) → IsToHold g a p → IsPiece g a q r →
    pos 0 ≤ℤ turn_from a q (seen (pos g) a p) → pos 0 ≤ℤ turn_from a (seen (pos g) a p) r → IsIn (cut_box (pos g) a q r) p
held g a q r p h k first second =
    let x = seen (pos g) a p in
    let s = alike_faced a q r k.quadrant in
    in_box g a q r p h (among_faced a q r x (2 * g + (outer_radius a - inner_radius a))
    (between (faced a q) (faced a r) (faced a x) (inner_radius a - g) (2 * g + (outer_radius a - inner_radius a)) s.u s.v
    (subst (λ t. pos 1 ≤ℤ t) (turn_faced a q r) k.turns) (subst (λ t. pos 0 ≤ℤ t) (turn_faced a q x) first) (subst (λ t. pos 0 ≤ℤ t) (turn_faced a x r) second)
    (banded a g q h.arc (omega (arith, h.small)) k.first) (banded a g r h.arc (omega (arith, h.small)) k.second)
    (banded a g x h.arc (omega (arith, h.small)) h.at)))

onward_in : (a : ArcShape) (z q r p : Point2) → pos 1 ≤ℤ turn_from a z q → pos 1 ≤ℤ turn_from a q r → pos 0 ≤ℤ turn_from a z p → pos 1 ≤ℤ turn_from a q p →
    pos 1 ≤ℤ turn_from a r p → pos 1 ≤ℤ turn_from a z r
onward_in a z q r p zq qr zp qp rp =
    subst (λ t. pos 1 ≤ℤ t) (sym (turn_faced a z r)) (onward (faced a z) (faced a q) (faced a r) (faced a p)
    (subst (λ t. pos 1 ≤ℤ t) (turn_faced a z q) zq) (subst (λ t. pos 1 ≤ℤ t) (turn_faced a q r) qr) (subst (λ t. pos 0 ≤ℤ t) (turn_faced a z p) zp)
    (subst (λ t. pos 1 ≤ℤ t) (turn_faced a q p) qp) (subst (λ t. pos 1 ≤ℤ t) (turn_faced a r p) rp))

backward_in : (a : ArcShape) (z q r p : Point2) → pos 1 ≤ℤ turn_from a z q → pos 1 ≤ℤ turn_from a q r → pos 1 ≤ℤ turn_from a p z → pos 1 ≤ℤ turn_from a p q →
    pos 0 ≤ℤ turn_from a p r → pos 1 ≤ℤ turn_from a z r
backward_in a z q r p zq qr pz pq pr =
    subst (λ t. pos 1 ≤ℤ t) (sym (turn_faced a z r)) (backward (faced a z) (faced a q) (faced a r) (faced a p)
    (subst (λ t. pos 1 ≤ℤ t) (turn_faced a z q) zq) (subst (λ t. pos 1 ≤ℤ t) (turn_faced a q r) qr) (subst (λ t. pos 1 ≤ℤ t) (turn_faced a p z) pz)
    (subst (λ t. pos 1 ≤ℤ t) (turn_faced a p q) pq) (subst (λ t. pos 0 ≤ℤ t) (turn_faced a p r) pr))

-- q is ahead of p, or p is ahead of q
sides : (a : ArcShape) (p q : Point2) → (pos 0 ≤ℤ turn_from a p q) ⊎ (pos 1 ≤ℤ turn_from a q p)
sides a p q = by (turn_from a p q) (turn_from a q p) opposite
  where
    opposite : (turn_from a p q +ℤ turn_from a q p) ≡ pos 0
    opposite = rw (turn_faced a p q, turn_faced a q p) (omega (arith, ints))

    by : (s t : ℤ) → (s +ℤ t) ≡ pos 0 → (pos 0 ≤ℤ s) ⊎ (pos 1 ≤ℤ t)
    by (pos s) t h = inl (omega (arith, ints))
    by (negsuc s) t h = inr (omega (arith, ints, h))

not_both : (a : ArcShape) (p q : Point2) → pos 0 ≤ℤ turn_from a p q → pos 1 ≤ℤ turn_from a q p → ⊥
not_both a p q h i =
    let j = subst (λ t. pos 0 ≤ℤ t) (turn_faced a p q) h in
    let k = subst (λ t. pos 1 ≤ℤ t) (turn_faced a q p) i in
    omega (arith, ints, j, k)

-- ---- the chain

turned_on : (a : ArcShape) (q r : Point2) → IsTrue (turns_on a q r) → AreAlike (from a.centre q) (from a.centre r) × (pos 1 ≤ℤ turn_from a q r)
turned_on a q r h =
    let d = from a.centre q in let e = from a.centre r in
    let s = both (share_quadrant a q r) (int_lt (pos 0) (turn_from a q r)) h in
    let t = both (int_le (pos 0) (d.u *ℤ e.u)) (int_le (pos 0) (d.v *ℤ e.v)) s.0 in
    (record { u = le_of (pos 0) (d.u *ℤ e.u) t.0; v = le_of (pos 0) (d.v *ℤ e.v) t.1 }, omega (arith, ints, lt_of (pos 0) (turn_from a q r) s.1))

equal_of : (x y : ℤ) → IsTrue (same x y) → x ≡ y
equal_of x y h = grind (arith, ints, nat_tests)

pub at_end : (a : ArcShape) (r : Point2) → IsTrue (is_end a r) → r ≡ end_of a
at_end a r h =
    let e = both (same r.u (end_of a).u) (same r.v (end_of a).v) h in
    ap₂ (λ (x y : ℤ). record { u = x; v = y }) (equal_of _ _ e.0) (equal_of _ _ e.1)

inner_piece : (g : ℕ) (a : ArcShape) (q r : Point2) → IsInBand a g q → IsTrue (cut_follows (pos g) a false q r) → IsPiece g a q r
inner_piece g a q r at h =
    let e = both (turns_on a q r) (is_inner_cut (pos g) a q r) h in
    let t = turned_on a q r e.0 in
    record { quadrant = t.0; turns = t.1; first = at; second = reached a g r (both (is_in_band a g r) (in_sector a r && not (passes_start a q r)) e.1).0 }

last_piece : (g : ℕ) (a : ArcShape) (q r : Point2) → HasEvenRadii a → IsInBand a g q → IsTrue (cut_follows (pos g) a true q r) → IsPiece g a q r
last_piece g a q r arc at h =
    let e = both (turns_on a q r) (is_end a r) h in
    let t = turned_on a q r e.0 in
    record { quadrant = t.0; turns = t.1; first = at; second = subst (IsInBand a g) (sym (at_end a r e.1)) (end_reached a g arc) }

ends_there : (g : ℕ) (a : ArcShape) (q r : Point2) → IsTrue (cut_follows (pos g) a true q r) → r ≡ end_of a
ends_there g a q r h = at_end a r (both (turns_on a q r) (is_end a r) h).1

any_here : (P : GridBox → Type 0) (b : GridBox) (bs : List GridBox) → P b → Any P (b ∷ bs)
any_here P b bs h = (0, b, omega arith, refl, h)

any_there : (P : GridBox → Type 0) (b : GridBox) (bs : List GridBox) → Any P bs → Any P (b ∷ bs)
any_there P b bs h = (suc h.0, h.1, omega (arith, h.2), h.3, h.4)

abbrev Held : ℕ → ArcShape → Point2 → List Point2 → StepPos → Type 0
Held g a q cuts p = Any (λ b. IsIn b p) (cut_boxes (pos g) a q cuts)

-- p is after z and q, and q is after z: one of the pieces from q on contains p, or p is after the
-- end too, and the end is after z
go_on : (g : ℕ) (a : ArcShape) (z q : Point2) (cuts : List Point2) (p : StepPos) → IsToHold g a p → IsCutChain (pos g) a q cuts → IsInBand a g q →
    pos 0 ≤ℤ turn_from a z (seen (pos g) a p) → pos 1 ≤ℤ turn_from a z q → pos 1 ≤ℤ turn_from a q (seen (pos g) a p) →
    Held g a q cuts p ⊎ ((pos 1 ≤ℤ turn_from a z (end_of a)) × (pos 1 ≤ℤ turn_from a (end_of a) (seen (pos g) a p)))
go_on g a z q [] p h c at zp zq qp = absurd c
go_on g a z q (r ∷ []) p h c at zp zq qp =
    let k = last_piece g a q r h.arc at c in
    let x = seen (pos g) a p in
    let e = ends_there g a q r c in
    elim (sides a x r) [
      | inl here ↦ inl (any_here (λ b. IsIn b p) (cut_box (pos g) a q r) [] (held g a q r p h k (omega (arith, ints, qp)) here))
      | inr beyond ↦ inr (subst (λ t. pos 1 ≤ℤ turn_from a z t) e (onward_in a z q r x zq k.turns zp qp beyond), subst (λ t. pos 1 ≤ℤ turn_from a t x) e beyond)
    ]
go_on g a z q (r ∷ s ∷ rs) p h c at zp zq qp =
    let k = inner_piece g a q r at c.0 in
    let x = seen (pos g) a p in
    elim (sides a x r) [
      | inl here ↦ inl (any_here (λ b. IsIn b p) (cut_box (pos g) a q r) (cut_boxes (pos g) a r (s ∷ rs)) (held g a q r p h k (omega (arith, ints, qp)) here))
      | inr beyond ↦ (elim (go_on g a z r (s ∷ rs) p h c.1 k.second zp (onward_in a z q r x zq k.turns zp qp beyond) beyond) [
        | inl later ↦ inl (any_there (λ b. IsIn b p) (cut_box (pos g) a q r) (cut_boxes (pos g) a r (s ∷ rs)) later)
        | inr all ↦ inr all
      ])
    ]

go_from : (g : ℕ) (a : ArcShape) (q : Point2) (cuts : List Point2) (p : StepPos) → IsToHold g a p → IsCutChain (pos g) a q cuts → IsInBand a g q →
    pos 0 ≤ℤ turn_from a q (seen (pos g) a p) →
    Held g a q cuts p ⊎ ((pos 1 ≤ℤ turn_from a q (end_of a)) × (pos 1 ≤ℤ turn_from a (end_of a) (seen (pos g) a p)))
go_from g a q [] p h c at qp = absurd c
go_from g a q (r ∷ []) p h c at qp =
    let k = last_piece g a q r h.arc at c in
    let x = seen (pos g) a p in
    let e = ends_there g a q r c in
    elim (sides a x r) [
      | inl here ↦ inl (any_here (λ b. IsIn b p) (cut_box (pos g) a q r) [] (held g a q r p h k qp here))
      | inr beyond ↦ inr (subst (λ t. pos 1 ≤ℤ turn_from a q t) e k.turns, subst (λ t. pos 1 ≤ℤ turn_from a t x) e beyond)
    ]
go_from g a q (r ∷ s ∷ rs) p h c at qp =
    let k = inner_piece g a q r at c.0 in
    let x = seen (pos g) a p in
    elim (sides a x r) [
      | inl here ↦ inl (any_here (λ b. IsIn b p) (cut_box (pos g) a q r) (cut_boxes (pos g) a r (s ∷ rs)) (held g a q r p h k qp here))
      | inr beyond ↦ (elim (go_on g a q r (s ∷ rs) p h c.1 k.second qp k.turns beyond) [
        | inl later ↦ inl (any_there (λ b. IsIn b p) (cut_box (pos g) a q r) (cut_boxes (pos g) a r (s ∷ rs)) later)
        | inr all ↦ inr all
      ])
    ]

-- p is before z, q is after z, and p is not after the end: one of the pieces from q on contains p,
-- or the end is after z
come_up : (g : ℕ) (a : ArcShape) (z q : Point2) (cuts : List Point2) (p : StepPos) → IsToHold g a p → IsCutChain (pos g) a q cuts → IsInBand a g q →
    pos 1 ≤ℤ turn_from a (seen (pos g) a p) z → pos 1 ≤ℤ turn_from a z q → pos 1 ≤ℤ turn_from a (seen (pos g) a p) q →
    pos 0 ≤ℤ turn_from a (seen (pos g) a p) (end_of a) → Held g a q cuts p ⊎ (pos 1 ≤ℤ turn_from a z (end_of a))
come_up g a z q [] p h c at pz zq pq pe = absurd c
come_up g a z q (r ∷ []) p h c at pz zq pq pe =
    let k = last_piece g a q r h.arc at c in
    let x = seen (pos g) a p in
    let e = ends_there g a q r c in
    inr (backward_in a z q (end_of a) x zq (subst (λ t. pos 1 ≤ℤ turn_from a q t) e k.turns) pz pq pe)
come_up g a z q (r ∷ s ∷ rs) p h c at pz zq pq pe =
    let k = inner_piece g a q r at c.0 in
    let x = seen (pos g) a p in
    elim (sides a r x) [
      | inl afterwards ↦ (elim (go_from g a r (s ∷ rs) p h c.1 k.second afterwards) [
        | inl later ↦ inl (any_there (λ b. IsIn b p) (cut_box (pos g) a q r) (cut_boxes (pos g) a r (s ∷ rs)) later)
        | inr all ↦ absurd (not_both a x (end_of a) pe all.1)
      ])
      | inr before ↦ (elim (come_up g a z r (s ∷ rs) p h c.1 k.second pz (backward_in a z q r x zq k.turns pz pq (omega (arith, ints, before))) before pe) [
        | inl later ↦ inl (any_there (λ b. IsIn b p) (cut_box (pos g) a q r) (cut_boxes (pos g) a r (s ∷ rs)) later)
        | inr all ↦ inr all
      ])
    ]

come_from : (g : ℕ) (a : ArcShape) (q : Point2) (cuts : List Point2) (p : StepPos) → IsToHold g a p → IsCutChain (pos g) a q cuts → IsInBand a g q →
    pos 1 ≤ℤ turn_from a (seen (pos g) a p) q → pos 0 ≤ℤ turn_from a (seen (pos g) a p) (end_of a) →
    Held g a q cuts p ⊎ (pos 1 ≤ℤ turn_from a q (end_of a))
come_from g a q [] p h c at pq pe = absurd c
come_from g a q (r ∷ []) p h c at pq pe =
    let k = last_piece g a q r h.arc at c in
    inr (subst (λ t. pos 1 ≤ℤ turn_from a q t) (ends_there g a q r c) k.turns)
come_from g a q (r ∷ s ∷ rs) p h c at pq pe =
    let k = inner_piece g a q r at c.0 in
    let x = seen (pos g) a p in
    elim (sides a r x) [
      | inl afterwards ↦ (elim (go_from g a r (s ∷ rs) p h c.1 k.second afterwards) [
        | inl later ↦ inl (any_there (λ b. IsIn b p) (cut_box (pos g) a q r) (cut_boxes (pos g) a r (s ∷ rs)) later)
        | inr all ↦ absurd (not_both a x (end_of a) pe all.1)
      ])
      | inr before ↦ (elim (come_up g a q r (s ∷ rs) p h c.1 k.second pq k.turns before pe) [
        | inl later ↦ inl (any_there (λ b. IsIn b p) (cut_box (pos g) a q r) (cut_boxes (pos g) a r (s ∷ rs)) later)
        | inr all ↦ inr all
      ])
    ]

-- ---- near an end

near_axis : (z d : ℤ) (m n : ℕ) → unsigned_abs (z -ℤ d) ≤ m → m ≤ n → ((d -ℤ pos n) ≤ℤ z) × (z ≤ℤ (d +ℤ pos n))
near_axis z d m n h i = (omega (arith, ints, h, i), omega (arith, ints, h, i))

among_first : (z d e : ℤ) (m n : ℕ) → unsigned_abs (z -ℤ d) ≤ m → m ≤ n → IsAmong n d e z
among_first z d e m n h i = let k = near_axis z d m n h i in record { low = omega (arith, ints, clamps, k.0); high = omega (arith, ints, clamps, k.1) }

among_second : (z d e : ℤ) (m n : ℕ) → unsigned_abs (z -ℤ e) ≤ m → m ≤ n → IsAmong n d e z
among_second z d e m n h i = let k = near_axis z e m n h i in record { low = omega (arith, ints, clamps, k.0); high = omega (arith, ints, clamps, k.1) }

near_u : (d x : Point2) (m : ℕ) → squared_distance d x ≤ m * m → unsigned_abs (x.u -ℤ d.u) ≤ m
near_u d x m h = first_within (x.u -ℤ d.u) (x.v -ℤ d.v) m h

near_v : (d x : Point2) (m : ℕ) → squared_distance d x ≤ m * m → unsigned_abs (x.v -ℤ d.v) ≤ m
near_v d x m h = second_within (x.u -ℤ d.u) (x.v -ℤ d.v) m h

near_first : (d e x : Point2) (m n : ℕ) → squared_distance d x ≤ m * m → m ≤ n → AreAmong n d e x
near_first d e x m n h i = record { u = among_first x.u d.u e.u m n (near_u d x m h) i; v = among_first x.v d.v e.v m n (near_v d x m h) i }

near_second : (d e x : Point2) (m n : ℕ) → squared_distance e x ≤ m * m → m ≤ n → AreAmong n d e x
near_second d e x m n h i = record { u = among_second x.u d.u e.u m n (near_u e x m h) i; v = among_second x.v d.v e.v m n (near_v e x m h) i }

by_start : (g : ℕ) (a : ArcShape) (q : Point2) (cuts : List Point2) (p : StepPos) → IsToHold g a p → IsCutChain (pos g) a q cuts →
    squared_distance q (seen (pos g) a p) ≤ (g + (outer_radius a - inner_radius a)) * (g + (outer_radius a - inner_radius a)) → Held g a q cuts p
by_start g a q [] p h c near = absurd c
by_start g a q (r ∷ rs) p h c near =
    any_here (λ b. IsIn b p) (cut_box (pos g) a q r) (cut_boxes (pos g) a r rs)
    (in_box g a q r p h
    (near_first q r (seen (pos g) a p) (g + (outer_radius a - inner_radius a)) (2 * g + (outer_radius a - inner_radius a)) near (omega arith)))

by_end : (g : ℕ) (a : ArcShape) (q : Point2) (cuts : List Point2) (p : StepPos) → IsToHold g a p → IsCutChain (pos g) a q cuts →
    squared_distance (end_of a) (seen (pos g) a p) ≤ (g + (outer_radius a - inner_radius a)) * (g + (outer_radius a - inner_radius a)) → Held g a q cuts p
by_end g a q [] p h c near = absurd c
by_end g a q (r ∷ []) p h c near =
    let x = seen (pos g) a p in
    let e = subst (λ t. squared_distance t x ≤ (g + (outer_radius a - inner_radius a)) * (g + (outer_radius a - inner_radius a)))
    (sym (ends_there g a q r c)) near in
    any_here (λ b. IsIn b p) (cut_box (pos g) a q r) []
    (in_box g a q r p h (near_second q r x (g + (outer_radius a - inner_radius a)) (2 * g + (outer_radius a - inner_radius a)) e (omega arith)))
by_end g a q (r ∷ s ∷ rs) p h c near = any_there (λ b. IsIn b p) (cut_box (pos g) a q r) (cut_boxes (pos g) a r (s ∷ rs)) (by_end g a r (s ∷ rs) p h c.1 near)

-- ---- the closed sector

-- on a full circle p is on the same side of the start as of the end: with n perpendicular to b, (n
-- x e)(b x p) = (n x b)(e x p) + (b x e)(n x p)
across : Point2 → Point2
across b = record { u = neg_ℤ b.v; v = b.u }

across_turn : (b x : Point2) → cross (across b) x ≡ neg_ℤ (dot b x)
unfolding across
across_turn b x = let e = negative_first b.v x.v in omega (arith, ints, e)
  where
    negative_first : (x y : ℤ) → neg_ℤ x *ℤ y ≡ neg_ℤ (x *ℤ y)
    negative_first (pos zero) y = omega (arith, ints)
    negative_first (pos (suc x)) y = omega (arith, ints)
    negative_first (negsuc x) y = omega (arith, ints)

-- d*s = n*t with d above 0, n at least 0, s below 0: t is not above 0
same_side : (d n s t : ℤ) → neg_ℤ d *ℤ s ≡ (neg_ℤ n *ℤ t) +ℤ pos 0 → pos 1 ≤ℤ d → pos 0 ≤ℤ n → (s +ℤ pos 1) ≤ℤ pos 0 → t ≤ℤ pos 0
same_side (negsuc d) n s t h hd hn hs = absurd (omega (arith, ints, hd))
same_side (pos zero) n s t h hd hn hs = absurd (omega (arith, ints, hd))
same_side (pos (suc d)) (negsuc n) s t h hd hn hs = absurd (omega (arith, ints, hn))
same_side (pos (suc d)) n (pos s) t h hd hn hs = absurd (omega (arith, ints, hs))
same_side (pos (suc d)) n (negsuc s) (negsuc t) h hd hn hs = omega (arith, ints)
same_side (pos (suc d)) n (negsuc s) (pos zero) h hd hn hs = omega (arith, ints)
same_side (pos (suc d)) (pos zero) (negsuc s) (pos (suc t)) h hd hn hs = absurd (omega (arith, ints, h))
same_side (pos (suc d)) (pos (suc n)) (negsuc s) (pos (suc t)) h hd hn hs = absurd (omega (arith, ints, h))

square_least : (x : ℤ) → pos 0 ≤ℤ (x *ℤ x)
square_least (pos x) = omega (arith, ints)
square_least (negsuc x) = omega (arith, ints)

full_side : (b e x : Point2) → cross b e ≡ pos 0 → pos 1 ≤ℤ dot b e → pos 1 ≤ℤ cross x b → pos 0 ≤ℤ cross x e
full_side b e x none ahead before =
    let z = across b in
    let h : neg_ℤ (dot b e) *ℤ cross b x ≡ (neg_ℤ (dot b b) *ℤ cross e x) +ℤ pos 0 =
    ap (λ k. k *ℤ cross b x) (sym (across_turn b e))
    ∙ three_turns z.u z.v b.u b.v e.u e.v x.u x.v
    ∙ ap₂ (λ k l. (k *ℤ cross e x) +ℤ l) (across_turn b b) (ap (λ k. k *ℤ cross z x) none ∙ nothing (cross z x)) in
    let s : (cross b x +ℤ pos 1) ≤ℤ pos 0 = omega (arith, ints, before) in
    let least : pos 0 ≤ℤ dot b b = let i = square_least b.u in let j = square_least b.v in omega (arith, ints, i, j) in
    let t = same_side (dot b e) (dot b b) (cross b x) (cross e x) h ahead least s in
    omega (arith, ints, t)
  where
    nothing : (k : ℤ) → pos 0 *ℤ k ≡ pos 0
    nothing k = omega (arith, ints)

zero_of : (x : ℤ) → IsTrue (is_zero x) → x ≡ pos 0
zero_of x h = grind (arith, ints, nat_tests)

full_turn : (a : ArcShape) → IsTrue (is_full a) → turn_from a (start_of a) (end_of a) ≡ pos 0
full_turn a h =
    zero_of _ (both (is_zero (turn_from a (start_of a) (end_of a))) (int_lt (pos 0) (dot (from a.centre (start_of a)) (from a.centre (end_of a)))) h).0

full_before : (a : ArcShape) (x : Point2) → IsTrue (is_full a) → pos 1 ≤ℤ turn_from a x (start_of a) → pos 0 ≤ℤ turn_from a x (end_of a)
full_before a x h before =
    let b = start_of a in let e = end_of a in
    let s = both (is_zero (turn_from a b e)) (int_lt (pos 0) (dot (from a.centre b) (from a.centre e))) h in
    let d : pos 1 ≤ℤ dot (faced a b) (faced a e) = subst (λ k. pos 1 ≤ℤ k) (dot_by a b e)
    (omega (arith, ints, lt_of (pos 0) (dot (from a.centre b) (from a.centre e)) s.1)) in
    subst (λ k. pos 0 ≤ℤ k) (sym (turn_faced a x e))
    (full_side (faced a b) (faced a e) (faced a x) (sym (turn_faced a b e) ∙ full_turn a h) d (subst (λ k. pos 1 ≤ℤ k) (turn_faced a x b) before))

-- the definition of the closed sector
abbrev OneSector : Bool → Bool → Bool → Bool → Type 0
OneSector full ahead first last = IsTrue full ⊎ ((IsTrue first × IsTrue last) ⊎ ((ahead ≡ false) × (IsTrue first ⊎ IsTrue last)))

no_test : IsTrue false → ⊥
no_test h = cc

one_sector : (full ahead first last : Bool) → IsTrue (if full then true else (if ahead then first && last else first || last)) → OneSector full ahead first last
one_sector true ahead first last h = inl refl
one_sector false true true last h = inr (inl (refl, h))
one_sector false true false last h = absurd (no_test h)
one_sector false false true last h = inr (inr (refl, inl refl))
one_sector false false false last h = inr (inr (refl, inr h))

behind_of : (t : ℤ) → int_le (pos 0) t ≡ false → (t +ℤ pos 1) ≤ℤ pos 0
behind_of t h = grind (arith, ints)

one_held : (g : ℕ) (a : ArcShape) (cuts : List Point2) (p : StepPos) →
    Held g a (start_of a) cuts p ⊎ ((pos 1 ≤ℤ turn_from a (start_of a) (end_of a)) × (pos 1 ≤ℤ turn_from a (end_of a) (seen (pos g) a p))) →
    ((pos 1 ≤ℤ turn_from a (start_of a) (end_of a)) → (pos 1 ≤ℤ turn_from a (end_of a) (seen (pos g) a p)) → ⊥) → Held g a (start_of a) cuts p
one_held g a cuts p (inl h) never = h
one_held g a cuts p (inr k) never = absurd (never k.0 k.1)

other_held : (g : ℕ) (a : ArcShape) (cuts : List Point2) (p : StepPos) → Held g a (start_of a) cuts p ⊎ (pos 1 ≤ℤ turn_from a (start_of a) (end_of a)) →
    ((pos 1 ≤ℤ turn_from a (start_of a) (end_of a)) → ⊥) → Held g a (start_of a) cuts p
other_held g a cuts p (inl h) never = h
other_held g a cuts p (inr k) never = absurd (never k)

by_sector : (g : ℕ) (a : ArcShape) (cuts : List Point2) (p : StepPos) → IsToHold g a p → IsCutChain (pos g) a (start_of a) cuts →
    OneSector (is_full a) (is_ahead a (start_of a) (end_of a)) (is_ahead a (start_of a) (seen (pos g) a p)) (is_ahead a (seen (pos g) a p) (end_of a)) →
    Held g a (start_of a) cuts p
by_sector g a cuts p h c s =
    let b = start_of a in let e = end_of a in let x = seen (pos g) a p in
    elim (sides a b x) [
      | inl afterwards ↦ one_held g a cuts p (go_from g a b cuts p h c (start_reached a g h.arc) afterwards) (λ be ex. no_way s be ex)
      | inr before ↦ other_held g a cuts p (come_from g a b cuts p h c (start_reached a g h.arc) before (end_ahead s before)) (λ be. no_turn s before be)
    ]
  where
    no_way : OneSector (is_full a) (is_ahead a (start_of a) (end_of a)) (is_ahead a (start_of a) (seen (pos g) a p))
        (is_ahead a (seen (pos g) a p) (end_of a)) →
        pos 1 ≤ℤ turn_from a (start_of a) (end_of a) → pos 1 ≤ℤ turn_from a (end_of a) (seen (pos g) a p) → ⊥
    no_way (inl f) be ex = omega (arith, ints, full_turn a f, be)
    no_way (inr (inl k)) be ex = not_both a (seen (pos g) a p) (end_of a) (le_of (pos 0) (turn_from a (seen (pos g) a p) (end_of a)) k.1) ex
    no_way (inr (inr k)) be ex = omega (arith, ints, behind_of (turn_from a (start_of a) (end_of a)) k.0, be)

    end_ahead : OneSector (is_full a) (is_ahead a (start_of a) (end_of a)) (is_ahead a (start_of a) (seen (pos g) a p))
        (is_ahead a (seen (pos g) a p) (end_of a)) →
        pos 1 ≤ℤ turn_from a (seen (pos g) a p) (start_of a) → pos 0 ≤ℤ turn_from a (seen (pos g) a p) (end_of a)
    end_ahead (inl f) before = full_before a (seen (pos g) a p) f before
    end_ahead (inr (inl k)) before = le_of (pos 0) (turn_from a (seen (pos g) a p) (end_of a)) k.1
    end_ahead (inr (inr (k, inl m))) before =
        absurd (not_both a (start_of a) (seen (pos g) a p) (le_of (pos 0) (turn_from a (start_of a) (seen (pos g) a p)) m) before)
    end_ahead (inr (inr (k, inr m))) before = le_of (pos 0) (turn_from a (seen (pos g) a p) (end_of a)) m

    no_turn : OneSector (is_full a) (is_ahead a (start_of a) (end_of a)) (is_ahead a (start_of a) (seen (pos g) a p))
        (is_ahead a (seen (pos g) a p) (end_of a)) →
        pos 1 ≤ℤ turn_from a (seen (pos g) a p) (start_of a) → pos 1 ≤ℤ turn_from a (start_of a) (end_of a) → ⊥
    no_turn (inl f) before be = omega (arith, ints, full_turn a f, be)
    no_turn (inr (inl k)) before be = not_both a (start_of a) (seen (pos g) a p) (le_of (pos 0) (turn_from a (start_of a) (seen (pos g) a p)) k.0) before
    no_turn (inr (inr k)) before be = omega (arith, ints, behind_of (turn_from a (start_of a) (end_of a)) k.0, be)

covered : (g : ℕ) (a : ArcShape) (cuts : List Point2) (p : StepPos) → IsToHold g a p → IsCutChain (pos g) a (start_of a) cuts →
    IsBetweenEnds a (g + spread a) (seen (pos g) a p) → Held g a (start_of a) cuts p
covered g a cuts p h chain (inl inside) =
    let x = seen (pos g) a p in
    by_sector g a cuts p h chain (one_sector (is_full a) (is_ahead a (start_of a) (end_of a)) (is_ahead a (start_of a) x) (is_ahead a x (end_of a)) inside)
covered g a cuts p h chain (inr (inl near)) = by_start g a (start_of a) cuts p h chain near
covered g a cuts p h chain (inr (inr near)) = by_end g a (start_of a) cuts p h chain near

narrow : (g : ℕ) (a : ArcShape) → 8 * g ≤ inner_radius a → leeway (pos g) a ≡ g
narrow g a large = grind (arith, nat_tests)

-- a box must contain each point of a path that follows the arc
to_hold : (g : ℕ) (a : ArcShape) (n : ℕ) (path : List StepPos) (k : ℕ) → 0 < g → HasEvenRadii a → 8 * g ≤ inner_radius a → IsArcOf (pos g) a n path → k ≤ n →
    IsToHold g a (point path k)
to_hold g a n path k some arc large follows within =
    let between = heights a.plane (point path k) _ _ _ _ _ _ (follows.weak.inside k within) in
    record {
      arc = arc;
      some = some;
      small = large;
      at = subst (λ w. IsInBand a w (seen (pos g) a (point path k))) (narrow g a large) (follows.band k within);
      low = between.0;
      high = between.1;
    }

pub covered_by_cuts : CoveredByCuts
covered_by_cuts (pos g) a cuts path k some arc is_so chain follows within =
    let f = follows.1 in
    let large : 8 * g ≤ inner_radius a = grind (arith, nat_tests, is_so) in
    let k_within : k ≤ follows.0 = omega (arith, within, f.weak.count) in
    covered g a cuts (point path k) (to_hold g a follows.0 path k (omega (arith, ints, some)) arc large f k_within) chain
    (subst (λ w. IsBetweenEnds a (w + spread a) (seen (pos g) a (point path k))) (narrow g a large) (f.sector k k_within))
covered_by_cuts (negsuc g) a cuts path k some arc is_so chain follows within = absurd (omega (arith, ints, some))
