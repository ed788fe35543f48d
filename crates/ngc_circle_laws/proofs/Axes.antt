-- The quadrant points of an arc, in quadrants from its start.
use Rattle.std.proofs.Common.{◌≡◌, ℕ, zero, suc, ◌+◌, ◌-◌, ◌<◌, ◌≤◌, min, ℤ, pos, negsuc, ◌+ℤ◌, ◌-ℤ◌, neg_ℤ, inl, inr, List, [], ◌∷◌, filter, refl, sym, ◌∙◌}
use Rattle.std.proofs.Common.{ap, subst, arith}
use Rattle.std.specs.Prelude.{Bool, true, false}
use Rattle.std.proofs.lemmas.Bool.{cases_lt}
use Rattle.std.proofs.lemmas.Int.{ints}
use borrow.Author.Differences.{neg_is}
use Rattle.ngc_fixed_length.specs.Places.{from, shifted}
use Rattle.ngc_fixed_length.specs.declared.modes.Turn.{Turn}
use Rattle.ngc_fixed_length.specs.declared.modes.Turn.TheVariants.{Clockwise, Counterclockwise}
use Rattle.ngc_fixed_length.specs.declared.points.Point2.{Point2}
use Rattle.ngc_circle_walk.specs.declared.spoke.Quadrant.{Quadrant}
use Rattle.ngc_circle_walk.specs.declared.spoke.Quadrant.TheVariants.{First, Second, Third, Fourth}
use Rattle.ngc_circle_walk.specs.declared.spoke.Spoke.{Spoke}
use Rattle.ngc_circle_walk.specs.Quadrants.{following, number}
use Rattle.ngc_circle_walk.specs.Around.{around}
use Rattle.ngc_circle_walk.specs.Directions.{IsNoLater}
use Rattle.ngc_arc_geometry.specs.Shape.{ArcShape, start_of}
use Rattle.ngc_arc_geometry.specs.Radii.{outer_radius}
use Rattle.ngc_arc_geometry.specs.Sector.{turning, in_sector, quadrant_points, first_met, first_quadrant, rotated, quadrants_in_turn, extremes}
use Rattle.ngc_circle_laws.specs.Placed.{mirrored, placed, turned_by, axis_spoke, axis_points, first_axis, IsATurn}
use Rattle.ngc_circle_laws.specs.Round.{IsRound, QuadrantPointsAre}
use Rattle.ngc_circle_laws.proofs.CrossProducts.{twice, back}
use Rattle.ngc_circle_laws.proofs.Sectors.{turned_sum, beside, in_round, out_of_round}

-- ---- the four, from some quadrant on

abbrev four_from : Turn → Point2 → Quadrant → ℕ → List Point2
four_from t c q r =
    shifted c (mirrored t (around q r 0)) ∷
    shifted c (mirrored t (around (following q) r 0)) ∷
    shifted c (mirrored t (around (following (following q)) r 0)) ∷
    shifted c (mirrored t (around (following (following (following q))) r 0)) ∷ []

none_more : (z : ℤ) → (z +ℤ pos 0) ≡ z
none_more z = omega (arith, ints)

less_by : (z : ℤ) (r : ℕ) → (z +ℤ neg_ℤ (pos r)) ≡ z -ℤ pos r
less_by z r = let e = neg_is (pos r) in omega (arith, ints, e.0, e.1)

four_points : (t : Turn) (c : Point2) (q : Quadrant) (r : ℕ) → four_from t c q r ≡ rotated (number q) (quadrant_points t c (pos r))
four_points Counterclockwise c First r = rw (none_more c.u, none_more c.v, less_by c.u r, less_by c.v r) refl
four_points Counterclockwise c Second r = rw (none_more c.u, none_more c.v, less_by c.u r, less_by c.v r) refl
four_points Counterclockwise c Third r = rw (none_more c.u, none_more c.v, less_by c.u r, less_by c.v r) refl
four_points Counterclockwise c Fourth r = rw (none_more c.u, none_more c.v, less_by c.u r, less_by c.v r) refl
four_points Clockwise c First r = rw (twice r, none_more c.u, none_more c.v, less_by c.u r, less_by c.v r) refl
four_points Clockwise c Second r = rw (twice r, none_more c.u, none_more c.v, less_by c.u r, less_by c.v r) refl
four_points Clockwise c Third r = rw (twice r, none_more c.u, none_more c.v, less_by c.u r, less_by c.v r) refl
four_points Clockwise c Fourth r = rw (twice r, none_more c.u, none_more c.v, less_by c.u r, less_by c.v r) refl

met_on : (q : Quadrant) (x : ℕ) → 0 < x → first_met (around q x 0).u (around q x 0).v ≡ number q
met_on First x h = grind (arith, ints, h)
met_on Second x h = grind (arith, ints, h)
met_on Third x h = let e = neg_is (pos x) in grind (arith, ints, h, e.0, e.1)
met_on Fourth x h = let e = neg_is (pos x) in grind (arith, ints, h, e.0, e.1)

met_past : (q : Quadrant) (x y : ℕ) → 0 < x → 0 < y → first_met (around q x y).u (around q x y).v ≡ number (following q)
met_past First x y h i = grind (arith, ints, h, i)
met_past Second x y h i = let e = neg_is (pos y) in grind (arith, ints, h, i, e.0, e.1)
met_past Third x y h i = let e = neg_is (pos y) in let f = neg_is (pos x) in grind (arith, ints, h, i, e.0, e.1, f.0, f.1)
met_past Fourth x y h i = let f = neg_is (pos x) in grind (arith, ints, h, i, f.0, f.1)

unmirrored : (z : ℤ) → neg_ℤ (neg_ℤ z) ≡ z
unmirrored (pos n) = twice n
unmirrored (negsuc n) = refl

unturned : (t : Turn) (d : Point2) → first_met (mirrored t d).u (turning t (mirrored t d).v) ≡ first_met d.u d.v
unturned Counterclockwise d = refl
unturned Clockwise d = ap (λ v. first_met d.u v) (unmirrored d.v)

first_is : (a : ArcShape) (b : Spoke) → start_of a ≡ placed a b → first_quadrant a ≡ first_met (around b.quadrant b.x b.y).u (around b.quadrant b.x b.y).v
first_is a b h =
    let d = around b.quadrant b.x b.y in
    ap (λ (s : Point2). first_met (from a.centre s).u (turning a.turn (from a.centre s).v)) h
    ∙ ap (λ (w : Point2). first_met w.u (turning a.turn w.v)) (back a.centre (mirrored a.turn d))
    ∙ unturned a.turn d

-- they are in the order of their quadrants, from the first at or past the start
in_turn_from : (a : ArcShape) (q : Quadrant) → first_quadrant a ≡ number q → quadrants_in_turn a ≡ four_from a.turn a.centre q (outer_radius a)
in_turn_from a q h = ap (λ n. rotated n (quadrant_points a.turn a.centre (pos (outer_radius a)))) h ∙ sym (four_points a.turn a.centre q (outer_radius a))

in_turn : (a : ArcShape) (b : Spoke) → start_of a ≡ placed a b → 0 < b.x → (y : ℕ) → b.y ≡ y →
    quadrants_in_turn a ≡ axis_points a b (outer_radius a) (first_axis y) 4
in_turn a b h bx zero e =
    in_turn_from a b.quadrant (first_is a b h ∙ ap (λ y. first_met (around b.quadrant b.x y).u (around b.quadrant b.x y).v) e ∙ met_on b.quadrant b.x bx)
in_turn a b h bx (suc y) e =
    in_turn_from a (following b.quadrant) (first_is a b h ∙ met_past b.quadrant b.x b.y bx (omega (arith, e)))

-- ---- which of them are in the sector

kept : (p : Point2 → Bool) (x : Point2) (xs : List Point2) → p x ≡ true → filter p (x ∷ xs) ≡ x ∷ filter p xs
kept p x xs h = rw h refl

dropped : (p : Point2 → Bool) (x : Point2) (xs : List Point2) → p x ≡ false → filter p (x ∷ xs) ≡ filter p xs
dropped p x xs h = rw h refl

axis_later : (j bx by r : ℕ) → (j ≡ 0 → by ≡ 0) → IsNoLater j bx by r 0
axis_later zero bx by r h = let e = h refl in rw e (omega arith)
axis_later (suc j) bx by r h = tt

axis_in : (a : ArcShape) (b e : Spoke) (whole j : ℕ) → IsRound a b e whole → j ≤ whole → (j ≡ 0 → b.y ≡ 0) →
    in_sector a (placed a (axis_spoke b (outer_radius a) j)) ≡ true
axis_in a b e whole j r le first =
    let sum : j + (whole - j) ≡ whole = omega (arith, le) in
    let p = axis_spoke b (outer_radius a) j in
    in_round a b p e j (whole - j) r.start r.end refl (r.to_end ∙ sym (turned_sum j (whole - j) b.quadrant ∙ ap (λ k. turned_by k b.quadrant) sum))
    r.start_out (omega (arith, r.some_radius)) r.end_out (axis_later j b.x b.y (outer_radius a) first) (beside (whole - j) (outer_radius a) e.x e.y)
    (subst (λ k. IsATurn k b.x b.y e.x e.y) (sym sum) r.turn)

axis_out : (a : ArcShape) (b e : Spoke) (whole j : ℕ) → IsRound a b e whole → whole < j → j ≤ 4 → (j ≡ 4 → 0 < b.y) →
    in_sector a (placed a (axis_spoke b (outer_radius a) j)) ≡ false
axis_out a b e whole j r less few last =
    out_of_round a b e (outer_radius a) j whole r.start r.end r.to_end less few last r.start_out r.end_out r.some_radius r.turn

same_count : (a : ArcShape) (b : Spoke) (r j m n : ℕ) → m ≡ n → axis_points a b r j m ≡ axis_points a b r j n
same_count a b r j m n e = ap (λ c. axis_points a b r j c) e

kept_axes : (a : ArcShape) (b e : Spoke) (whole c j : ℕ) → IsRound a b e whole → j + c ≤ 5 → (j ≡ 0 → b.y ≡ 0) → (4 < j + c → 0 < b.y) →
    filter (in_sector a) (axis_points a b (outer_radius a) j c) ≡ axis_points a b (outer_radius a) j (min c (whole + 1 - j))
kept_axes a b e whole zero j r few first last = same_count a b (outer_radius a) j 0 (min 0 (whole + 1 - j)) (omega arith)
kept_axes a b e whole (suc c) j r few first last =
    let p = placed a (axis_spoke b (outer_radius a) j) in
    let xs = axis_points a b (outer_radius a) (suc j) c in
    let rest = kept_axes a b e whole c (suc j) r (omega (arith, few)) (λ z. absurd (omega (arith, z))) (λ z. last (omega (arith, z))) in
    elim (cases_lt whole j) [
      | inl out ↦ (
          let none : min c (whole + 1 - suc j) ≡ 0 = omega (arith, out) in
          let none' : 0 ≡ min (suc c) (whole + 1 - j) = omega (arith, out) in
          dropped (in_sector a) p xs (axis_out a b e whole j r out (omega (arith, few)) (λ z. last (omega (arith, z))))
          ∙ rest ∙ same_count a b (outer_radius a) (suc j) (min c (whole + 1 - suc j)) 0 none
          ∙ same_count a b (outer_radius a) j 0 (min (suc c) (whole + 1 - j)) none')
      | inr inside ↦ (
          let more : suc (min c (whole + 1 - suc j)) ≡ min (suc c) (whole + 1 - j) = omega (arith, inside) in
          kept (in_sector a) p xs (axis_in a b e whole j r inside first) ∙ ap (λ ps. p ∷ ps) rest
          ∙ same_count a b (outer_radius a) j (suc (min c (whole + 1 - suc j))) (min (suc c) (whole + 1 - j)) more)
    ]

-- the quadrant points of an arc are those from the first at or past the start to the last before
-- the end, at most four
extremes_from : (a : ArcShape) (b e : Spoke) (whole y : ℕ) → IsRound a b e whole → b.y ≡ y →
    extremes a ≡ axis_points a b (outer_radius a) (first_axis y) (min 4 (whole + 1 - first_axis y))
extremes_from a b e whole zero r h =
    ap (λ ps. filter (in_sector a) ps) (in_turn a b r.start r.start_out zero h)
    ∙ kept_axes a b e whole 4 0 r (omega arith) (λ z. h) (λ z. absurd (omega (arith, z)))
extremes_from a b e whole (suc y) r h =
    ap (λ ps. filter (in_sector a) ps) (in_turn a b r.start r.start_out (suc y) h)
    ∙ kept_axes a b e whole 4 1 r (omega arith) (λ z. absurd (omega (arith, z))) (λ z. omega (arith, h))

pub extremes_are : QuadrantPointsAre
extremes_are a b e whole r = extremes_from a b e whole b.y r refl
