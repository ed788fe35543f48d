-- What is under the heights of a map after a motion isn't swept by it.
use Rattle.std.proofs.Common.{◌≡◌, ℕ, zero, suc, ◌+◌, ◌*◌, ◌-◌, ◌<◌, ◌≤◌, ◌⊎◌, ℤ, pos, ◌+ℤ◌, ◌-ℤ◌, ◌*ℤ◌, ◌≤ℤ◌, ◌<ℤ◌, inl, inr, refl, sym, ◌∙◌, ap, subst, arith, List, [], ◌∷◌, ◌++◌, length, take, get_or, min}
use Rattle.std.specs.Prelude.{slice_index}
use Rattle.std.proofs.lemmas.Bool.{cases_lt}
use Rattle.std.proofs.lemmas.Int.{ints}
use Rattle.std.proofs.lemmas.List.{take_more, take_all}
use Rattle.ngc_fixed_length.specs.declared.modes.Plane.TheVariants.{XY}
use Rattle.ngc_fixed_length.specs.declared.points.Point2.{Point2}
use Rattle.ngc_fixed_length.specs.declared.points.Point3.{Point3}
use Rattle.ngc_arc_geometry.specs.Shape.{ArcShape}
use Rattle.ngc_arc_geometry.specs.Radii.{outer_radius}
use Rattle.ngc_commands.specs.declared.movement.Way.{Way}
use Rattle.ngc_cells.specs.declared.grid.Grid.{Grid}
use Rattle.ngc_cells.specs.declared.stretch.Spot.{Spot}
use Rattle.ngc_cells.specs.declared.stretch.Stretch.{Stretch}
use Rattle.ngc_cells.specs.Stretches.{IsAround, IsNear, ahead, square, spot}
use Rattle.ngc_cells.specs.Grids.{IsGrid, AreLowered, centre}
use Rattle.ngc_cells.proofs.Ring.{V, S, P, ring}
use Rattle.ngc_cells.proofs.Vectors.{L, times_out, sum_most}
use Rattle.ngc_stock.specs.declared.cylinder.Cylinder.{Cylinder}
use Rattle.ngc_stock.specs.declared.stock.Stock.{Stock}
use Rattle.ngc_stock.specs.Cuts.{lower_tip}
use Rattle.ngc_stock.specs.Stocks.{kappa, radius, flat, pieces, piece, lowest_tip, level_of, tip, IsCutBy, IsInCell}
use Rattle.ngc_stock.proofs.Distances.{cell_most, turned_most, moved, tip_above, level_under}
use Rattle.ngc_material.specs.Heights.{AreWithin}
use Rattle.ngc_sure_contacts.specs.Maps.{IsUnder, AreSunk, AreSwept}
use Rattle.ngc_sure_contacts.specs.Swept.{IsSweptAlong, IsSweptByArc, IsSweptOn, IsSweptByAny}
use Rattle.ngc_sure_contacts.proofs.Pieces.{some_pieces, part_of, lower_than}

pub under_before : (s : Stock) (old new : List ℕ) (q : Point3) → length old ≡ s.grid.columns * s.grid.rows →
    ((k : ℕ) → k < length old → slice_index new k ≤ slice_index old k) → IsUnder s new q → IsUnder s old q
under_before s old new q count kept u = record {
  cell = u.cell;
  within = u.within;
  in_cell = u.in_cell;
  bottom = u.bottom;
  top = u.top;
  below = let m = kept u.cell (omega (arith, u.within, count)) in omega (arith, ints, u.below, m);
}

-- ---- one stretch

-- cells that are lowered
pub sunk_of : (g : Grid) (t : Stretch) (r level : ℕ) (old new : List ℕ) → AreLowered g t r level old new → AreSunk g t r level old new
sunk_of g t r level old new low = record {
  count = low.count;
  near = λ k less n. (let e = (low.each k less).near n in omega (arith, e));
  kept = λ k less.
      elim (cases_lt (slice_index old k) (slice_index new k)) [
        | inl more ↦ (
            let far : ¬ (IsNear t r (centre g k)) = λ n. (let e = (low.each k less).near n in omega (arith, e, more)) in
            let e = (low.each k less).other far in
            absurd (omega (arith, e, more)))
        | inr good ↦ good
      ];
}

-- cells that are all lowered to 0
pub sunk_cleared : (g : Grid) (t : Stretch) (r level : ℕ) (old new : List ℕ) → length new ≡ length old → ((k : ℕ) → k < length old → slice_index new k ≡ 0) →
    AreSunk g t r level old new
sunk_cleared g t r level old new count empty = record {
  count = count;
  near = λ k less n. (let e = empty k less in omega (arith, e));
  kept = λ k less. (let e = empty k less in omega (arith, e));
}

-- they say nothing, so that anything may be swept
pub swept_cleared : (s : Stock) (Swept : Point3 → Type 0) (old new : List ℕ) → length old ≡ s.grid.columns * s.grid.rows → length new ≡ length old →
    ((k : ℕ) → k < length old → slice_index new k ≡ 0) → AreSwept s Swept old new
swept_cleared s Swept old new size count empty = record {
  count = count;
  kept = λ k less. (let e = empty k less in omega (arith, e));
  each = λ q u h. (let e = empty u.cell (omega (arith, u.within, size)) in omega (arith, ints, u.below, u.bottom, e));
}

-- ---- a line

-- the heights after the first n pieces
pub record ArePiecesSunk (s : Stock) (t : Cylinder) (a b : Point3) (n : ℕ) (old new : List ℕ) : Type 0 where
  pub count : length new ≡ length old
  pub kept : (k : ℕ) → k < length old → slice_index new k ≤ slice_index old k
  pub sunk : (i : ℕ) → i < n → (k : ℕ) → k < length old → IsNear (piece a b i) (radius t + kappa s.grid) (centre s.grid k) →
      slice_index new k ≤ level_of s (lowest_tip t a b i)

pub none_sunk : (s : Stock) (t : Cylinder) (a b : Point3) (heights : List ℕ) → ArePiecesSunk s t a b 0 heights heights
none_sunk s t a b heights = record {
  count = refl;
  kept = λ k less. omega arith;
  sunk = λ i small k less near. absurd (omega arith);
}

pub next_sunk : (s : Stock) (t : Cylinder) (a b : Point3) (n r level : ℕ) (old mid new : List ℕ) → r ≡ radius t + kappa s.grid → level ≡ level_of s (lowest_tip t a b n) →
    ArePiecesSunk s t a b n old mid → AreSunk s.grid (piece a b n) r level mid new → ArePiecesSunk s t a b (n + 1) old new
next_sunk s t a b n r level old mid new er el before sunk = record {
  count = sunk.count ∙ before.count;
  kept = λ k less. (let p = before.kept k less in let q = sunk.kept k (omega (arith, less, before.count)) in omega (arith, p, q));
  sunk = λ i small k less near.
      let here : k < length mid = omega (arith, less, before.count) in
      elim (cases_lt i n) [
        | inl early ↦ (let p = before.sunk i early k less near in let q = sunk.kept k here in omega (arith, p, q))
        | inr late ↦ (
            let e : i ≡ n = omega (arith, small, late) in
            let at : IsNear (piece a b n) r (centre s.grid k) = rw er (subst (λ (j : ℕ). IsNear (piece a b j) (radius t + kappa s.grid) (centre s.grid k)) e near) in
            let p : slice_index new k ≤ level_of s (lowest_tip t a b n) = subst (λ (l : ℕ). slice_index new k ≤ l) el (sunk.near k here at) in
            subst (λ (j : ℕ). slice_index new k ≤ level_of s (lowest_tip t a b j)) (sym e) p)
      ];
}

pub swept_line : (s : Stock) (t : Cylinder) (a b : Point3) (n : ℕ) (old new : List ℕ) → IsGrid s.grid → length old ≡ s.grid.columns * s.grid.rows → pieces a b ≤ n →
    ArePiecesSunk s t a b n old new → AreSwept s (IsCutBy t a b) old new
swept_line s t a b n old new grid size all sunk = record {
  count = sunk.count;
  kept = sunk.kept;
  each = λ q u cut.
      let c = centre s.grid u.cell in
      let m = cut.n in let j = cut.k in
      let p = part_of (pieces a b) m j (some_pieces a b) cut.some cut.within in
      let near_most = turned_most q.x q.y c.x c.y (kappa s.grid * kappa s.grid) (cell_most s.grid u.cell q grid u.in_cell) in
      let around = moved m j (radius t) (kappa s.grid) (flat a) (flat b) (flat q) c cut.around near_most in
      let near : IsNear (piece a b p.0) (radius t + kappa s.grid) c = (m, j, record { some = cut.some; first = p.2; last = p.3 }, around) in
      let most = sunk.sunk p.0 (omega (arith, p.1, all)) u.cell (omega (arith, u.within, size)) near in
      let below = level_under s (lowest_tip t a b p.0) q.z (slice_index new u.cell) u.bottom u.below most in
      let up = tip_above t a b p.0 m j (some_pieces a b) p.2 p.3 in
      let least = times_out (pos m) (lowest_tip t a b p.0) q.z (omega (arith, ints, cut.some)) (omega (arith, ints, up, cut.low)) in
      omega (arith, ints, below, least);
}

-- a foot that is nowhere below the stock's top
pub above_line : (s : Stock) (t : Cylinder) (a b : Point3) (heights : List ℕ) (level : ℕ) → level ≡ level_of s (lower_tip t a b) → s.height ≤ level → AreSwept s (IsCutBy t a b) heights heights
above_line s t a b heights level el high = record {
  count = refl;
  kept = λ k less. omega arith;
  each = λ q u cut.
      let least = lower_than t cut.n cut.k a b q.z cut.some cut.within cut.low in
      let below = level_under s (lower_tip t a b) q.z s.height u.bottom u.top (subst (λ (l : ℕ). s.height ≤ l) el high) in
      omega (arith, ints, below, least);
}

-- ---- an arc

above_arc_at : (s : Stock) (t : Cylinder) (a : ArcShape) (heights : List ℕ) → s.height ≤ level_of s (lower_tip t a.start a.end) → AreSwept s (IsSweptAlong t a) heights heights
above_arc_at s t a heights high = record {
  count = refl;
  kept = λ k less. omega arith;
  each = λ q u along.
      let below = level_under s (lower_tip t a.start a.end) q.z s.height u.bottom u.top high in
      omega (arith, ints, below, along.low);
}

pub above_arc : (s : Stock) (t : Cylinder) (a : ArcShape) (p q : Point3) (heights : List ℕ) (level : ℕ) → p ≡ a.start → q ≡ a.end → level ≡ level_of s (lower_tip t p q) → s.height ≤ level →
    AreSwept s (IsSweptAlong t a) heights heights
above_arc s t a p q heights level ep eq el high = above_arc_at s t a heights (rw (← ep, ← eq) (subst (λ (l : ℕ). s.height ≤ l) el high))

joined : (x d : ℤ) → (x -ℤ d) +ℤ d ≡ x
joined x d = omega (arith, ints)

still : (n c x : ℤ) → (n *ℤ (x -ℤ c)) -ℤ (pos 0 *ℤ (c -ℤ c)) ≡ n *ℤ (x -ℤ c)
still n c x = ring (n ∷ c ∷ x ∷ pos 0 ∷ []) (L (P (V 0) (L (V 2) (V 1))) (P (V 3) (L (V 1) (V 1)))) (P (V 0) (L (V 2) (V 1))) refl

-- what is over q somewhere along the arc is within its outer radius of the centre, and that of the cylinder
round_reach : (t : Cylinder) (a : ArcShape) (c : Spot) (q : Point3) → c.x ≡ a.centre.u → c.y ≡ a.centre.v → (h : IsSweptAlong t a q) →
    IsAround h.n 0 c c (radius t + outer_radius a) (flat q)
round_reach t a c q ex ey h =
    let n = h.n in
    let x = pos n *ℤ (q.x -ℤ a.centre.u) in
    let y = pos n *ℤ (q.y -ℤ a.centre.v) in
    let sum = sum_most (x -ℤ h.d.u) (y -ℤ h.d.v) h.d.u h.d.v (n * radius t) (n * outer_radius a) h.around h.of_arc.outer in
    let e : n * radius t + n * outer_radius a ≡ n * (radius t + outer_radius a) = omega arith in
    let all : (square x +ℤ square y) ≤ℤ pos ((n * (radius t + outer_radius a)) * (n * (radius t + outer_radius a))) =
    subst (λ (z : ℤ). (square z +ℤ square y) ≤ℤ pos ((n * (radius t + outer_radius a)) * (n * (radius t + outer_radius a)))) (joined x h.d.u)
    (subst (λ (z : ℤ). (square ((x -ℤ h.d.u) +ℤ h.d.u) +ℤ square z) ≤ℤ pos ((n * (radius t + outer_radius a)) * (n * (radius t + outer_radius a)))) (joined y h.d.v)
    (subst (λ (m : ℕ). (square ((x -ℤ h.d.u) +ℤ h.d.u) +ℤ square ((y -ℤ h.d.v) +ℤ h.d.v)) ≤ℤ pos (m * m)) e sum)) in
    let fx : ahead n 0 c.x c.x q.x ≡ x = still (pos n) c.x q.x ∙ ap (λ (z : ℤ). pos n *ℤ (q.x -ℤ z)) ex in
    let fy : ahead n 0 c.y c.y q.y ≡ y = still (pos n) c.y q.y ∙ ap (λ (z : ℤ). pos n *ℤ (q.y -ℤ z)) ey in
    subst (λ (z : ℤ). (square z +ℤ square (ahead n 0 c.y c.y q.y)) ≤ℤ pos ((n * (radius t + outer_radius a)) * (n * (radius t + outer_radius a)))) (sym fx)
    (subst (λ (z : ℤ). (square x +ℤ square z) ≤ℤ pos ((n * (radius t + outer_radius a)) * (n * (radius t + outer_radius a)))) (sym fy) all)

swept_round_at : (s : Stock) (t : Cylinder) (a : ArcShape) (c : Spot) (r level : ℕ) (old new : List ℕ) → IsGrid s.grid → length old ≡ s.grid.columns * s.grid.rows →
    c.x ≡ a.centre.u → c.y ≡ a.centre.v → r ≡ (radius t + kappa s.grid) + outer_radius a → level ≡ level_of s (lower_tip t a.start a.end) →
    AreSunk s.grid (record { start = c; end = c; parts = 1; part = 0 }) r level old new → AreSwept s (IsSweptAlong t a) old new
swept_round_at s t a c r level old new grid size ex ey er el sunk = record {
  count = sunk.count;
  kept = sunk.kept;
  each = λ q u along.
      let m = centre s.grid u.cell in
      let near_most = turned_most q.x q.y m.x m.y (kappa s.grid * kappa s.grid) (cell_most s.grid u.cell q grid u.in_cell) in
      let around = moved along.n 0 (radius t + outer_radius a) (kappa s.grid) c c (flat q) m (round_reach t a c q ex ey along) near_most in
      let e : (radius t + outer_radius a) + kappa s.grid ≡ r = omega (arith, er) in
      let near : IsNear (record { start = c; end = c; parts = 1; part = 0 }) r m =
      (along.n, 0, record { some = along.some; first = omega arith; last = omega arith }, subst (λ (x : ℕ). IsAround along.n 0 c c x m) e around) in
      let most = subst (λ (l : ℕ). slice_index new u.cell ≤ l) el (sunk.near u.cell (omega (arith, u.within, size)) near) in
      let below = level_under s (lower_tip t a.start a.end) q.z (slice_index new u.cell) u.bottom u.below most in
      omega (arith, ints, below, along.low);
}

pub swept_round : (s : Stock) (t : Cylinder) (a : ArcShape) (p q : Point3) (x y : ℤ) (r level : ℕ) (old new : List ℕ) → IsGrid s.grid → length old ≡ s.grid.columns * s.grid.rows →
    p ≡ a.start → q ≡ a.end → x ≡ a.centre.u → y ≡ a.centre.v → r ≡ (radius t + kappa s.grid) + outer_radius a → level ≡ level_of s (lower_tip t p q) →
    AreSunk s.grid (record { start = spot x y; end = spot x y; parts = 1; part = 0 }) r level old new → AreSwept s (IsSweptAlong t a) old new
swept_round s t a p q x y r level old new grid size ep eq ex ey er el sunk =
    swept_round_at s t a (spot x y) r level old new grid size ex ey er (rw (← ep, ← eq) el) sunk

-- an arc in the plane of X and Y
pub swept_arc : (s : Stock) (t : Cylinder) (a : ArcShape) (old new : List ℕ) → a.plane ≡ XY → AreSwept s (IsSweptAlong t a) old new → AreSwept s (IsSweptByArc t a) old new
swept_arc s t a old new plane swept = record {
  count = swept.count;
  kept = swept.kept;
  each = λ q u h. elim h [ inl along ↦ swept.each q u along | inr other ↦ absurd (other plane) ];
}

-- ---- all parts of a tool

any_of : (xs : List Cylinder) (x : Cylinder) (way : Way) (q : Point3) → IsSweptByAny (xs ++ x ∷ []) way q → IsSweptByAny xs way q ⊎ IsSweptOn x way q
any_of [] x way q (inl h) = inr h
any_of [] x way q (inr h) = absurd h
any_of (y ∷ ys) x way q (inl h) = inl (inl h)
any_of (y ∷ ys) x way q (inr h) = elim (any_of ys x way q h) [ inl early ↦ inl (inr early) | inr last ↦ inr last ]

pub none_swept : (s : Stock) (way : Way) (heights : List ℕ) → AreSwept s (IsSweptByAny [] way) heights heights
none_swept s way heights = record { count = refl; kept = λ k less. omega arith; each = λ q u h. h }

-- one motion after another
pub swept_twice : (s : Stock) (One Other Both : Point3 → Type 0) (old mid new : List ℕ) → length old ≡ s.grid.columns * s.grid.rows → ((q : Point3) → Both q → One q ⊎ Other q) →
    AreSwept s One old mid → AreSwept s Other mid new → AreSwept s Both old new
swept_twice s One Other Both old mid new size split one other = record {
  count = other.count ∙ one.count;
  kept = λ k less. (let p = one.kept k less in let q = other.kept k (omega (arith, less, one.count)) in omega (arith, p, q));
  each = λ q u h. elim (split q h) [
    | inl x ↦ one.each q (under_before s mid new q (one.count ∙ size) other.kept u) x
    | inr y ↦ other.each q u y
  ];
}

pub next_swept : (s : Stock) (xs : List Cylinder) (i : ℕ) (x : Cylinder) (way : Way) (old mid new : List ℕ) → length old ≡ s.grid.columns * s.grid.rows → i < length xs → x ≡ get_or xs i x →
    AreSwept s (IsSweptByAny (take i xs) way) old mid → AreSwept s (IsSweptOn x way) mid new → AreSwept s (IsSweptByAny (take (i + 1) xs) way) old new
next_swept s xs i x way old mid new size inside found one other =
    subst (λ (ys : List Cylinder). AreSwept s (IsSweptByAny ys way) old new) (ap (λ (y : Cylinder). take i xs ++ y ∷ []) found ∙ sym (take_more xs i x inside))
    (swept_twice s (IsSweptByAny (take i xs) way) (IsSweptOn x way) (IsSweptByAny (take i xs ++ x ∷ []) way) old mid new size (λ q h. any_of (take i xs) x way q h) one other)

pub all_swept : (s : Stock) (xs : List Cylinder) (i : ℕ) (way : Way) (old new : List ℕ) → length xs ≤ i → AreSwept s (IsSweptByAny (take i xs) way) old new → AreSwept s (IsSweptByAny xs way) old new
all_swept s xs i way old new ends h = subst (λ (ys : List Cylinder). AreSwept s (IsSweptByAny ys way) old new) (take_all i xs ends) h

-- no cell gets higher than the stock was
pub swept_within : (s : Stock) (Swept : Point3 → Type 0) (old new : List ℕ) → AreSwept s Swept old new → AreWithin s old → AreWithin s new
swept_within s Swept old new swept within k small =
    let less : k < length old = omega (arith, swept.count, small) in
    let a = swept.kept k less in let b = within k less in omega (arith, a, b)
