-- The heights of the cells bound what is left.
use Rattle.std.proofs.Common.{◌≡◌, ℕ, zero, suc, ◌+◌, ◌*◌, ◌-◌, ◌/◌, ◌<◌, ◌≤◌, ℤ, pos, ◌+ℤ◌, ◌-ℤ◌, ◌*ℤ◌, ◌≤ℤ◌, ◌<ℤ◌, inl, inr, refl, sym, ◌∙◌, subst, arith, List, [], ◌∷◌, length, min}
use Rattle.std.specs.Prelude.{slice_index}
use Rattle.std.proofs.lemmas.Bool.{cases_lt}
use Rattle.std.proofs.lemmas.Int.{ints, by_lt_z}
use Rattle.ngc_fixed_length.specs.declared.points.Point3.{Point3}
use Rattle.ngc_cells.specs.declared.stretch.Stretch.{Stretch}
use Rattle.ngc_cells.specs.Stretches.{IsAround, IsNear}
use Rattle.ngc_cells.specs.Grids.{IsGrid, centre, AreLowered}
use Rattle.std.proofs.lemmas.Nat.{mul-le}
use Rattle.ngc_cells.proofs.Ring.{V, S, P, ring}
use Rattle.ngc_cells.proofs.Vectors.{L, times_most, product_above}
use Rattle.ngc_stock.specs.declared.cylinder.Cylinder.{Cylinder}
use Rattle.ngc_stock.specs.declared.stock.Stock.{Stock}
use Rattle.ngc_stock.specs.Stocks.{kappa, reduction, margin, tolerance, radius, rise, flat, tip, pieces, piece, point_at, highest_tip, lowest_tip, level_of, IsInCell, IsInStock, IsCutBy, IsInReduced}
use Rattle.ngc_stock.specs.Walk.{ArePiecesCut, AreCut, AreDiscsCut, IsCutByAny, IsClear}
use Rattle.ngc_stock.proofs.Distances.{cell_most, turned_most, moved, point_around, around_point, tip_below, tip_above, level_over, level_under}

-- each point that is left in a cell is below the cell's height
pub record AreBounds (s : Stock) (heights : List ℕ) (Left : Point3 → Type 0) : Type 0 where
  pub count : length heights ≡ s.grid.columns * s.grid.rows
  pub each : (k : ℕ) → k < length heights → (q : Point3) → Left q → IsInCell s.grid k q → q.z <ℤ (s.bottom +ℤ pos (slice_index heights k))

-- of fewer points
pub fewer : (s : Stock) (heights : List ℕ) (Left Less : Point3 → Type 0) → ((q : Point3) → Less q → Left q) → AreBounds s heights Left → AreBounds s heights Less
fewer s heights Left Less f b = record { count = b.count; each = λ k small q h i. b.each k small q (f q h) i }

lower_of : (bottom q : ℤ) (old level new : ℕ) → new ≡ min old level → q <ℤ (bottom +ℤ pos old) → q <ℤ (bottom +ℤ pos level) → (bottom +ℤ pos new) ≤ℤ q → ⊥
lower_of bottom q old level new e a b h =
    elim (cases_lt old level) [
      | inl less ↦ (let f : new ≡ old = omega arith in omega (arith, ints, f, a, h))
      | inr more ↦ (let f : new ≡ level = omega arith in omega (arith, ints, f, b, h))
    ]

-- lowering keeps them, if what is left in a lowered cell is below the level's height
pub lowered : (s : Stock) (t : Stretch) (r : ℕ) (z : ℤ) (old new : List ℕ) (Left : Point3 → Type 0) →
    ((q : Point3) → Left q → IsInStock s q) →
    ((k : ℕ) (q : Point3) → IsNear t r (centre s.grid k) → Left q → IsInCell s.grid k q → q.z <ℤ z) →
    AreLowered s.grid t r (level_of s z) old new → AreBounds s old Left → AreBounds s new Left
lowered s t r z old new Left stock near low b = record {
  count = low.count ∙ b.count;
  each = λ k small q h i.
      let less : k < length old = omega (arith, low.count, small) in
      let one = low.each k less in
      let was = b.each k less q h i in
      by_lt_z q.z (s.bottom +ℤ pos (slice_index new k))
      (λ yes. yes)
      (λ no.
      let far : ¬ (IsNear t r (centre s.grid k)) = λ n.
      let st = stock q h in
      let lev = level_over s z q.z st.bottom st.top (near k q n h i) in
      let e = one.near n in
      lower_of s.bottom q.z (slice_index old k) (level_of s z) (slice_index new k) e was lev no in
      let e = one.other far in
      absurd (omega (arith, ints, e, was, no)));
}

-- ---- a feed

step_within : (k m j n : ℕ) → 0 < n → j * n ≤ (k + 1) * m → k < n → j ≤ m
step_within k m j n some h small =
    elim (cases_lt m j) [
      | inl more ↦ (let a : (m + 1) * n ≤ j * n = mul-le (m + 1) n j n (omega arith) (omega arith) in
          let b : (k + 1) * m ≤ n * m = mul-le (k + 1) m n m (omega arith) (omega arith) in
          absurd (omega (arith, a, b, h, some)))
      | inr less ↦ less
    ]

piece_below : (s : Stock) (t : Cylinder) (a b : Point3) (i : ℕ) (grid : IsGrid s.grid) → kappa s.grid ≤ radius t → i < pieces a b →
    (k : ℕ) (q : Point3) → IsNear (piece a b i) (radius t - kappa s.grid) (centre s.grid k) → ¬ (IsCutBy t a b q) → IsInCell s.grid k q →
    q.z <ℤ highest_tip t a b i
piece_below s t a b i grid thick small k q near uncut cell =
    let m = near.0 in let j = near.1 in let on = near.2 in
    let some : 0 < pieces a b = omega arith in
    let c = centre s.grid k in
    let around = moved m j (radius t - kappa s.grid) (kappa s.grid) (flat a) (flat b) c (flat q) near.3 (cell_most s.grid k q grid cell) in
    let r : (radius t - kappa s.grid) + kappa s.grid ≡ radius t = omega arith in
    let whole : IsAround m j (flat a) (flat b) (radius t) (flat q) = subst (λ (x : ℕ). IsAround m j (flat a) (flat b) x (flat q)) r around in
    let up = tip_below t a b i m j some on.first on.last in
    by_lt_z q.z (highest_tip t a b i)
    (λ yes. yes)
    (λ no.
    let p = times_most (pos m) (highest_tip t a b i) q.z (omega (arith, ints)) no in
    absurd (uncut (record { n = m; k = j; some = on.some; within = step_within i m j (pieces a b) some on.last small; around = whole; low = omega (arith, ints, up, p) })))

end_below : (s : Stock) (t : Cylinder) (a b : Point3) (grid : IsGrid s.grid) → kappa s.grid ≤ radius t →
    (k : ℕ) (q : Point3) → IsNear (point_at b) (radius t - kappa s.grid) (centre s.grid k) → ¬ (IsCutBy t a b q) → IsInCell s.grid k q →
    q.z <ℤ (b.z +ℤ t.bottom)
end_below s t a b grid thick k q near uncut cell =
    let c = centre s.grid k in
    let at = point_around near.0 near.1 (radius t - kappa s.grid) (flat a) (flat b) c near.2.some near.3 in
    let around = moved 1 1 (radius t - kappa s.grid) (kappa s.grid) (flat a) (flat b) c (flat q) at (cell_most s.grid k q grid cell) in
    let r : (radius t - kappa s.grid) + kappa s.grid ≡ radius t = omega arith in
    let whole : IsAround 1 1 (flat a) (flat b) (radius t) (flat q) = subst (λ (x : ℕ). IsAround 1 1 (flat a) (flat b) x (flat q)) r around in
    by_lt_z q.z (b.z +ℤ t.bottom)
    (λ yes. yes)
    (λ no. absurd (uncut (record { n = 1; k = 1; some = omega arith; within = omega arith; around = whole; low = omega (arith, ints, no) })))

pieces_keep : (s : Stock) (t : Cylinder) (a b : Point3) (grid : IsGrid s.grid) → kappa s.grid ≤ radius t → (Left : Point3 → Type 0) →
    ((q : Point3) → Left q → IsInStock s q) → ((q : Point3) → Left q → ¬ (IsCutBy t a b q)) →
    (n : ℕ) → n ≤ pieces a b → (old new : List ℕ) → ArePiecesCut s t a b n old new → AreBounds s old Left → AreBounds s new Left
pieces_keep s t a b grid thick Left stock uncut zero small old new e bounds = subst (λ (l : List ℕ). AreBounds s l Left) (sym e) bounds
pieces_keep s t a b grid thick Left stock uncut (suc n) small old new cut bounds =
    lowered s (piece a b n) (radius t - kappa s.grid) (highest_tip t a b n) cut.0 new Left stock
    (λ k q near left cell. piece_below s t a b n grid thick (omega (arith, small)) k q near (uncut q left) cell)
    cut.2
    (pieces_keep s t a b grid thick Left stock uncut n (omega (arith, small)) old cut.0 cut.1 bounds)

pub feed_keeps : (s : Stock) (t : Cylinder) (a b : Point3) (grid : IsGrid s.grid) (Left : Point3 → Type 0) →
    ((q : Point3) → Left q → IsInStock s q) → ((q : Point3) → Left q → ¬ (IsCutBy t a b q)) →
    (old new : List ℕ) → AreCut s t a b old new → AreBounds s old Left → AreBounds s new Left
feed_keeps s t a b grid Left stock uncut old new cut bounds =
    elim (cases_lt (radius t) (kappa s.grid)) [
      | inl thin ↦ subst (λ (l : List ℕ). AreBounds s l Left) (sym (cut.thin thin)) bounds
      | inr thick ↦ (let c = cut.thick thick in
          lowered s (point_at b) (radius t - kappa s.grid) (b.z +ℤ t.bottom) c.0 new Left stock
          (λ k q near left cell. end_below s t a b grid thick k q near (uncut q left) cell)
          c.2
          (pieces_keep s t a b grid thick Left stock uncut (pieces a b) (omega arith) old c.0 c.1 bounds))
    ]

-- with each disc in order
pub discs_keep : (s : Stock) (ds : List Cylinder) (a b : Point3) (grid : IsGrid s.grid) (Left : Point3 → Type 0) →
    ((q : Point3) → Left q → IsInStock s q) → ((q : Point3) → Left q → ¬ (IsCutByAny ds a b q)) →
    (old new : List ℕ) → AreDiscsCut s ds a b old new → AreBounds s old Left → AreBounds s new Left
discs_keep s [] a b grid Left stock uncut old new e bounds = subst (λ (l : List ℕ). AreBounds s l Left) (sym e) bounds
discs_keep s (d ∷ ds) a b grid Left stock uncut old new cut bounds =
    discs_keep s ds a b grid Left stock (λ q left by. uncut q left (inr by)) cut.0 new cut.2
    (feed_keeps s d a b grid Left stock (λ q left by. uncut q left (inl by)) old cut.0 cut.1 bounds)

-- ---- a traverse

last_part : (n m j : ℕ) → 0 < n → j ≡ m → (i : ℕ) × (i < n) × (i * m ≤ j * n) × (j * n ≤ (i + 1) * m)
last_part (suc n) m j some e = rw e (n, omega arith, omega arith, omega arith)
last_part zero m j some e = absurd (omega arith)

raised_apart : (m raise : ℕ) (low q at : ℤ) → 0 < m → q <ℤ (low +ℤ pos raise) → (pos m *ℤ low) ≤ℤ at → (at +ℤ pos (m * raise)) ≤ℤ (pos m *ℤ q) → ⊥
raised_apart m raise low q at some below up h =
    let p = product_above (pos m) ((low +ℤ pos raise) -ℤ q) (omega (arith, ints, some)) (omega (arith, ints, below)) in
    let e : pos m *ℤ ((low +ℤ pos raise) -ℤ q) ≡ ((pos m *ℤ low) +ℤ (pos m *ℤ pos raise)) -ℤ (pos m *ℤ q) =
    ring (pos m ∷ low ∷ pos raise ∷ q ∷ []) (P (V 0) (L (S (V 1) (V 2)) (V 3))) (L (S (P (V 0) (V 1)) (P (V 0) (V 2))) (P (V 0) (V 3))) refl in
    omega (arith, ints, p, e, up, h)

-- the piece that a point of the line is in
part_of : (n m j : ℕ) → 0 < n → 0 < m → j ≤ m → (i : ℕ) × (i < n) × (i * m ≤ j * n) × (j * n ≤ (i + 1) * m)
part_of n m j some more small =
    elim (cases_lt j m) [
      | inl less ↦ (
          let i = (j * n) / m in
          let below : i * m ≤ j * n = omega arith in
          let past : j * n < (i + 1) * m = omega arith in
          let lt : i < n = elim (cases_lt i n) [
            | inl good ↦ good
            | inr bad ↦ (let a : n * m ≤ i * m = mul-le n m i m bad (omega arith) in let b : n * (j + 1) ≤ n * m = mul-le n (j + 1) n m (omega arith) (omega arith) in absurd (omega (arith, a, b, below, some)))
          ] in
          (i, lt, below, omega arith))
      | inr all ↦ (
          let e : j ≡ m = omega arith in
          last_part n m j some e)
    ]

pub clear_line : (s : Stock) (t : Cylinder) (a b : Point3) (grid : IsGrid s.grid) (heights : List ℕ) (Left : Point3 → Type 0) →
    ((q : Point3) → Left q → IsInStock s q) → AreBounds s heights Left → IsClear s t a b heights → 0 < pieces a b →
    (m j : ℕ) → 0 < m → j ≤ m → (q : Point3) → Left q → ¬ (IsInReduced t a b (margin s.grid) (tolerance s.grid + 2 * rise a b) m j q)
clear_line s t a b grid heights Left stock bounds clear whole m j some small q left h =
    let st = stock q left in
    let c = centre s.grid st.cell in
    let p = part_of (pieces a b) m j whole some small in
    let i = p.0 in
    let near_most = turned_most q.x q.y c.x c.y (kappa s.grid * kappa s.grid) (cell_most s.grid st.cell q grid st.in_cell) in
    let around = moved m j (radius t - margin s.grid) (kappa s.grid) (flat a) (flat b) (flat q) c h.around near_most in
    let r : (radius t - margin s.grid) + kappa s.grid ≡ radius t - reduction s.grid = omega (arith, h.fits) in
    let near : IsNear (piece a b i) (radius t - reduction s.grid) c =
    (m, j, record { some = some; first = p.2; last = p.3 }, subst (λ (x : ℕ). IsAround m j (flat a) (flat b) x c) r around) in
    let raise = tolerance s.grid + 2 * rise a b in
    let cell : st.cell < length heights = omega (arith, st.within, bounds.count) in
    let most = clear.pieces (omega (arith, h.fits)) i p.1 st.cell cell near in
    let below = level_under s (lowest_tip t a b i +ℤ pos raise) q.z (slice_index heights st.cell) st.bottom (bounds.each st.cell cell q left st.in_cell) most in
    let up = tip_above t a b i m j whole p.2 p.3 in
    raised_apart m raise (lowest_tip t a b i) q.z (tip t m j a b) some below up h.low

pub clear_end : (s : Stock) (t : Cylinder) (a b : Point3) (grid : IsGrid s.grid) (heights : List ℕ) (Left : Point3 → Type 0) →
    ((q : Point3) → Left q → IsInStock s q) → AreBounds s heights Left → IsClear s t a b heights →
    (q : Point3) → Left q → ¬ (IsInReduced t a b (margin s.grid) (tolerance s.grid) 1 1 q)
clear_end s t a b grid heights Left stock bounds clear q left h =
    let st = stock q left in
    let c = centre s.grid st.cell in
    let near_most = turned_most q.x q.y c.x c.y (kappa s.grid * kappa s.grid) (cell_most s.grid st.cell q grid st.in_cell) in
    let around = moved 1 1 (radius t - margin s.grid) (kappa s.grid) (flat a) (flat b) (flat q) c h.around near_most in
    let r : (radius t - margin s.grid) + kappa s.grid ≡ radius t - reduction s.grid = omega (arith, h.fits) in
    let at : IsAround 1 1 (flat a) (flat b) (radius t - reduction s.grid) c = subst (λ (x : ℕ). IsAround 1 1 (flat a) (flat b) x c) r around in
    let near : IsNear (point_at b) (radius t - reduction s.grid) c =
    (1, 0, record { some = omega arith; first = omega arith; last = omega arith }, around_point (radius t - reduction s.grid) (flat a) (flat b) c at) in
    let cell : st.cell < length heights = omega (arith, st.within, bounds.count) in
    let most = clear.end (omega (arith, h.fits)) st.cell cell near in
    let below = level_under s ((b.z +ℤ t.bottom) +ℤ pos (tolerance s.grid)) q.z (slice_index heights st.cell) st.bottom (bounds.each st.cell cell q left st.in_cell) most in
    omega (arith, ints, below, h.low)
