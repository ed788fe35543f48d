-- One row more of a map's cells.
use Rattle.std.proofs.Common.{◌≡◌, ℕ, zero, suc, ◌+◌, ◌*◌, ◌-◌, ◌/◌, ◌%◌, ◌<◌, ◌≤◌, ℤ, ◌↔◌, inl, inr, sym, ◌∙◌, ap, ap₂, subst, arith, List, get_or, min}
use Rattle.std.proofs.lemmas.Bool.{cases_lt}
use Rattle.std.proofs.lemmas.Nat.{div-mul-add, mod-mul-add, div-add-mod', mul-le, mod_below, div_below}
use Rattle.ngc_cells.specs.declared.cells.Peak.{Peak}
use Rattle.ngc_cells.specs.declared.grid.Grid.{Grid}
use Rattle.ngc_cells.specs.declared.span.Span.{Span}
use Rattle.ngc_cells.specs.declared.stretch.Stretch.{Stretch}
use Rattle.ngc_cells.specs.Spans.{IsIn}
use Rattle.ngc_cells.specs.Stretches.{IsNear, spot}
use Rattle.ngc_cells.specs.Grids.{middle_of, centre, IsLowered, IsFoundIn, IsNearPeak}

-- what is known of a row: which of its indices are near
pub record IsRow (g : Grid) (s : Stretch) (r row first end : ℕ) (span : Span) : Type 0 where
  pub within : end ≤ g.columns
  pub near : (x : ℤ) → IsIn span x ↔ IsNear s r (spot x (middle_of g.corner.y g.half row))
  pub are : (i : ℕ) → i < g.columns → ((first ≤ i) × (i < end)) ↔ IsIn span (middle_of g.corner.x g.half i)

centre_is : (g : Grid) (row i : ℕ) → i < g.columns → centre g (row * g.columns + i) ≡ spot (middle_of g.corner.x g.half i) (middle_of g.corner.y g.half row)
centre_is g row i less =
    ap₂ (λ (x y : ℕ). spot (middle_of g.corner.x g.half x) (middle_of g.corner.y g.half y)) (mod-mul-add row g.columns i less) (div-mul-add row g.columns i less)

-- a cell of the row is near if its index is one of them
pub near_is : (g : Grid) (s : Stretch) (r row first end : ℕ) (span : Span) → IsRow g s r row first end span → (i : ℕ) → i < g.columns →
    ((first ≤ i) × (i < end)) ↔ IsNear s r (centre g (row * g.columns + i))
near_is g s r row first end span known i less =
    let e = centre_is g row i less in
    let a = known.are i less in
    let n = known.near (middle_of g.corner.x g.half i) in (
      (λ p. subst (IsNear s r) (sym e) (n.0 (a.0 p))),
      (λ p. a.1 (n.1 (subst (IsNear s r) e p))),
    )

split_row : (w row k : ℕ) → row * w ≤ k → k < (row + 1) * w → (i : ℕ) × (i < w) × (row * w + i ≡ k)
split_row w row k low high = (k - row * w, omega arith, omega arith)

pub row_lowered : (g : Grid) (s : Stretch) (r level row first end : ℕ) (span : Span) (start old new : List ℕ) → IsRow g s r row first end span →
    ((k : ℕ) → row * g.columns + first ≤ k → k < row * g.columns + end → get_or new k 0 ≡ min (get_or old k 0) level) →
    ((k : ℕ) → k < row * g.columns + first → get_or new k 0 ≡ get_or old k 0) →
    ((k : ℕ) → row * g.columns + end ≤ k → get_or new k 0 ≡ get_or old k 0) →
    ((k : ℕ) → k < row * g.columns → IsLowered g s r level k (get_or start k 0) (get_or old k 0)) →
    ((k : ℕ) → row * g.columns ≤ k → get_or old k 0 ≡ get_or start k 0) →
    (k : ℕ) → k < (row + 1) * g.columns → IsLowered g s r level k (get_or start k 0) (get_or new k 0)
row_lowered g s r level row first end span start old new known inside before after done rest k less =
    elim (cases_lt k (row * g.columns)) [
      | inl early ↦ subst (λ (h : ℕ). IsLowered g s r level k (get_or start k 0) h) (sym (before k (omega arith))) (done k early)
      | inr late ↦ (
          let p = split_row g.columns row k late less in
          let i = p.0 in
          let n = near_is g s r row first end span known i p.1 in
          let e = rest k late in
          record {
            near = λ h.
                let q = n.1 (subst (λ (x : ℕ). IsNear s r (centre g x)) (sym p.2) h) in
                inside k (omega (arith, p.2, q.0)) (omega (arith, p.2, q.1)) ∙ ap (λ (x : ℕ). min x level) e;
            other = λ f.
                elim (cases_lt i first) [
                  | inl low ↦ before k (omega (arith, p.2)) ∙ e
                  | inr high ↦ elim (cases_lt i end) [
                    | inl within ↦ absurd (f (subst (λ (x : ℕ). IsNear s r (centre g x)) p.2 (n.0 (high, within))))
                    | inr past ↦ after k (omega (arith, p.2)) ∙ e
                  ]
                ];
          })
    ]

pub row_rest : (g : Grid) (row end : ℕ) (start old new : List ℕ) → end ≤ g.columns →
    ((k : ℕ) → row * g.columns + end ≤ k → get_or new k 0 ≡ get_or old k 0) →
    ((k : ℕ) → row * g.columns ≤ k → get_or old k 0 ≡ get_or start k 0) →
    (k : ℕ) → (row + 1) * g.columns ≤ k → get_or new k 0 ≡ get_or start k 0
row_rest g row end start old new within after rest k past = after k (omega arith) ∙ rest k (omega arith)

-- ---- the highest

pub row_most : (g : Grid) (s : Stretch) (r row first end : ℕ) (span : Span) (heights : List ℕ) (old new : ℕ) → IsRow g s r row first end span →
    ((k : ℕ) → row * g.columns + first ≤ k → k < row * g.columns + end → get_or heights k 0 ≤ new) → old ≤ new →
    ((k : ℕ) → k < row * g.columns → IsNear s r (centre g k) → get_or heights k 0 ≤ old) →
    (k : ℕ) → k < (row + 1) * g.columns → IsNear s r (centre g k) → get_or heights k 0 ≤ new
row_most g s r row first end span heights old new known most least done k less near =
    elim (cases_lt k (row * g.columns)) [
      | inl early ↦ (let p = done k early near in omega arith)
      | inr late ↦ (
          let p = split_row g.columns row k late less in
          let n = near_is g s r row first end span known p.0 p.1 in
          let q = n.1 (subst (λ (x : ℕ). IsNear s r (centre g x)) (sym p.2) near) in
          most k (omega (arith, p.2, q.0)) (omega (arith, p.2, q.1)))
    ]

-- a peak in the row is a near one
pub row_found : (g : Grid) (s : Stretch) (r row first end : ℕ) (span : Span) (heights : List ℕ) (p : Peak) → IsRow g s r row first end span →
    IsFoundIn heights (row * g.columns + first) (row * g.columns + end) p → IsNearPeak g s r heights ((row + 1) * g.columns) p
row_found g s r row first end span heights p known found =
    let q = split_row g.columns row p.cell (omega (arith, found.least)) (omega (arith, found.most, known.within)) in
    let n = near_is g s r row first end span known q.0 q.1 in record {
      cell = omega (arith, found.most, known.within);
      near = subst (λ (x : ℕ). IsNear s r (centre g x)) q.2 (n.0 (omega (arith, q.2, found.least), omega (arith, q.2, found.most)));
      height = found.height;
    }

pub later_peak : (g : Grid) (s : Stretch) (r m n : ℕ) (heights : List ℕ) (p : Peak) → m ≤ n → IsNearPeak g s r heights m p → IsNearPeak g s r heights n p
later_peak g s r m n heights p h i = record { cell = omega (arith, i.cell); near = i.near; height = i.height }

-- ---- the rows before and after those that are looked at

-- of the rows, those that aren't from the first to the one before the end are far
pub record AreRows (g : Grid) (s : Stretch) (r first end : ℕ) : Type 0 where
  pub far : (row : ℕ) → row < g.rows → ¬ ((first ≤ row) × (row < end)) → (x : ℤ) → ¬ (IsNear s r (spot x (middle_of g.corner.y g.half row)))

some_of : (w h k : ℕ) → k < w * h → 0 < w
some_of zero h k less = absurd (omega (arith, less))
some_of (suc w) h k less = omega arith

some_columns : (g : Grid) (k : ℕ) → k < g.columns * g.rows → 0 < g.columns
some_columns g k less = some_of g.columns g.rows k less

far_cell : (g : Grid) (s : Stretch) (r first end k : ℕ) → AreRows g s r first end → k < g.columns * g.rows → ¬ ((first ≤ k / g.columns) × (k / g.columns < end)) → ¬ (IsNear s r (centre g k))
far_cell g s r first end k known less out =
    known.far (k / g.columns) (div_below k g.columns g.rows (some_columns g k less) (omega (arith, less))) out (middle_of g.corner.x g.half (k % g.columns))

pub early_far : (g : Grid) (s : Stretch) (r first end k : ℕ) → AreRows g s r first end → k < g.columns * g.rows → k < first * g.columns → ¬ (IsNear s r (centre g k))
early_far g s r first end k known less early =
    far_cell g s r first end k known less
    (λ p. let d = div-add-mod' k g.columns in let m = mul-le first g.columns (k / g.columns) g.columns p.0 (omega arith) in absurd (omega (arith, early, d, m)))

pub late_far : (g : Grid) (s : Stretch) (r first end row k : ℕ) → AreRows g s r first end → k < g.columns * g.rows → end ≤ row → row * g.columns ≤ k → ¬ (IsNear s r (centre g k))
late_far g s r first end row k known less past late =
    far_cell g s r first end k known less
    (λ p.
    let d = div-add-mod' k g.columns in
    let b = mod_below k g.columns (some_columns g k less) in
    let m = mul-le (k / g.columns + 1) g.columns row g.columns (omega (arith, p.1, past)) (omega arith) in
    absurd (omega (arith, late, d, m, b)))

pub unlowered : (g : Grid) (s : Stretch) (r level k old new : ℕ) → ¬ (IsNear s r (centre g k)) → new ≡ old → IsLowered g s r level k old new
unlowered g s r level k old new far same = record { near = λ h. absurd (far h); other = λ f. same }

-- all cells, after the last of those rows
pub all_lowered : (g : Grid) (s : Stretch) (r level first end row : ℕ) (start new : List ℕ) → AreRows g s r first end → end ≤ row →
    ((k : ℕ) → k < row * g.columns → IsLowered g s r level k (get_or start k 0) (get_or new k 0)) →
    ((k : ℕ) → row * g.columns ≤ k → get_or new k 0 ≡ get_or start k 0) →
    (k : ℕ) → k < g.columns * g.rows → IsLowered g s r level k (get_or start k 0) (get_or new k 0)
all_lowered g s r level first end row start new known past done rest k less =
    elim (cases_lt k (row * g.columns)) [
      | inl early ↦ done k early
      | inr late ↦ unlowered g s r level k (get_or start k 0) (get_or new k 0) (late_far g s r first end row k known less past late) (rest k late)
    ]

-- none of all cells is higher
pub all_most : (g : Grid) (s : Stretch) (r first end row : ℕ) (heights : List ℕ) (peak : ℕ) → AreRows g s r first end → end ≤ row →
    ((k : ℕ) → k < row * g.columns → IsNear s r (centre g k) → get_or heights k 0 ≤ peak) →
    (k : ℕ) → k < g.columns * g.rows → IsNear s r (centre g k) → get_or heights k 0 ≤ peak
all_most g s r first end row heights peak known past most k less near =
    elim (cases_lt k (row * g.columns)) [
      | inl early ↦ most k early near
      | inr late ↦ absurd (late_far g s r first end row k known less past late near)
    ]
