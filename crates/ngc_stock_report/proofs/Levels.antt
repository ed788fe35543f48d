-- Marks, one motion after another.
use Rattle.std.proofs.Common.{◌≡◌, ℕ, zero, suc, ◌+◌, ◌*◌, ◌<◌, ◌≤◌, ◌⊎◌, inl, inr, refl, sym, subst, ap, arith, ◌∙◌, eq-eqb, List, [], ◌∷◌, ◌++◌, length, take, get_or, Bool, false}
use Rattle.std.proofs.lemmas.List.{get_or-map, get_or-replicate, length-map, length-replicate, take_all, take_more}
use Rattle.std.specs.Prelude.{◌==◌, map, replicate, slice_index}
use Rattle.ngc_cells.specs.declared.grid.Grid.{Grid}
use Rattle.ngc_cells.specs.Stretches.{IsNear, IsSpot}
use Rattle.ngc_cells.specs.Grids.{AreLowered, centre}
use Rattle.ngc_material.specs.declared.walk.Found.{Found}
use Rattle.ngc_stock_report.specs.Levels.{AreLevels, IsLevel}
use Rattle.ngc_stock_report.specs.Marks.{AreMarks, IsMarkedByAny, at_spot, mark_radius}
use Rattle.ngc_stock_report.specs.Walked.{WalkData}

zero_or : (n : ℕ) → ¬ (¬ (n ≡ 0)) → n ≡ 0
zero_or zero h = refl
zero_or (suc n) h = absurd (h (λ e. omega (arith, e)))

-- ---- one of some motions

any_first : (g : Grid) (xs ys : List Found) (k : ℕ) → IsMarkedByAny g xs k → IsMarkedByAny g (xs ++ ys) k
any_first g [] ys k m = absurd m
any_first g (x ∷ xs) ys k (inl m) = inl m
any_first g (x ∷ xs) ys k (inr m) = inr (any_first g xs ys k m)

any_last : (g : Grid) (xs ys : List Found) (k : ℕ) → IsMarkedByAny g ys k → IsMarkedByAny g (xs ++ ys) k
any_last g [] ys k m = m
any_last g (x ∷ xs) ys k m = inr (any_last g xs ys k m)

any_of_both : (g : Grid) (xs ys : List Found) (k : ℕ) → IsMarkedByAny g (xs ++ ys) k → IsMarkedByAny g xs k ⊎ IsMarkedByAny g ys k
any_of_both g [] ys k m = inr m
any_of_both g (x ∷ xs) ys k (inl m) = inl (inl m)
any_of_both g (x ∷ xs) ys k (inr m) =
    elim (any_of_both g xs ys k m) [
      | inl p ↦ inl (inr p)
      | inr q ↦ inr q
    ]

spot_of : (g : Grid) (f : Found) (k : ℕ) → IsMarkedByAny g (f ∷ []) k → IsSpot f.touch.place
spot_of g f k (inl m) = m.0
spot_of g f k (inr m) = absurd m

near_of : (g : Grid) (f : Found) (k : ℕ) → IsMarkedByAny g (f ∷ []) k → IsNear (at_spot f.touch.place) (mark_radius g) (centre g k)
near_of g f k (inl m) = m.1
near_of g f k (inr m) = absurd m

-- ---- the heights of marks

pub no_marks : (g : Grid) (a : List ℕ) → AreLevels g [] a a
no_marks g a = record { count = refl; each = λ k less. record { near = λ m. absurd m; other = λ none. refl } }

-- a place within two metres, and one that isn't
pub one_marked : (g : Grid) (f : Found) (a b : List ℕ) → IsSpot f.touch.place → AreLowered g (at_spot f.touch.place) (mark_radius g) 0 a b → AreLevels g (f ∷ []) a b
one_marked g f a b spot low = record {
  count = low.count;
  each = λ k less.
      let l = low.each k less in
      record {
        near = λ m. (let e = l.near (near_of g f k m) in omega (arith, e));
        other = λ none. l.other (λ n. none (inl (spot, n)));
      };
}

pub none_marked : (g : Grid) (f : Found) (a : List ℕ) → ¬ (IsSpot f.touch.place) → AreLevels g (f ∷ []) a a
none_marked g f a far = record {
  count = refl;
  each = λ k less. record { near = λ m. absurd (far (spot_of g f k m)); other = λ none. refl };
}

-- a cell that earlier motions have marked stays marked
still : (g : Grid) (ys : List Found) (k mid new : ℕ) → IsLevel g ys k mid new → mid ≡ 0 → new ≡ 0
still g ys k mid new q e = zero_or new (λ some. some (q.other (λ n. some (q.near n)) ∙ e))

both_near : (g : Grid) (xs ys : List Found) (k old mid new : ℕ) → IsLevel g xs k old mid → IsLevel g ys k mid new → IsMarkedByAny g xs k ⊎ IsMarkedByAny g ys k → new ≡ 0
both_near g xs ys k old mid new p q (inl m) = still g ys k mid new q (p.near m)
both_near g xs ys k old mid new p q (inr m) = q.near m

both_marked : (g : Grid) (xs ys : List Found) (a b c : List ℕ) → AreLevels g xs a b → AreLevels g ys b c → AreLevels g (xs ++ ys) a c
both_marked g xs ys a b c first later = record {
  count = later.count ∙ first.count;
  each = λ k less.
      let small : k < length b = omega (arith, first.count, less) in
      let p = first.each k less in
      let q = later.each k small in
      record {
        near = λ m. both_near g xs ys k (slice_index a k) (slice_index b k) (slice_index c k) p q (any_of_both g xs ys k m);
        other = λ none. q.other (λ m. none (any_last g xs ys k m)) ∙ p.other (λ m. none (any_first g xs ys k m));
      };
}

pub marks_next : (g : Grid) (xs : List Found) (i : ℕ) (d : Found) (a b c : List ℕ) → i < length xs →
    AreLevels g (take i xs) a b → AreLevels g (get_or xs i d ∷ []) b c → AreLevels g (take (i + 1) xs) a c
marks_next g xs i d a b c inside first later =
    subst (λ (fs : List Found). AreLevels g fs a c) (sym (take_more xs i d inside))
    (both_marked g (take i xs) (get_or xs i d ∷ []) a b c first later)

pub marks_all : (g : Grid) (xs : List Found) (i : ℕ) (a b : List ℕ) → length xs ≤ i → AreLevels g (take i xs) a b → AreLevels g xs a b
marks_all g xs i a b ends h = subst (λ (fs : List Found). AreLevels g fs a b) (take_all i xs ends) h

-- ---- the marks of a walk

not_zero : (n : ℕ) → n ≡ 1 → (n == 0) ≡ false
not_zero n e = ap (λ (m : ℕ). m == 0) e

-- every cell has a level
pub all_ones : (w v : WalkData) (levels : List ℕ) → v ≡ w → levels ≡ replicate (w.stock.grid.columns * w.stock.grid.rows) 1 →
    length levels ≡ v.stock.grid.columns * v.stock.grid.rows
all_ones w v levels same ones =
    ap (λ (l : List ℕ). length l) ones ∙ length-replicate (w.stock.grid.columns * w.stock.grid.rows) 1
    ∙ sym (ap (λ (x : WalkData). x.stock.grid.columns * x.stock.grid.rows) same)

-- first the traverses, and then the feeds
marks_of : (w : WalkData) (a b c : List ℕ) (marks : List Bool) → a ≡ replicate (w.stock.grid.columns * w.stock.grid.rows) 1 →
    AreLevels w.stock.grid w.found a b → AreLevels w.stock.grid w.feeds b c → marks ≡ map (λ (n : ℕ). n == 0) c → AreMarks w marks
marks_of w a b c marks first traverses feeds is =
    let n : ℕ = w.stock.grid.columns * w.stock.grid.rows in
    let whole : length a ≡ n = ap (λ (l : List ℕ). length l) first ∙ length-replicate n 1 in
    let same : length marks ≡ length c = ap (λ (l : List Bool). length l) is ∙ length-map c (λ (m : ℕ). m == 0) in
    record {
      count = same ∙ feeds.count ∙ traverses.count ∙ whole;
      each = λ k less.
          let in_c : k < length c = omega (arith, less, same) in
          let in_b : k < length b = omega (arith, in_c, feeds.count) in
          let in_a : k < length a = omega (arith, in_b, traverses.count) in
          let in_n : k < n = omega (arith, in_a, whole) in
          let p = traverses.each k in_a in
          let q = feeds.each k in_b in
          let mark : get_or marks k false ≡ (slice_index c k == 0) =
          ap (λ (l : List Bool). get_or l k false) is ∙ get_or-map (λ (m : ℕ). m == 0) c k 0 false in_c in
          let one : slice_index a k ≡ 1 = ap (λ (l : List ℕ). slice_index l k) first ∙ get_or-replicate n k 1 0 in_n in
          record {
            near = λ m. mark ∙ eq-eqb (slice_index c k) 0 (both_near w.stock.grid w.found w.feeds k (slice_index a k) (slice_index b k) (slice_index c k) p q m);
            other = λ none. mark ∙ not_zero (slice_index c k) (q.other (λ m. none (inr m)) ∙ p.other (λ m. none (inl m)) ∙ one);
          };
    }

pub whole_marks : (w v : WalkData) (found feeds : List Found) (a b c : List ℕ) (marks : List Bool) → v ≡ w → found ≡ v.found → feeds ≡ v.feeds →
    a ≡ replicate (w.stock.grid.columns * w.stock.grid.rows) 1 → AreLevels v.stock.grid found a b → AreLevels v.stock.grid feeds b c →
    marks ≡ map (λ (n : ℕ). n == 0) c → AreMarks w marks
whole_marks w v found feeds a b c marks same is_found is_feeds ones first later is =
    let p = subst (λ (x : WalkData). AreLevels x.stock.grid x.found a b) same (subst (λ (fs : List Found). AreLevels v.stock.grid fs a b) is_found first) in
    let q = subst (λ (x : WalkData). AreLevels x.stock.grid x.feeds b c) same (subst (λ (fs : List Found). AreLevels v.stock.grid fs b c) is_feeds later) in
    marks_of w a b c marks ones p q is
