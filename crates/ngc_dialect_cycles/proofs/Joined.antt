-- Parts of the moves, and how they join.
use Rattle.std.proofs.Common.{◌≡◌, ℕ, zero, suc, ◌+◌, ◌-◌, ◌<◌, ◌≤◌, List, [], ◌∷◌, ◌++◌, Some, None, Bool, true, false, refl, ap, sym, ◌∙◌, arith, append_assoc, append-nil}
use Rattle.std.specs.Prelude.{drop, slice_get, nat_lt, if◌then◌else◌}
use Rattle.std.proofs.lemmas.Bool.{lt-ltb, le-ltb, ltb-true, ltb-false}
use Rattle.ngc_canned_cycles.specs.declared.cycle.CycleMove.{CycleMove}
use Rattle.ngc_canned_cycles.specs.Holes.{counting}
use Rattle.ngc_dialect_cycles.specs.declared.line.HoleKind.{HoleKind}
use Rattle.ngc_dialect_cycles.specs.declared.line.HoleKind.TheVariants.{Drill, DrillWithDwell, Peck, BreakChips, Bore, BoreWithStop, BoreWithDwell}
use Rattle.ngc_dialect_cycles.specs.declared.line.Series.{Series}
use Rattle.ngc_dialect_cycles.specs.declared.line.CycleLine.{CycleLine}
use Rattle.ngc_dialect_cycles.specs.declared.walk.Part.{Part}
use Rattle.ngc_dialect_cycles.specs.declared.walk.Part.TheVariants.{Arrival, OnePeck, Ending}
use Rattle.ngc_dialect_cycles.specs.Levels.{site_of}
use Rattle.ngc_dialect_cycles.specs.Holes.{peck_count, peck_moves, ending}
use Rattle.ngc_dialect_cycles.specs.Moves.{arrival, hole, all_moves}
use Rattle.ngc_dialect_cycles.specs.Walk.{part_moves, next_part, from_peck, after_part, from_hole, left_at}

-- one element more is taken
drop-suc : {A : Type 0} (xs : List A) (n : ℕ) (x : A) → slice_get xs n ≡ Some x → drop n xs ≡ x ∷ drop (suc n) xs
drop-suc [] n x h = absurd (cc)
drop-suc (y ∷ xs) zero x h = cc
drop-suc (y ∷ xs) (suc n) x h = drop-suc xs n x h

drop-get : {A : Type 0} (xs : List A) (n : ℕ) (x : A) → slice_get xs n ≡ Some x → drop n xs ≡ x ∷ drop (n + 1) xs
drop-get xs n x h = let e : n + 1 ≡ suc n = omega arith in rw e (drop-suc xs n x h)

-- all elements were taken
drop-none : {A : Type 0} (xs : List A) (n : ℕ) → slice_get xs n ≡ None → drop n xs ≡ []
drop-none [] zero h = refl
drop-none [] (suc n) h = refl
drop-none (y ∷ xs) zero h = absurd (cc)
drop-none (y ∷ xs) (suc n) h = drop-none xs n h

-- one of the numbers that are left comes first
counting-more : (i n : ℕ) → i < n → counting i (n - i) ≡ i ∷ counting (i + 1) (n - (i + 1))
counting-more i n h = let e : n - i ≡ suc (n - (i + 1)) = omega arith in rw e refl

counting-none : (i n : ℕ) → n ≤ i → counting i (n - i) ≡ []
counting-none i n h = let e : n - i ≡ 0 = omega arith in rw e refl

within : {A : Type 0} (k n : ℕ) (x y : A) → k < n → (if nat_lt k n then x else y) ≡ x
within k n x y h = rw (lt-ltb k n h) refl

beyond : {A : Type 0} (k n : ℕ) (x y : A) → n ≤ k → (if nat_lt k n then x else y) ≡ y
beyond k n x y h = rw (le-ltb k n h) refl

-- all holes have as many pecks as the first
pub same_count : (kind : HoleKind) (s : Series) (l : CycleLine) (k : ℕ) → peck_count kind (site_of s l 0) ≡ peck_count kind (site_of s l k)
same_count (Peck p) s l k = refl
same_count (BreakChips p) s l k = refl
same_count Drill s l k = refl
same_count (DrillWithDwell t) s l k = refl
same_count Bore s l k = refl
same_count (BoreWithStop t) s l k = refl
same_count (BoreWithDwell t) s l k = refl

module _ (s : Series) (l : CycleLine) (k : ℕ) where
  inside : (part : Part) (n : ℕ) → k < l.repeats → left_at s l k part n ≡ (drop n (part_moves s l k part) ++ after_part s l k part) ++ from_hole s l (k + 1)
  inside part n h = within k l.repeats _ _ h

  -- no hole is left
  pub outside : (part : Part) (n : ℕ) → l.repeats ≤ k → left_at s l k part n ≡ []
  outside part n h = beyond k l.repeats _ _ h

  -- a move is taken
  pub taken : (part : Part) (n : ℕ) (x : CycleMove) → k < l.repeats → slice_get (part_moves s l k part) n ≡ Some x →
      left_at s l k part n ≡ x ∷ left_at s l k part (n + 1)
  taken part n x h found = rw (inside part n h, inside part (n + 1) h, drop-get (part_moves s l k part) n x found) refl

  -- a part is done
  pub done : (part : Part) (n : ℕ) → k < l.repeats → slice_get (part_moves s l k part) n ≡ None → left_at s l k part n ≡ after_part s l k part ++ from_hole s l (k + 1)
  done part n h none = rw (inside part n h, drop-none (part_moves s l k part) n none) refl

  -- the part after n pecks begins
  begun : (n : ℕ) → (b : Bool) → nat_lt n (peck_count s.kind (site_of s l k)) ≡ b →
      part_moves s l k (if b then OnePeck (n + 1) else Ending) ++ after_part s l k (if b then OnePeck (n + 1) else Ending) ≡ from_peck s l k (n + 1)
  begun n true h =
      let m = peck_count s.kind (site_of s l k) in
      let below = ltb-true n m h in
      let more : n + 1 < m + 1 = omega arith in
      rw (counting-more (n + 1) (m + 1) more) (sym (append_assoc (peck_moves s.kind (site_of s l k) (n + 1)) _ _))
  begun n false h =
      let m = peck_count s.kind (site_of s l k) in
      let above = ltb-false n m h in
      let none : m + 1 ≤ n + 1 = omega arith in
      rw (counting-none (n + 1) (m + 1) none) (append-nil (ending s.kind (site_of s l k)))

  pub after_pecks : (n : ℕ) → k < l.repeats → left_at s l k (next_part (peck_count s.kind (site_of s l k)) n) 0 ≡ from_peck s l k (n + 1) ++ from_hole s l (k + 1)
  after_pecks n h = inside (next_part (peck_count s.kind (site_of s l k)) n) 0 h ∙ ap (λ xs. xs ++ from_hole s l (k + 1)) (begun n (nat_lt n (peck_count s.kind (site_of s l k))) refl)

first_peck : (s : Series) (l : CycleLine) (k : ℕ) → arrival s l k ++ from_peck s l k 1 ≡ hole s l k
first_peck s l k =
    let m = peck_count s.kind (site_of s l k) in
    let e : (m + 1) - 1 ≡ m = omega arith in
    rw e refl

-- a hole begins
begun_within : (s : Series) (l : CycleLine) (k : ℕ) → k < l.repeats → left_at s l k Arrival 0 ≡ from_hole s l k
begun_within s l k h = inside s l k Arrival 0 h ∙ rw (counting-more k l.repeats h) (ap (λ xs. xs ++ from_hole s l (k + 1)) (first_peck s l k))

begun_beyond : (s : Series) (l : CycleLine) (k : ℕ) → l.repeats ≤ k → left_at s l k Arrival 0 ≡ from_hole s l k
begun_beyond s l k h = outside s l k Arrival 0 h ∙ rw (counting-none k l.repeats h) refl

begun_if : (s : Series) (l : CycleLine) (k : ℕ) (b : Bool) → nat_lt k l.repeats ≡ b → left_at s l k Arrival 0 ≡ from_hole s l k
begun_if s l k true h = begun_within s l k (ltb-true k l.repeats h)
begun_if s l k false h = begun_beyond s l k (ltb-false k l.repeats h)

pub hole_begins : (s : Series) (l : CycleLine) (k : ℕ) → left_at s l k Arrival 0 ≡ from_hole s l k
hole_begins s l k = begun_if s l k (nat_lt k l.repeats) refl

-- all moves are left
pub all_left : (s : Series) (l : CycleLine) → left_at s l 0 Arrival 0 ≡ all_moves s l
all_left s l = let e : l.repeats - 0 ≡ l.repeats = omega arith in hole_begins s l 0 ∙ rw e refl
