-- The parts of a tool along the chords of an arc, one chord after another.
use Rattle.std.specs.Prelude.{Result, Ok, Err, IfOk}
use Rattle.std.specs.Int.{int_min}
use Rattle.std.proofs.Common.{◌≡◌, ℕ, ◌+◌, ◌<◌, ◌≤◌, inl, inr, ℤ, pos, ◌+ℤ◌, ◌<ℤ◌, refl, sym, ◌∙◌, subst, arith, List, [], ◌∷◌, ◌++◌, length, false}
use Rattle.std.proofs.lemmas.Bool.{cases_lt}
use Rattle.ngc_fixed_length.specs.Places.{cross}
use Rattle.ngc_fixed_length.specs.declared.points.Point2.{Point2}
use Rattle.ngc_fixed_length.specs.declared.points.Point3.{Point3}
use Rattle.ngc_machine_files.specs.declared.tools.Tool.{Tool}
use Rattle.ngc_arc_geometry.specs.Shape.{ArcShape}
use Rattle.ngc_arc_geometry.specs.Sector.{is_full}
use Rattle.ngc_stock.specs.declared.cylinder.Cylinder.{Cylinder}
use Rattle.ngc_stock.specs.declared.stock.Stock.{Stock}
use Rattle.ngc_stock.specs.Arcs.{IsChord, AreChords, AreAlong, first_end, last_end, low_at, opposite}
use Rattle.ngc_stock.specs.Feeds.{IsAbove, AreAbove}
use Rattle.ngc_stock.specs.Stocks.{sigma, tolerance, lowest_part, from_part, level_of}
use Rattle.ngc_stock.specs.Walk.{AreClear}
use Rattle.ngc_material.specs.Rims.{AreChordsClear}

-- ---- chords

pub same_low : (a : ArcShape) (d : Point2) (x y z : ℤ) → x ≡ a.centre.u +ℤ d.u → y ≡ a.centre.v +ℤ d.v → z ≡ int_min a.start.z a.end.z →
    (let p : Point3 = record { x = x; y = y; z = z } in p) ≡ low_at a d
same_low a d x y z h i j = rw (h, i, j) refl

chords_more : (a : ArcShape) (room : ℕ) (P : Point3 → Point3 → Type 0) (d : Point2) (ms : List Point2) (e m : Point2) → AreChords a room P d ms e →
    IsChord a room e m → pos 0 <ℤ cross e m → P (low_at a e) (low_at a m) → AreChords a room P d (ms ++ m ∷ []) m
chords_more a room P d [] e m same chord turns holds =
    subst (λ (x : Point2). AreChords a room P x (m ∷ []) m) (sym same) (chord, turns, holds, refl)
chords_more a room P d (x ∷ ms) e m h chord turns holds = (h.0, h.1, h.2, chords_more a room P x ms e m h.3 chord turns holds)

pub no_chords : (s : Stock) (t : Tool) (a : ArcShape) (heights : List ℕ) (d : Point2) → AreChordsClear s t a heights d d
no_chords s t a heights d = ([], refl)

pub one_chord : (s : Stock) (t : Tool) (a : ArcShape) (heights : List ℕ) (d e m : Point2) → AreChordsClear s t a heights d e →
    IsChord a (sigma s.grid) e m → pos 0 <ℤ cross e m → AreClear s t (low_at a e) (low_at a m) heights → AreChordsClear s t a heights d m
one_chord s t a heights d e m h chord turns clear =
    (h.0 ++ m ∷ [], chords_more a (sigma s.grid) (λ p q. AreClear s t p q heights) d h.0 e m h.1 chord turns clear)

-- ---- the whole arc

pub one_piece : (s : Stock) (t : Tool) (a : ArcShape) (heights : List ℕ) (first last : Point2) → is_full a ≡ false → first ≡ first_end a → last ≡ last_end a →
    AreChordsClear s t a heights first last → AreAlong a (sigma s.grid) (λ p q. AreClear s t p q heights)
one_piece s t a heights first last part e f h =
    let x = subst (λ (d : Point2). AreChordsClear s t a heights d last) e h in
    let y = subst (λ (d : Point2). AreChordsClear s t a heights (first_end a) d) f x in
    record {
      halfway = last_end a;
      before = y.0;
      after = [];
      round = λ full. absurd (cc (sym full ∙ part));
      first = y.1;
      last = refl;
    }

pub two_pieces : (s : Stock) (t : Tool) (a : ArcShape) (heights : List ℕ) (first half last : Point2) → first ≡ first_end a → half ≡ opposite first → last ≡ last_end a →
    AreChordsClear s t a heights first half → AreChordsClear s t a heights half last → AreAlong a (sigma s.grid) (λ p q. AreClear s t p q heights)
two_pieces s t a heights first half last e o f h i =
    let x = subst (λ (d : Point2). AreChordsClear s t a heights d half) e h in
    let y = subst (λ (d : Point2). AreChordsClear s t a heights half d) f i in
    let r = subst (λ (d : Point2). half ≡ opposite d) e o in
    record {
      halfway = half;
      before = x.0;
      after = y.0;
      round = λ full. r;
      first = x.1;
      last = y.1;
    }

-- what holds of a test that went well, if something else does
pub ok_then : (V E : Type 0) (r : Result V E) (P Q : Type 0) → (P → Q) → IfOk r (λ v. P) → IfOk r (λ v. Q)
ok_then V E (Ok v) P Q f h = f h
ok_then V E (Err e) P Q f h = tt

-- ---- parts above the stock

pub foot_above : (s : Stock) (x y : Cylinder) (a : ArcShape) (z : ℤ) (limit : ℕ) → x ≡ y → z ≡ int_min a.start.z a.end.z →
    limit ≡ level_of s ((z +ℤ x.bottom) +ℤ pos (tolerance s.grid)) → s.height ≤ limit → IsAbove s y a
foot_above s x y a z limit e f l h =
    subst (λ (w : Cylinder). s.height ≤ level_of s ((int_min a.start.z a.end.z +ℤ w.bottom) +ℤ pos (tolerance s.grid))) e
    (subst (λ (v : ℤ). s.height ≤ level_of s ((v +ℤ x.bottom) +ℤ pos (tolerance s.grid))) f (subst (λ (n : ℕ). s.height ≤ n) l h))

-- one part more
pub one_above : (s : Stock) (t u : Tool) (a : ArcShape) (part : ℕ) → part < length t.parts → (part < length t.parts → u ≡ from_part t part) → IsAbove s (lowest_part u) a →
    ((p : ℕ) → 0 < p → p < part → IsAbove s (lowest_part (from_part t p)) a) → (p : ℕ) → 0 < p → p < part + 1 → IsAbove s (lowest_part (from_part t p)) a
one_above s t u a part within is above lower p from less =
    elim (cases_lt p part) [
      | inl before ↦ lower p from before
      | inr after ↦ (let e : part ≡ p = omega (arith, less, after) in
          subst (λ (k : ℕ). IsAbove s (lowest_part (from_part t k)) a) e
          (subst (λ (x : Tool). IsAbove s (lowest_part x) a) (is within) above))
    ]

-- all of them
pub all_above : (s : Stock) (t : Tool) (a : ArcShape) (part : ℕ) → length t.parts ≤ part →
    ((p : ℕ) → 0 < p → p < part → IsAbove s (lowest_part (from_part t p)) a) → AreAbove s t a
all_above s t a part whole lower p from less = lower p from (omega (arith, whole, less))
