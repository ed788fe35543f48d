-- No cell gets higher than the stock was.
use Rattle.std.proofs.Common.{◌≡◌, ℕ, zero, suc, ◌*◌, ◌<◌, inl, inr, sym, subst, arith, List, [], ◌∷◌, ◌++◌, length, take, drop, ap, ◌∙◌, append-nil}
use Rattle.std.proofs.Math.ListN.{drop_of_length-le}
use Rattle.std.proofs.Math.Seq.{take-length}
use Rattle.std.specs.Prelude.{slice_index}
use Rattle.std.proofs.lemmas.Bool.{cases_lt}
use Rattle.std.proofs.lemmas.List.{get_or-replicate, length-replicate}
use Rattle.ngc_fixed_length.specs.declared.points.Point3.{Point3}
use Rattle.ngc_arc_geometry.specs.Shape.{ArcShape}
use Rattle.ngc_cells.specs.declared.stretch.Stretch.{Stretch}
use Rattle.ngc_cells.specs.Stretches.{IsNear}
use Rattle.ngc_cells.specs.Grids.{AreLowered, centre}
use Rattle.ngc_stock.specs.declared.cylinder.Cylinder.{Cylinder}
use Rattle.ngc_stock.specs.declared.stock.Stock.{Stock}
use Rattle.ngc_stock.specs.Stocks.{kappa, radius, pieces}
use Rattle.ngc_stock.specs.Walk.{ArePiecesCut, AreCut, AreDiscsCut, AreChordsCut, IsArcCut, AreArcsCut, uncut}
use Rattle.ngc_material.specs.Chords.{AreSomeCut}
use Rattle.ngc_material.specs.Heights.{AreWithin}

lowered : (s : Stock) (t : Stretch) (r level : ℕ) (old new : List ℕ) → AreLowered s.grid t r level old new → AreWithin s old → AreWithin s new
lowered s t r level old new low within k small =
    let less : k < length old = omega (arith, low.count, small) in
    let one = low.each k less in
    let was = within k less in
    elim (cases_lt s.height (slice_index new k)) [
      | inl above ↦ (
          let far : ¬ (IsNear t r (centre s.grid k)) = λ n. (let e = one.near n in omega (arith, e, was, above)) in
          let e = one.other far in
          absurd (omega (arith, e, was, above)))
      | inr good ↦ good
    ]

pieces_within : (s : Stock) (t : Cylinder) (a b : Point3) (n : ℕ) (old new : List ℕ) → ArePiecesCut s t a b n old new → AreWithin s old → AreWithin s new
pieces_within s t a b zero old new e within = subst (λ (l : List ℕ). AreWithin s l) (sym e) within
pieces_within s t a b (suc n) old new cut within = lowered s _ _ _ cut.0 new cut.2 (pieces_within s t a b n old cut.0 cut.1 within)

pub cut_within : (s : Stock) (t : Cylinder) (a b : Point3) (old new : List ℕ) → AreCut s t a b old new → AreWithin s old → AreWithin s new
cut_within s t a b old new cut within =
    elim (cases_lt (radius t) (kappa s.grid)) [
      | inl thin ↦ subst (λ (l : List ℕ). AreWithin s l) (sym (cut.thin thin)) within
      | inr thick ↦ (let c = cut.thick thick in lowered s _ _ _ c.0 new c.2 (pieces_within s t a b (pieces a b) old c.0 c.1 within))
    ]

chords_within : (s : Stock) (t : Cylinder) (a : ArcShape) (n : ℕ) (old new : List ℕ) → AreChordsCut s t a n old new → AreWithin s old → AreWithin s new
chords_within s t a zero old new e within = subst (λ (l : List ℕ). AreWithin s l) (sym e) within
chords_within s t a (suc n) old new (middle, room, d, e, before, plane, fits, chord, low) within =
    lowered s _ _ _ middle new low (chords_within s t a n old middle before within)

pub some_within : (s : Stock) (t : Cylinder) (a : ArcShape) (old new : List ℕ) → AreSomeCut s t a old new → AreWithin s old → AreWithin s new
some_within s t a old new some within = chords_within s t a some.0 old new some.1 within

pub arc_within : (s : Stock) (t : Cylinder) (a : ArcShape) (old new : List ℕ) → IsArcCut s t a old new → AreWithin s old → AreWithin s new
arc_within s t a old new cut within = cut_within s t a.end a.end cut.middle new cut.end (chords_within s t a cut.count old cut.middle cut.chords within)

-- with all discs
pub discs_within : (s : Stock) (ds : List Cylinder) (a b : Point3) (old new : List ℕ) → AreDiscsCut s ds a b old new → AreWithin s old → AreWithin s new
discs_within s [] a b old new e within = subst (λ (l : List ℕ). AreWithin s l) (sym e) within
discs_within s (d ∷ ds) a b old new h within = discs_within s ds a b h.0 new h.2 (cut_within s d a b old h.0 h.1 within)

pub arcs_within : (s : Stock) (ds : List Cylinder) (a : ArcShape) (old new : List ℕ) → AreArcsCut s ds a old new → AreWithin s old → AreWithin s new
arcs_within s [] a old new e within = subst (λ (l : List ℕ). AreWithin s l) (sym e) within
arcs_within s (d ∷ ds) a old new h within = arcs_within s ds a h.0 new h.2 (arc_within s d a old h.0 h.1 within)

-- ---- their number stays

pieces_count : (s : Stock) (t : Cylinder) (a b : Point3) (n : ℕ) (old new : List ℕ) → ArePiecesCut s t a b n old new → length new ≡ length old
pieces_count s t a b zero old new e = ap (λ (l : List ℕ). length l) e
pieces_count s t a b (suc n) old new cut = cut.2.count ∙ pieces_count s t a b n old cut.0 cut.1

pub cut_count : (s : Stock) (t : Cylinder) (a b : Point3) (old new : List ℕ) → AreCut s t a b old new → length new ≡ length old
cut_count s t a b old new cut =
    elim (cases_lt (radius t) (kappa s.grid)) [
      | inl thin ↦ ap (λ (l : List ℕ). length l) (cut.thin thin)
      | inr thick ↦ (let c = cut.thick thick in c.2.count ∙ pieces_count s t a b (pieces a b) old c.0 c.1)
    ]

chords_count : (s : Stock) (t : Cylinder) (a : ArcShape) (n : ℕ) (old new : List ℕ) → AreChordsCut s t a n old new → length new ≡ length old
chords_count s t a zero old new e = ap (λ (l : List ℕ). length l) e
chords_count s t a (suc n) old new h = h.8.count ∙ chords_count s t a n old h.0 h.4

pub arc_count : (s : Stock) (t : Cylinder) (a : ArcShape) (old new : List ℕ) → IsArcCut s t a old new → length new ≡ length old
arc_count s t a old new cut = cut_count s t a.end a.end cut.middle new cut.end ∙ chords_count s t a cut.count old cut.middle cut.chords

pub uncut_within : (s : Stock) → AreWithin s (uncut s)
uncut_within s k small =
    let less : k < s.grid.columns * s.grid.rows = subst (λ (n : ℕ). k < n) (length-replicate (s.grid.columns * s.grid.rows) s.height) small in
    let e = get_or-replicate (s.grid.columns * s.grid.rows) k s.height 0 less in
    omega (arith, e)

-- heights that are written back into a list of the same length
pub written_within : (s : Stock) (len : ℕ) (new items : List ℕ) → length new ≡ length items → len ≡ length items → AreWithin s new →
    AreWithin s (take len (new ++ drop (length new) items))
written_within s len new items count size within =
    let none : drop (length new) items ≡ [] = drop_of_length-le items (omega (arith, count)) in
    let same : len ≡ length new = omega (arith, count, size) in
    let e : take len (new ++ drop (length new) items) ≡ new =
    ap (λ (ys : List ℕ). take len (new ++ ys)) none ∙ ap (λ (xs : List ℕ). take len xs) (append-nil new) ∙ ap (λ (n : ℕ). take n new) same ∙ take-length new in
    subst (λ (l : List ℕ). AreWithin s l) (sym e) within
