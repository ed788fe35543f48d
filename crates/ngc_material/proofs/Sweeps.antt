-- The heights after one chord more, and after one list of chords and then another.
use Rattle.std.proofs.Common.{◌≡◌, ℕ, zero, suc, ◌+◌, ◌-◌, ℤ, ◌+ℤ◌, sym, subst, refl, ap, ◌∙◌, List, length, true}
use Rattle.ngc_fixed_length.specs.declared.points.Point2.{Point2}
use Rattle.ngc_fixed_length.specs.declared.points.Point3.{Point3}
use Rattle.ngc_arc_geometry.specs.Shape.{ArcShape}
use Rattle.ngc_cells.specs.declared.stretch.Stretch.{Stretch}
use Rattle.ngc_cells.specs.Grids.{AreLowered}
use Rattle.ngc_stock.specs.declared.cylinder.Cylinder.{Cylinder}
use Rattle.ngc_stock.specs.declared.stock.Stock.{Stock}
use Rattle.ngc_stock.specs.Stocks.{kappa, radius}
use Rattle.ngc_stock.specs.Arcs.{chord}
use Rattle.ngc_stock.specs.Walk.{AreChordsCut, AreCut, IsArcCut}
use Rattle.ngc_material.specs.declared.chord.Sector.{Sector}
use Rattle.ngc_material.specs.declared.chord.Band.{Band}
use Rattle.ngc_material.specs.Chords.{IsSwept, AreSomeCut, is_chord}
use Rattle.ngc_material.proofs.Chords.{follows}

pub none_cut : (s : Stock) (t : Cylinder) (a : ArcShape) (heights : List ℕ) → AreSomeCut s t a heights heights
none_cut s t a heights = (0, refl)

pub one_cut : (s : Stock) (t : Cylinder) (a : ArcShape) (sector : Sector) (b : Band) (room r level : ℕ) (d e : Point2) (c : Stretch) (old new : List ℕ) →
    IsSwept s t a sector b room r level → is_chord sector b d e ≡ true → c ≡ chord a d e → AreLowered s.grid c r level old new → AreSomeCut s t a old new
one_cut s t a sector b room r level d e c old new is test same low =
    let x = subst (λ (z : Stretch). AreLowered s.grid z r level old new) same low in
    let y = subst (λ (z : ℕ). AreLowered s.grid (chord a d e) z level old new) is.cutter x in
    let z = subst (λ (l : ℕ). AreLowered s.grid (chord a d e) (radius t - (kappa s.grid + room)) l old new) is.tip y in
    (1, (old, room, d, e, refl, is.turns.plane, is.thick, follows a room sector b d e is.turns is.near test, z))

chords_join : (s : Stock) (t : Cylinder) (a : ArcShape) (old mid : List ℕ) → AreSomeCut s t a old mid → (n : ℕ) (new : List ℕ) → AreChordsCut s t a n mid new → AreSomeCut s t a old new
chords_join s t a old mid some zero new e = subst (λ (l : List ℕ). AreSomeCut s t a old l) (sym e) some
chords_join s t a old mid some (suc n) new h =
    let r = chords_join s t a old mid some n h.0 h.4 in
    (suc r.0, (h.0, h.1, h.2, h.3, r.1, h.5, h.6, h.7, h.8))

pub some_join : (s : Stock) (t : Cylinder) (a : ArcShape) (old mid new : List ℕ) → AreSomeCut s t a old mid → AreSomeCut s t a mid new → AreSomeCut s t a old new
some_join s t a old mid new h i = chords_join s t a old mid h i.0 new i.1

pub same_chord : (a : ArcShape) (d e : Point2) (x y z w : ℤ) → x ≡ a.centre.u +ℤ d.u → y ≡ a.centre.v +ℤ d.v → z ≡ a.centre.u +ℤ e.u → w ≡ a.centre.v +ℤ e.v →
    (let c : Stretch = record { start = record { x = x; y = y }; end = record { x = z; y = w }; parts = 1; part = 0 } in c) ≡ chord a d e
same_chord a d e x y z w h i j k = rw (h, i, j, k) refl

pub arc_cut : (s : Stock) (t : Cylinder) (a : ArcShape) (p q : Point3) (old mid new : List ℕ) → p ≡ a.end → q ≡ a.end → AreSomeCut s t a old mid → AreCut s t p q mid new → IsArcCut s t a old new
arc_cut s t a p q old mid new h i some cut = record {
  count = some.0;
  middle = mid;
  chords = some.1;
  end = subst (λ (x : Point3). AreCut s t x a.end mid new) h (subst (λ (x : Point3). AreCut s t p x mid new) i cut);
}

chords_count : (s : Stock) (t : Cylinder) (a : ArcShape) (n : ℕ) (old new : List ℕ) → AreChordsCut s t a n old new → length new ≡ length old
chords_count s t a zero old new e = ap (λ (l : List ℕ). length l) e
chords_count s t a (suc n) old new h = h.8.count ∙ chords_count s t a n old h.0 h.4

pub some_count : (s : Stock) (t : Cylinder) (a : ArcShape) (old new : List ℕ) → AreSomeCut s t a old new → length new ≡ length old
some_count s t a old new h = chords_count s t a h.0 old new h.1
