-- Where the end of a feed needn't be cut again: its last piece is as low there.
use Rattle.std.proofs.Common.{◌≡◌, ℕ, suc, ◌+◌, ◌-◌, ◌≤◌, ◌+ℤ◌, refl, subst, arith, List, get_or, min}
use Rattle.ngc_fixed_length.specs.declared.points.Point3.{Point3}
use Rattle.ngc_cells.specs.declared.stretch.Spot.{Spot}
use Rattle.ngc_cells.specs.Stretches.{IsNear}
use Rattle.ngc_cells.specs.Grids.{centre, AreLowered}
use Rattle.ngc_stock.specs.declared.cylinder.Cylinder.{Cylinder}
use Rattle.ngc_stock.specs.declared.stock.Stock.{Stock}
use Rattle.ngc_stock.specs.Stocks.{kappa, radius, flat, pieces, piece, point_at, highest_tip, level_of}
use Rattle.ngc_stock.specs.Walk.{ArePiecesCut, AreCut}
use Rattle.ngc_stock.proofs.Distances.{point_around}

near_last : (a b : Point3) (k r : ℕ) (c : Spot) → pieces a b ≡ suc k → IsNear (point_at b) r c → IsNear (piece a b k) r c
near_last a b k r c e h =
    (1, 1, record { some = omega arith; first = omega (arith, e); last = omega (arith, e) }, point_around h.0 h.1 r (flat a) (flat b) c h.2.some h.3)

kept_level : (x old piece_level end_level : ℕ) → x ≡ min old piece_level → piece_level ≤ end_level → x ≡ min x end_level
kept_level x old piece_level end_level e most = omega (arith, e)

low_enough : (s : Stock) (a b : Point3) (k r piece_level end_level : ℕ) (old new : List ℕ) → pieces a b ≡ suc k → piece_level ≤ end_level →
    AreLowered s.grid (piece a b k) r piece_level old new → AreLowered s.grid (point_at b) r end_level new new
low_enough s a b k r piece_level end_level old new e most lowered = record {
  count = refl;
  each = λ i less. record {
    near = λ h. kept_level (get_or new i 0) (get_or old i 0) piece_level end_level
        ((lowered.each i (omega (arith, less, lowered.count))).near (near_last a b k r (centre s.grid i) e h)) most;
    other = λ f. refl;
  };
}

last_low : (s : Stock) (t : Cylinder) (a b : Point3) (n k : ℕ) (old new : List ℕ) → n ≡ suc k → pieces a b ≡ suc k →
    level_of s (highest_tip t a b k) ≤ level_of s (b.z +ℤ t.bottom) → ArePiecesCut s t a b n old new →
    AreLowered s.grid (point_at b) (radius t - kappa s.grid) (level_of s (b.z +ℤ t.bottom)) new new
last_low s t a b n k old new e f most cut =
    let last : ArePiecesCut s t a b (suc k) old new = subst (λ (m : ℕ). ArePiecesCut s t a b m old new) e cut in
    low_enough s a b k (radius t - kappa s.grid) (level_of s (highest_tip t a b k)) (level_of s (b.z +ℤ t.bottom)) last.0 new f most last.2

-- a feed whose last piece is at most as high as its end
pub cut_without_end : (s : Stock) (t : Cylinder) (a b : Point3) (last : ℕ) (old new : List ℕ) → kappa s.grid ≤ radius t → last + 1 ≡ pieces a b →
    level_of s (highest_tip t a b last) ≤ level_of s (b.z +ℤ t.bottom) → ArePiecesCut s t a b (pieces a b) old new → AreCut s t a b old new
cut_without_end s t a b last old new thick e most cut = record {
  thin = λ less. absurd (omega (arith, thick, less));
  thick = λ more. (new, cut, last_low s t a b (pieces a b) last old new (omega (arith, e)) (omega (arith, e)) most cut);
}
