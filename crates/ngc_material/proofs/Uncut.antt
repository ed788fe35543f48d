-- A disc whose foot is nowhere below the stock's top lowers no cell.
use Rattle.std.proofs.Common.{◌≡◌, ℕ, zero, suc, ◌+◌, ◌-◌, ◌<◌, ◌≤◌, ℤ, pos, ◌+ℤ◌, ◌-ℤ◌, ◌*ℤ◌, ◌≤ℤ◌, refl, arith, List, [], ◌∷◌}
use Rattle.std.specs.Int.{int_min}
use Rattle.std.proofs.lemmas.Int.{ints, int_min_is}
use Rattle.std.proofs.lemmas.Nat.{mul-le}
use Rattle.ngc_fixed_length.specs.declared.points.Point3.{Point3}
use Rattle.ngc_cells.specs.declared.stretch.Stretch.{Stretch}
use Rattle.ngc_cells.specs.Grids.{AreLowered}
use Rattle.ngc_cells.proofs.Ring.{V, S, P, ring}
use Rattle.ngc_cells.proofs.Vectors.{L, times_out}
use Rattle.ngc_stock.specs.declared.cylinder.Cylinder.{Cylinder}
use Rattle.ngc_stock.specs.declared.stock.Stock.{Stock}
use Rattle.ngc_stock.specs.Cuts.{lower_tip}
use Rattle.ngc_stock.specs.Stocks.{kappa, radius, tip, pieces, piece, point_at, highest_tip, level_of}
use Rattle.ngc_stock.specs.Walk.{ArePiecesCut, AreCut}
use Rattle.ngc_stock.proofs.AboveFeeds.{lower_weighted}
use Rattle.ngc_stock.proofs.Distances.{tip_below}
use Rattle.ngc_material.specs.Heights.{AreWithin}
use Rattle.ngc_material.proofs.FeedDepths.{natural_most}

-- ---- the foot is nowhere below its lower end

tip_as : (n k a b t m : ℤ) → ((n *ℤ (a +ℤ t)) +ℤ (k *ℤ (b -ℤ a))) -ℤ (n *ℤ (m +ℤ t)) ≡ (((n -ℤ k) *ℤ a) +ℤ (k *ℤ b)) -ℤ (n *ℤ m)
tip_as n k a b t m = ring (n ∷ k ∷ a ∷ b ∷ t ∷ m ∷ [])
    (L (S (P (V 0) (S (V 2) (V 4))) (P (V 1) (L (V 3) (V 2)))) (P (V 0) (S (V 5) (V 4))))
    (L (S (P (L (V 0) (V 1)) (V 2)) (P (V 1) (V 3))) (P (V 0) (V 5))) refl

tip_least : (t : Cylinder) (n k : ℕ) (a b : Point3) → k ≤ n → (pos n *ℤ lower_tip t a b) ≤ℤ tip t n k a b
tip_least t n k a b small =
    let w = lower_weighted n k a.z b.z small in
    let e = tip_as (pos n) (pos k) a.z b.z t.bottom (int_min a.z b.z) in
    omega (arith, ints, w, e)

lower_most : (t : Cylinder) (a b : Point3) (k : ℕ) → k < pieces a b → lower_tip t a b ≤ℤ highest_tip t a b k
lower_most t a b k small =
    let n = pieces a b in
    let some : 0 < n = omega (arith, small) in
    let next = mul-le k n (k + 1) n (omega arith) (omega arith) in
    let same = mul-le k n k n (omega arith) (omega arith) in
    let up = tip_below t a b k n k some same next in
    let low = tip_least t n k a b (omega (arith, small)) in
    times_out (pos n) (lower_tip t a b) (highest_tip t a b k) (omega (arith, ints, some)) (omega (arith, ints, up, low))

end_most : (t : Cylinder) (a b : Point3) → lower_tip t a b ≤ℤ (b.z +ℤ t.bottom)
end_most t a b = omega (arith, ints, int_min_is)

-- ---- what is lowered to the top stays

level_top : (s : Stock) (low z : ℤ) → s.height ≤ level_of s low → low ≤ℤ z → level_of s z ≡ s.height
level_top s low z high more =
    let m = natural_most (low -ℤ s.bottom) (z -ℤ s.bottom) (omega (arith, ints, more)) in
    omega (arith, high, m)

stays : (s : Stock) (t : Stretch) (r level : ℕ) (heights : List ℕ) → level ≡ s.height → AreWithin s heights → AreLowered s.grid t r level heights heights
stays s t r level heights e within = record {
  count = refl;
  each = λ k less. record {
    near = λ n. (let w = within k less in omega (arith, e, w));
    other = λ far. refl;
  };
}

pieces_stay : (s : Stock) (t : Cylinder) (a b : Point3) (n : ℕ) (heights : List ℕ) → n ≤ pieces a b → s.height ≤ level_of s (lower_tip t a b) → AreWithin s heights →
    ArePiecesCut s t a b n heights heights
pieces_stay s t a b zero heights few high within = refl
pieces_stay s t a b (suc n) heights few high within = (
  heights,
  pieces_stay s t a b n heights (omega (arith, few)) high within,
  stays s (piece a b n) (radius t - kappa s.grid) (level_of s (highest_tip t a b n)) heights
      (level_top s (lower_tip t a b) (highest_tip t a b n) high (lower_most t a b n (omega (arith, few)))) within,
)

pub uncut : (s : Stock) (t : Cylinder) (a b : Point3) (heights : List ℕ) → s.height ≤ level_of s (lower_tip t a b) → AreWithin s heights → AreCut s t a b heights heights
uncut s t a b heights high within = record {
  thin = λ thin. refl;
  thick = λ thick. (
    heights,
    pieces_stay s t a b (pieces a b) heights (omega arith) high within,
    stays s (point_at b) (radius t - kappa s.grid) (level_of s (b.z +ℤ t.bottom)) heights
        (level_top s (lower_tip t a b) (b.z +ℤ t.bottom) high (end_most t a b)) within,
  );
}
