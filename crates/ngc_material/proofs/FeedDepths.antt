-- How deep a feed is, from what a probe finds.
use Rattle.std.proofs.Common.{◌≡◌, ℕ, ◌+◌, ◌-◌, ◌≤◌, ◌<◌, ℤ, pos, negsuc, ◌+ℤ◌, ◌-ℤ◌, ◌≤ℤ◌, sym, subst, refl, inl, inr, arith, List}
use Rattle.std.specs.Prelude.{slice_index}
use Rattle.std.proofs.lemmas.Bool.{cases_lt}
use Rattle.std.proofs.lemmas.Int.{ints}
use Rattle.ngc_fixed_length.specs.declared.points.Point3.{Point3}
use Rattle.ngc_cells.specs.Stretches.{IsNear}
use Rattle.ngc_cells.specs.Grids.{AreBelow, centre}
use Rattle.ngc_stock.specs.declared.cylinder.Cylinder.{Cylinder}
use Rattle.ngc_stock.specs.declared.stock.Stock.{Stock}
use Rattle.ngc_stock.specs.Cuts.{lower_tip, whole, IsDepth}
use Rattle.ngc_stock.specs.Stocks.{radius, reduction, natural_of, level_of}
use Rattle.ngc_material.specs.Touches.{IsDeep, IsDeepest}
use Rattle.ngc_material.specs.declared.touch.Touch.{Touch}

none_above : (z : ℤ) → z ≤ℤ pos 0 → natural_of z ≡ 0
none_above (pos n) h = omega (arith, ints, h)
none_above (negsuc n) h = refl

of_natural : (z : ℤ) (h : ℕ) → 0 < h → h ≤ natural_of z → pos h ≤ℤ z
of_natural (pos n) h some most = omega (arith, ints, most)
of_natural (negsuc n) h some most = absurd (omega (arith, some, most))

-- material that isn't above the tip's level isn't above the tip
not_above : (s : Stock) (tip : ℤ) (h : ℕ) → 0 < h → h ≤ level_of s tip → natural_of ((s.bottom +ℤ pos h) -ℤ tip) ≡ 0
not_above s tip h some most =
    let m : h ≤ natural_of (tip -ℤ s.bottom) = omega (arith, most) in
    let p = of_natural (tip -ℤ s.bottom) h some m in
    none_above ((s.bottom +ℤ pos h) -ℤ tip) (omega (arith, ints, p))

pub none_depth : (s : Stock) (t : Cylinder) (a b : Point3) (heights : List ℕ) (r : ℕ) → r ≡ radius t - reduction s.grid →
    AreBelow s.grid (whole a b) r (level_of s (lower_tip t a b)) heights → IsDepth s t a b heights 0
none_depth s t a b heights r e below = record {
  greatest = λ k d cut. (
      let most = subst (λ (n : ℕ). AreBelow s.grid (whole a b) n (level_of s (lower_tip t a b)) heights) e below k cut.within cut.near in
      let z = not_above s (lower_tip t a b) (slice_index heights k) cut.left most in
      omega (arith, z, cut.depth));
  some = λ h. absurd (omega (arith, h));
}

pub natural_most : (x y : ℤ) → x ≤ℤ y → natural_of x ≤ natural_of y
natural_most (pos m) (pos n) h = omega (arith, ints, h)
natural_most (pos m) (negsuc n) h = absurd (omega (arith, ints, h))
natural_most (negsuc m) (pos n) h = omega arith
natural_most (negsuc m) (negsuc n) h = omega arith

deeper_of_two : (s : Stock) (tip : ℤ) (low high : ℕ) → low ≤ high → natural_of ((s.bottom +ℤ pos low) -ℤ tip) ≤ natural_of ((s.bottom +ℤ pos high) -ℤ tip)
deeper_of_two s tip low high h = natural_most ((s.bottom +ℤ pos low) -ℤ tip) ((s.bottom +ℤ pos high) -ℤ tip) (omega (arith, ints, h))

-- the deepest cell that a probe at the tip's level finds
pub some_depth : (s : Stock) (t : Cylinder) (a b : Point3) (heights : List ℕ) (r level d : ℕ) (touch : Touch) → reduction s.grid ≤ radius t →
    r ≡ radius t - reduction s.grid → level ≡ level_of s (lower_tip t a b) →
    IsDeepest s.grid (IsDeep s.grid (whole a b) r level level heights) touch →
    d ≡ natural_of ((s.bottom +ℤ pos (level + touch.depth)) -ℤ lower_tip t a b) → IsDepth s t a b heights d
some_depth s t a b heights r level d touch thick e f deepest is =
    let tip = lower_tip t a b in
    let top : slice_index heights deepest.cell ≡ level + touch.depth = omega (arith, deepest.found.above, deepest.found.depth) in
    record {
      greatest = λ k x cut. (
          let most : slice_index heights k ≤ level + touch.depth = elim (cases_lt level (slice_index heights k)) [
            | inl above ↦ (
                let near = subst (λ (n : ℕ). IsNear (whole a b) n (centre s.grid k)) (sym e) cut.near in
                let g = deepest.greatest k (slice_index heights k - level) (record { within = cut.within; near = near; above = above; depth = refl }) in
                omega (arith, g, above))
            | inr low ↦ omega (arith, low)
          ] in
          let p = deeper_of_two s tip (slice_index heights k) (level + touch.depth) most in
          omega (arith, p, cut.depth, is));
      some = λ h. (
        deepest.cell,
        record {
          thick = thick;
          within = deepest.found.within;
          near = subst (λ (n : ℕ). IsNear (whole a b) n (centre s.grid deepest.cell)) e deepest.found.near;
          left = omega (arith, deepest.found.above);
          depth = subst (λ (n : ℕ). d ≡ natural_of ((s.bottom +ℤ pos n) -ℤ tip)) (sym top) is;
        },
      );
    }
