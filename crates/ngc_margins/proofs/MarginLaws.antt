-- The laws of margins: a box that is apart from a larger fixture is apart from the fixture wherever
-- it moves by at most the margin, and apart from one that is less large.
use Rattle.std.proofs.Common.{refl, arith, Some, None, true, ℤ, ◌+ℤ◌, ◌-ℤ◌, ◌≤ℤ◌, List, [], ◌∷◌}
use Rattle.std.specs.Prelude.{Option, IsTrue, int_le, ◌&&◌}
use Rattle.std.specs.List.{list_all}
use Rattle.std.proofs.lemmas.Int.{ints}
use Rattle.ngc_fixed_length.specs.Boxes.{only}
use Rattle.ngc_fixed_length.specs.declared.points.Point3.{Point3}
use Rattle.ngc_fixed_length.specs.declared.points.StepPos.{StepPos}
use Rattle.ngc_machine_files.specs.Machine.{MachineFile}
use Rattle.ngc_machine_files.specs.declared.machine.Fixture.{Fixture}
use Rattle.ngc_machine_files.specs.declared.parts.Part.{Part}
use Rattle.ngc_machine_files.specs.declared.tools.Tool.{Tool}
use Rattle.ngc_collision.specs.Body.{IsClearAt, Solid, are_apart, bodies, clears, filled, is_below, nanometres_of, span, stacked}
use Rattle.ngc_margins.specs.Laws.{IsNear, MarginIsKept, SafeWithSmaller, TravelMarginIsKept}
use Rattle.ngc_margins.specs.Margins.{grown, lowered, raised, with_margins}
use Rattle.ngc_margins.proofs.Tests.{and, both, le_of, le_test, list_to, of_images, or_to, to_images}

-- ---- a box that moves by at most a margin

below_kept : (m a b c : ℤ) → (c -ℤ m) ≤ℤ a → IsTrue (int_le a (b -ℤ m)) → IsTrue (int_le c b)
below_kept m a b c h i = let j : a ≤ℤ (b -ℤ m) = le_of a (b -ℤ m) i in le_test c b (omega (arith, ints, h, j))

above_kept : (m a b c : ℤ) → (a -ℤ m) ≤ℤ c → IsTrue (int_le (b +ℤ m) a) → IsTrue (int_le b c)
above_kept m a b c h i = let j : (b +ℤ m) ≤ℤ a = le_of (b +ℤ m) a i in le_test b c (omega (arith, ints, h, j))

-- a box moves by at most m on each axis
pub record Moved (m : ℤ) (b c : Solid) : Type 0 where
  pub x_low : (b.low.x -ℤ m) ≤ℤ c.low.x
  pub x_high : (c.high.x -ℤ m) ≤ℤ b.high.x
  pub y_low : (b.low.y -ℤ m) ≤ℤ c.low.y
  pub y_high : (c.high.y -ℤ m) ≤ℤ b.high.y
  pub z_low : (b.low.z -ℤ m) ≤ℤ c.low.z
  pub z_high : (c.high.z -ℤ m) ≤ℤ b.high.z

apart_kept : (m : ℤ) (f : Fixture) (b c : Solid) → Moved m b c → IsTrue (are_apart (grown m f) b) → IsTrue (are_apart f c)
apart_kept m f b c w =
    or_to _ _ _ _ (below_kept m b.high.x f.low.x c.high.x w.x_high)
    (or_to _ _ _ _ (above_kept m b.low.x f.high.x c.low.x w.x_low)
    (or_to _ _ _ _ (below_kept m b.high.y f.low.y c.high.y w.y_high)
    (or_to _ _ _ _ (above_kept m b.low.y f.high.y c.low.y w.y_low)
    (or_to _ _ _ _ (below_kept m b.high.z f.low.z c.high.z w.z_high)
    (above_kept m b.low.z f.high.z c.low.z w.z_low)))))

filled_moved : (m : ℤ) (part : Part) (foot : ℤ) (b c : Solid) → Moved m b c → Moved m (filled part foot b) (filled part foot c)
filled_moved m part foot b c w = record {
  x_low = omega (arith, ints, w.x_low);
  x_high = omega (arith, ints, w.x_high);
  y_low = omega (arith, ints, w.y_low);
  y_high = omega (arith, ints, w.y_high);
  z_low = omega (arith, ints, w.z_low);
  z_high = omega (arith, ints, w.z_high);
}

stacked_kept : (m : ℤ) (f : Fixture) (foot : ℤ) (parts : List Part) (b c : Solid) → Moved m b c → IsTrue (list_all (are_apart (grown m f)) (stacked foot parts b))
    → IsTrue (list_all (are_apart f) (stacked foot parts c))
stacked_kept m f foot [] b c w h = refl
stacked_kept m f foot (part ∷ parts) b c w h =
    let e = both (are_apart (grown m f) (filled part foot b)) (list_all (are_apart (grown m f)) (stacked (foot +ℤ part.length) parts b)) h in
    and (are_apart f (filled part foot c)) (list_all (are_apart f) (stacked (foot +ℤ part.length) parts c))
    (apart_kept m f (filled part foot b) (filled part foot c) (filled_moved m part foot b c w) e.0)
    (stacked_kept m f (foot +ℤ part.length) parts b c w e.1)

bodies_kept : (m : ℤ) (f : Fixture) (tool : Option Tool) (b c : Solid) → Moved m b c → IsTrue (list_all (are_apart (grown m f)) (bodies tool b))
    → IsTrue (list_all (are_apart f) (bodies tool c))
bodies_kept m f None b c w h = let e = both (are_apart (grown m f) b) true h in and (are_apart f c) true (apart_kept m f b c w e.0) refl
bodies_kept m f (Some t) b c w h = stacked_kept m f t.bottom t.parts b c w h

-- the box of one point
abbrev point : Point3 → Solid
point q = record { low = q; high = q }

point_moved : (m : ℤ) (p q : Point3) → IsNear m p q → Moved m (point p) (point q)
point_moved m p q n = record {
  x_low = n.x_low;
  x_high = n.x_high;
  y_low = n.y_low;
  y_high = n.y_high;
  z_low = n.z_low;
  z_high = n.z_high;
}

-- over a box that is near the point, the body is clear too
pub box_law : (machine : MachineFile) (tool : Option Tool) (p : StepPos) (c : Solid) → IsClearAt (with_margins machine) tool p →
    Moved machine.margins.fixtures (span machine.step (only p)) c → IsTrue (list_all (λ f. list_all (are_apart f) (bodies tool c)) machine.fixtures)
box_law machine tool p c clear moved =
    let m = machine.margins.fixtures in
    let b = span machine.step (only p) in
    of_images (grown m) (clears machine.step tool (only p)) (λ f. list_all (are_apart f) (bodies tool c)) machine.fixtures
    (λ f h. bodies_kept m f tool b c moved h) clear

pub margin_law : MarginIsKept
margin_law machine tool p q clear near =
    box_law machine tool p (point q) clear (point_moved machine.margins.fixtures (nanometres_of machine.step p) q near)

pub travel_law : TravelMarginIsKept
travel_law machine p q inside near =
    let t = machine.margins.travel in
    let at = nanometres_of machine.step p in
    let lowhigh = both _ _ inside in
    let low = both _ _ lowhigh.0 in let low_yz = both _ _ low.1 in
    let high = both _ _ lowhigh.1 in let high_yz = both _ _ high.1 in
    and (is_below machine.low q) (is_below q machine.high)
    (and _ _ (above_kept t at.x machine.low.x q.x near.x_low low.0)
    (and _ _ (above_kept t at.y machine.low.y q.y near.y_low low_yz.0) (above_kept t at.z machine.low.z q.z near.z_low low_yz.1)))
    (and _ _ (below_kept t at.x machine.high.x q.x near.x_high high.0)
    (and _ _ (below_kept t at.y machine.high.y q.y near.y_high high_yz.0) (below_kept t at.z machine.high.z q.z near.z_high high_yz.1)))

-- ---- a smaller margin

below_smaller : (n m a b : ℤ) → n ≤ℤ m → IsTrue (int_le a (b -ℤ m)) → IsTrue (int_le a (b -ℤ n))
below_smaller n m a b h i = let j : a ≤ℤ (b -ℤ m) = le_of a (b -ℤ m) i in le_test a (b -ℤ n) (omega (arith, ints, h, j))

above_smaller : (n m a b : ℤ) → n ≤ℤ m → IsTrue (int_le (a +ℤ m) b) → IsTrue (int_le (a +ℤ n) b)
above_smaller n m a b h i = let j : (a +ℤ m) ≤ℤ b = le_of (a +ℤ m) b i in le_test (a +ℤ n) b (omega (arith, ints, h, j))

apart_smaller : (n m : ℤ) (f : Fixture) (b : Solid) → n ≤ℤ m → IsTrue (are_apart (grown m f) b) → IsTrue (are_apart (grown n f) b)
apart_smaller n m f b h =
    or_to _ _ _ _ (below_smaller n m b.high.x f.low.x h)
    (or_to _ _ _ _ (above_smaller n m f.high.x b.low.x h)
    (or_to _ _ _ _ (below_smaller n m b.high.y f.low.y h)
    (or_to _ _ _ _ (above_smaller n m f.high.y b.low.y h)
    (or_to _ _ _ _ (below_smaller n m b.high.z f.low.z h)
    (above_smaller n m f.high.z b.low.z h)))))

inside_smaller : (n m : ℤ) (low high p q : Point3) → n ≤ℤ m → IsTrue (is_below (raised m low) p && is_below q (lowered m high))
    → IsTrue (is_below (raised n low) p && is_below q (lowered n high))
inside_smaller n m low high p q h inside =
    let lowhigh = both _ _ inside in
    let low_x = both _ _ lowhigh.0 in let low_yz = both _ _ low_x.1 in
    let high_x = both _ _ lowhigh.1 in let high_yz = both _ _ high_x.1 in
    and (is_below (raised n low) p) (is_below q (lowered n high))
    (and _ _ (above_smaller n m low.x p.x h low_x.0) (and _ _ (above_smaller n m low.y p.y h low_yz.0) (above_smaller n m low.z p.z h low_yz.1)))
    (and _ _ (below_smaller n m q.x high.x h high_x.0) (and _ _ (below_smaller n m q.y high.y h high_yz.0) (below_smaller n m q.z high.z h high_yz.1)))

pub smaller_law : SafeWithSmaller
smaller_law machine less tool b smaller safe =
    let n = less.fixtures in let m = machine.margins.fixtures in
    record {
      inside = inside_smaller less.travel machine.margins.travel machine.low machine.high (nanometres_of machine.step b.low) (nanometres_of machine.step b.high)
          smaller.travel safe.inside;
      clear = to_images (grown m) (grown n) (clears machine.step tool b) machine.fixtures
          (λ f h. list_to (are_apart (grown m f)) (are_apart (grown n f)) (bodies tool (span machine.step b)) (λ s i. apart_smaller n m f s smaller.fixtures i) h)
          safe.clear;
    }
