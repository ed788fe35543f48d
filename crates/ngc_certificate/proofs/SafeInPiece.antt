-- Each position and each point in the derived box of a valid piece is safe.
use Rattle.std.proofs.Common.{ℕ, suc, ◌≤◌, arith, refl, Some, None, true, ℤ, pos, negsuc, ◌+ℤ◌, ◌*ℤ◌, ◌≤ℤ◌, List, [], ◌∷◌}
use Rattle.std.specs.Prelude.{Option, IsTrue, int_le}
use Rattle.std.specs.List.{list_all}
use Rattle.std.proofs.lemmas.Int.{ints}
use Rattle.std.proofs.Math.Nat.{mul-le-mul_left}
use Rattle.ngc_fixed_length.specs.declared.points.Point3.{Point3}
use Rattle.ngc_fixed_length.specs.declared.points.StepPos.{StepPos}
use Rattle.ngc_fixed_length.specs.declared.points.GridBox.{GridBox}
use Rattle.ngc_fixed_length.specs.Boxes.{IsIn, holds_box, only}
use Rattle.ngc_machine_files.specs.declared.machine.Fixture.{Fixture}
use Rattle.ngc_machine_files.specs.declared.parts.Part.{Part}
use Rattle.ngc_machine_files.specs.declared.tools.Tool.{Tool}
use Rattle.ngc_machine_files.specs.Machine.{MachineFile}
use Rattle.ngc_commands.specs.declared.movement.Way.{Way}
use Rattle.ngc_collision.specs.Body.{Solid, span, filled, stacked, bodies, are_apart, clears, is_in_travel, IsSafe}
use Rattle.ngc_certificate_text.specs.declared.piece.Piece.{Piece}
use Rattle.ngc_certificate.specs.declared.stretch.Stretch.{Stretch}
use Rattle.ngc_certificate.specs.DerivedBox.{derived_box}
use Rattle.ngc_certificate.specs.PieceFault.{IsPieceValid}
use Rattle.ngc_certificate.specs.Traverses.{IsSafePoint, lies_in}
use Rattle.ngc_certificate.proofs.TrueTests.{le_of, le_test, both, and, or_to, list_to}

pub scale_up : (s : ℕ) (a b : ℤ) → a ≤ℤ b → (a *ℤ pos s) ≤ℤ (b *ℤ pos s)
scale_up s (pos a) (pos b) h = let i : a ≤ b = omega (arith, ints, h) in omega (arith, ints, mul-le-mul_left s i)
scale_up s (pos a) (negsuc b) h = absurd (omega (arith, ints, h))
scale_up s (negsuc a) (pos b) h = omega (arith, ints)
scale_up s (negsuc a) (negsuc b) h = let i : suc b ≤ suc a = omega (arith, ints, h) in omega (arith, ints, mul-le-mul_left s i)

scale_by : (step a b : ℤ) → pos 1 ≤ℤ step → a ≤ℤ b → (a *ℤ step) ≤ℤ (b *ℤ step)
scale_by (pos s) a b p h = scale_up s a b h
scale_by (negsuc s) a b p h = absurd (omega (arith, ints, p))

pub le_trans : (a b c : ℤ) → a ≤ℤ b → b ≤ℤ c → a ≤ℤ c
le_trans a b c h i = omega (arith, ints, h, i)

-- a box of grid points that contains another contains its points
pub held_by : (outer inner : GridBox) (q : StepPos) → IsTrue (holds_box outer inner) → IsIn inner q → IsIn outer q
held_by o i q h k =
    let lowhigh = both _ _ h in
    let low = both _ _ lowhigh.0 in let low_yz = both _ _ low.1 in
    let high = both _ _ lowhigh.1 in let high_yz = both _ _ high.1 in
    record {
      x_low = le_trans o.low.x i.low.x q.x (le_of o.low.x i.low.x low.0) k.x_low;
      x_high = le_trans q.x i.high.x o.high.x k.x_high (le_of i.high.x o.high.x high.0);
      y_low = le_trans o.low.y i.low.y q.y (le_of o.low.y i.low.y low_yz.0) k.y_low;
      y_high = le_trans q.y i.high.y o.high.y k.y_high (le_of i.high.y o.high.y high_yz.0);
      z_low = le_trans o.low.z i.low.z q.z (le_of o.low.z i.low.z low_yz.1) k.z_low;
      z_high = le_trans q.z i.high.z o.high.z k.z_high (le_of i.high.z o.high.z high_yz.1);
    }

-- one solid is within another
record Within (outer inner : Solid) : Type 0 where
  x_low : outer.low.x ≤ℤ inner.low.x
  x_high : inner.high.x ≤ℤ outer.high.x
  y_low : outer.low.y ≤ℤ inner.low.y
  y_high : inner.high.y ≤ℤ outer.high.y
  z_low : outer.low.z ≤ℤ inner.low.z
  z_high : inner.high.z ≤ℤ outer.high.z

span_within : (step : ℤ) (b : GridBox) (q : StepPos) → pos 1 ≤ℤ step → IsIn b q → Within (span step b) (span step (only q))
span_within step b q p k = record {
  x_low = scale_by step b.low.x q.x p k.x_low;
  x_high = scale_by step q.x b.high.x p k.x_high;
  y_low = scale_by step b.low.y q.y p k.y_low;
  y_high = scale_by step q.y b.high.y p k.y_high;
  z_low = scale_by step b.low.z q.z p k.z_low;
  z_high = scale_by step q.z b.high.z p k.z_high;
}

filled_within : (part : Part) (foot : ℤ) (b c : Solid) → Within b c → Within (filled part foot b) (filled part foot c)
filled_within part foot b c w = record {
  x_low = omega (arith, ints, w.x_low);
  x_high = omega (arith, ints, w.x_high);
  y_low = omega (arith, ints, w.y_low);
  y_high = omega (arith, ints, w.y_high);
  z_low = omega (arith, ints, w.z_low);
  z_high = omega (arith, ints, w.z_high);
}

test_up : (a b c : ℤ) → b ≤ℤ c → IsTrue (int_le a b) → IsTrue (int_le a c)
test_up a b c h i = le_test a c (le_trans a b c (le_of a b i) h)

test_down : (a b c : ℤ) → c ≤ℤ a → IsTrue (int_le a b) → IsTrue (int_le c b)
test_down a b c h i = le_test c b (le_trans c a b h (le_of a b i))

apart_within : (f : Fixture) (b c : Solid) → Within b c → IsTrue (are_apart f b) → IsTrue (are_apart f c)
apart_within f b c w =
    or_to _ _ _ _ (test_down b.high.x f.low.x c.high.x w.x_high)
    (or_to _ _ _ _ (test_up f.high.x b.low.x c.low.x w.x_low)
    (or_to _ _ _ _ (test_down b.high.y f.low.y c.high.y w.y_high)
    (or_to _ _ _ _ (test_up f.high.y b.low.y c.low.y w.y_low)
    (or_to _ _ _ _ (test_down b.high.z f.low.z c.high.z w.z_high)
    (test_up f.high.z b.low.z c.low.z w.z_low)))))

-- part by part: a fixture that is apart from the boxes over a position's box is apart from those
-- over a position in it
stacked_within : (f : Fixture) (foot : ℤ) (parts : List Part) (b c : Solid) → Within b c → IsTrue (list_all (are_apart f) (stacked foot parts b)) →
    IsTrue (list_all (are_apart f) (stacked foot parts c))
stacked_within f foot [] b c w h = refl
stacked_within f foot (part ∷ parts) b c w h =
    let e = both (are_apart f (filled part foot b)) (list_all (are_apart f) (stacked (foot +ℤ part.length) parts b)) h in
    and (are_apart f (filled part foot c)) (list_all (are_apart f) (stacked (foot +ℤ part.length) parts c))
    (apart_within f (filled part foot b) (filled part foot c) (filled_within part foot b c w) e.0)
    (stacked_within f (foot +ℤ part.length) parts b c w e.1)

bodies_within : (f : Fixture) (tool : Option Tool) (b c : Solid) → Within b c → IsTrue (list_all (are_apart f) (bodies tool b)) →
    IsTrue (list_all (are_apart f) (bodies tool c))
bodies_within f None b c w h = let e = both (are_apart f b) true h in and (are_apart f c) true (apart_within f b c w e.0) refl
bodies_within f (Some t) b c w h = stacked_within f t.bottom t.parts b c w h

-- a position in a box that is within travel and clear is safe
pub safe_in_box : (machine : MachineFile) (tool : Option Tool) (b : GridBox) (q : StepPos) → pos 1 ≤ℤ machine.step → IsIn b q →
    IsTrue (is_in_travel machine b) → IsTrue (list_all (clears machine.step tool b) machine.fixtures) → IsSafe machine tool q
safe_in_box machine tool b q p k t c =
    let w = span_within machine.step b q p k in
    let lowhigh = both _ _ t in
    let low = both _ _ lowhigh.0 in let low_yz = both _ _ low.1 in
    let high = both _ _ lowhigh.1 in let high_yz = both _ _ high.1 in
    record {
      inside = and _ _
          (and _ _ (test_up _ _ _ w.x_low low.0) (and _ _ (test_up _ _ _ w.y_low low_yz.0) (test_up _ _ _ w.z_low low_yz.1)))
          (and _ _ (test_down _ _ _ w.x_high high.0) (and _ _ (test_down _ _ _ w.y_high high_yz.0) (test_down _ _ _ w.z_high high_yz.1)));
      clear = list_to (clears machine.step tool b) (clears machine.step tool (only q)) machine.fixtures
          (λ f h. bodies_within f tool (span machine.step b) (span machine.step (only q)) w h) c;
    }

pub safe_in_piece : (machine : MachineFile) (tool : Option Tool) (way : Way) (s : Stretch) (piece : Piece) (q : StepPos) → pos 1 ≤ℤ machine.step →
    IsPieceValid machine tool way s piece → IsIn (derived_box machine.step way s piece.end) q → IsSafe machine tool q
safe_in_piece machine tool way s piece q p v k =
    safe_in_box machine tool piece.bounds q p (held_by piece.bounds (derived_box machine.step way s piece.end) q v.covers k) v.travel v.clear

-- ---- a point in nanometres

-- a point that lies in a box of grid points lies in one that contains it
held_point : (step : ℤ) (outer inner : GridBox) (q : Point3) → pos 1 ≤ℤ step → IsTrue (holds_box outer inner) → IsTrue (lies_in step inner q) →
    IsTrue (lies_in step outer q)
held_point step o i q p h k =
    let lowhigh = both _ _ h in
    let low = both _ _ lowhigh.0 in let low_yz = both _ _ low.1 in
    let high = both _ _ lowhigh.1 in let high_yz = both _ _ high.1 in
    let lies = both _ _ k in
    let above = both _ _ lies.0 in let above_yz = both _ _ above.1 in
    let below = both _ _ lies.1 in let below_yz = both _ _ below.1 in
    let down : (a b c : ℤ) → IsTrue (int_le a b) → IsTrue (int_le (b *ℤ step) c) → IsTrue (int_le (a *ℤ step) c) =
    λ a b c l m. test_down (b *ℤ step) c (a *ℤ step) (scale_by step a b p (le_of a b l)) m in
    let up : (a b c : ℤ) → IsTrue (int_le b c) → IsTrue (int_le a (b *ℤ step)) → IsTrue (int_le a (c *ℤ step)) =
    λ a b c l m. test_up a (b *ℤ step) (c *ℤ step) (scale_by step b c p (le_of b c l)) m in
    and _ _
    (and _ _ (down o.low.x i.low.x q.x low.0 above.0)
    (and _ _ (down o.low.y i.low.y q.y low_yz.0 above_yz.0) (down o.low.z i.low.z q.z low_yz.1 above_yz.1)))
    (and _ _ (up q.x i.high.x o.high.x high.0 below.0)
    (and _ _ (up q.y i.high.y o.high.y high_yz.0 below_yz.0) (up q.z i.high.z o.high.z high_yz.1 below_yz.1)))

point_within : (step : ℤ) (b : GridBox) (q : Point3) → IsTrue (lies_in step b q) → Within (span step b) (record { low = q; high = q })
point_within step b q k =
    let lies = both _ _ k in
    let above = both _ _ lies.0 in let above_yz = both _ _ above.1 in
    let below = both _ _ lies.1 in let below_yz = both _ _ below.1 in
    record {
      x_low = le_of (b.low.x *ℤ step) q.x above.0;
      x_high = le_of q.x (b.high.x *ℤ step) below.0;
      y_low = le_of (b.low.y *ℤ step) q.y above_yz.0;
      y_high = le_of q.y (b.high.y *ℤ step) below_yz.0;
      z_low = le_of (b.low.z *ℤ step) q.z above_yz.1;
      z_high = le_of q.z (b.high.z *ℤ step) below_yz.1;
    }

-- a point in a box that is within travel and clear is safe
point_in_box : (machine : MachineFile) (tool : Option Tool) (b : GridBox) (q : Point3) → IsTrue (lies_in machine.step b q) →
    IsTrue (is_in_travel machine b) → IsTrue (list_all (clears machine.step tool b) machine.fixtures) → IsSafePoint machine tool q
point_in_box machine tool b q k t c =
    let at : Solid = record { low = q; high = q } in
    let w = point_within machine.step b q k in
    let lowhigh = both _ _ t in
    let low = both _ _ lowhigh.0 in let low_yz = both _ _ low.1 in
    let high = both _ _ lowhigh.1 in let high_yz = both _ _ high.1 in
    record {
      inside = and _ _
          (and _ _ (test_up _ _ _ w.x_low low.0) (and _ _ (test_up _ _ _ w.y_low low_yz.0) (test_up _ _ _ w.z_low low_yz.1)))
          (and _ _ (test_down _ _ _ w.x_high high.0) (and _ _ (test_down _ _ _ w.y_high high_yz.0) (test_down _ _ _ w.z_high high_yz.1)));
      clear = list_to (clears machine.step tool b) (λ f. list_all (are_apart f) (bodies tool at)) machine.fixtures
          (λ f h. bodies_within f tool (span machine.step b) at w h) c;
    }

pub point_in_piece : (machine : MachineFile) (tool : Option Tool) (way : Way) (s : Stretch) (piece : Piece) (q : Point3) → pos 1 ≤ℤ machine.step →
    IsPieceValid machine tool way s piece → IsTrue (lies_in machine.step (derived_box machine.step way s piece.end) q) → IsSafePoint machine tool q
point_in_piece machine tool way s piece q p v k =
    point_in_box machine tool piece.bounds q (held_point machine.step piece.bounds (derived_box machine.step way s piece.end) q p v.covers k) v.travel v.clear
