-- If a box of points is clear, each box within it is clear.
use Rattle.std.proofs.Common.{ℕ, ◌+◌, arith, refl, Some, None, true, false, ℤ, ◌+ℤ◌, ◌≤ℤ◌, List, [], ◌∷◌}
use Rattle.std.specs.Prelude.{Option, IsTrue, int_le, Bool, if◌then◌else◌}
use Rattle.std.specs.List.{list_all}
use Rattle.std.specs.Option.{is_none}
use Rattle.std.proofs.lemmas.Int.{ints}
use Rattle.ngc_fixed_length.specs.Length.{IsStep}
use Rattle.ngc_fixed_length.specs.declared.points.GridBox.{GridBox}
use Rattle.ngc_machine_files.specs.declared.machine.Fixture.{Fixture}
use Rattle.ngc_machine_files.specs.declared.parts.Part.{Part}
use Rattle.ngc_machine_files.specs.declared.tools.Tool.{Tool}
use Rattle.ngc_machine_files.specs.Machine.{MachineFile}
use Rattle.ngc_collision.specs.Body.{Solid, span, filled, stacked, bodies, are_apart, clears, first_met, first_met_from, is_in_travel}
use Rattle.ngc_certificate.proofs.TrueTests.{le_of, le_test, both, and, or_to, no_truth}
use Rattle.ngc_place.specs.Holds.{is_clear}
use Rattle.ngc_place.proofs.Rounded.{scale_by}

-- one box of grid points lies within another
pub record IsWithin (outer inner : GridBox) : Type 0 where
  pub x_low : outer.low.x ≤ℤ inner.low.x
  pub x_high : inner.high.x ≤ℤ outer.high.x
  pub y_low : outer.low.y ≤ℤ inner.low.y
  pub y_high : inner.high.y ≤ℤ outer.high.y
  pub z_low : outer.low.z ≤ℤ inner.low.z
  pub z_high : inner.high.z ≤ℤ outer.high.z

-- one solid lies within another
record Within (outer inner : Solid) : Type 0 where
  x_low : outer.low.x ≤ℤ inner.low.x
  x_high : inner.high.x ≤ℤ outer.high.x
  y_low : outer.low.y ≤ℤ inner.low.y
  y_high : inner.high.y ≤ℤ outer.high.y
  z_low : outer.low.z ≤ℤ inner.low.z
  z_high : inner.high.z ≤ℤ outer.high.z

span_within : (step : ℤ) (b c : GridBox) → IsStep step → IsWithin b c → Within (span step b) (span step c)
span_within step b c p k = record {
  x_low = scale_by step b.low.x c.low.x p k.x_low;
  x_high = scale_by step c.high.x b.high.x p k.x_high;
  y_low = scale_by step b.low.y c.low.y p k.y_low;
  y_high = scale_by step c.high.y b.high.y p k.y_high;
  z_low = scale_by step b.low.z c.low.z p k.z_low;
  z_high = scale_by step c.high.z b.high.z p k.z_high;
}

filled_within : (part : Part) (foot : ℤ) (b c : Solid) → Within b c → Within (filled part foot b) (filled part foot c)
filled_within part foot b c w = record {
  x_low = omega (arith, ints, w.x_low);
  x_high = omega (arith, ints, w.x_high);
  y_low = omega (arith, ints, w.y_low);
  y_high = omega (arith, ints, w.y_high);
  z_low = omega (arith, ints, w.z_low);
  z_high = omega (arith, ints, w.z_high);
}

le_trans : (a b c : ℤ) → a ≤ℤ b → b ≤ℤ c → a ≤ℤ c
le_trans a b c h i = omega (arith, ints, h, i)

test_up : (a b c : ℤ) → b ≤ℤ c → IsTrue (int_le a b) → IsTrue (int_le a c)
test_up a b c h i = le_test a c (le_trans a b c (le_of a b i) h)

test_down : (a b c : ℤ) → c ≤ℤ a → IsTrue (int_le a b) → IsTrue (int_le c b)
test_down a b c h i = le_test c b (le_trans c a b h (le_of a b i))

apart_within : (f : Fixture) (b c : Solid) → Within b c → IsTrue (are_apart f b) → IsTrue (are_apart f c)
apart_within f b c w =
    or_to _ _ _ _ (test_down b.high.x f.low.x c.high.x w.x_high)
    (or_to _ _ _ _ (test_up f.high.x b.low.x c.low.x w.x_low)
    (or_to _ _ _ _ (test_down b.high.y f.low.y c.high.y w.y_high)
    (or_to _ _ _ _ (test_up f.high.y b.low.y c.low.y w.y_low)
    (or_to _ _ _ _ (test_down b.high.z f.low.z c.high.z w.z_high)
    (test_up f.high.z b.low.z c.low.z w.z_low)))))

stacked_within : (f : Fixture) (foot : ℤ) (parts : List Part) (b c : Solid) → Within b c → IsTrue (list_all (are_apart f) (stacked foot parts b)) →
    IsTrue (list_all (are_apart f) (stacked foot parts c))
stacked_within f foot [] b c w h = refl
stacked_within f foot (part ∷ parts) b c w h =
    let e = both (are_apart f (filled part foot b)) (list_all (are_apart f) (stacked (foot +ℤ part.length) parts b)) h in
    and (are_apart f (filled part foot c)) (list_all (are_apart f) (stacked (foot +ℤ part.length) parts c))
    (apart_within f (filled part foot b) (filled part foot c) (filled_within part foot b c w) e.0)
    (stacked_within f (foot +ℤ part.length) parts b c w e.1)

bodies_within : (f : Fixture) (tool : Option Tool) (b c : Solid) → Within b c → IsTrue (list_all (are_apart f) (bodies tool b)) →
    IsTrue (list_all (are_apart f) (bodies tool c))
bodies_within f None b c w h = let e = both (are_apart f b) true h in and (are_apart f c) true (apart_within f b c w e.0) refl
bodies_within f (Some t) b c w h = stacked_within f t.bottom t.parts b c w h

-- ---- fixtures in order

none_some : (i : ℕ) → IsTrue (is_none (Some i)) → ⊥
none_some i h = no_truth h

next_unmet : (c d : Bool) (i : ℕ) (rest later : Option ℕ) → (IsTrue c → IsTrue d) → (IsTrue (is_none rest) → IsTrue (is_none later)) →
    IsTrue (is_none (if c then rest else Some i)) → IsTrue (is_none (if d then later else Some i))
next_unmet true true i rest later f g h = g h
next_unmet true false i rest later f g h = absurd (no_truth (f refl))
next_unmet false d i rest later f g h = absurd (none_some i h)

unmet_from : (i : ℕ) (step : ℤ) (tool : Option Tool) (b c : GridBox) (fs : List Fixture) → Within (span step b) (span step c) →
    IsTrue (is_none (first_met_from i step tool b fs)) → IsTrue (is_none (first_met_from i step tool c fs))
unmet_from i step tool b c [] w h = refl
unmet_from i step tool b c (f ∷ fs) w h =
    next_unmet (clears step tool b f) (clears step tool c f) i (first_met_from (i + 1) step tool b fs) (first_met_from (i + 1) step tool c fs)
    (bodies_within f tool (span step b) (span step c) w)
    (unmet_from (i + 1) step tool b c fs w) h

pub unmet_within : (machine : MachineFile) (tool : Option Tool) (b c : GridBox) → IsStep machine.step → IsWithin b c →
    IsTrue (is_none (first_met machine tool b)) → IsTrue (is_none (first_met machine tool c))
unmet_within machine tool b c p k h = unmet_from 0 machine.step tool b c machine.fixtures (span_within machine.step b c p k) h

travel_within : (machine : MachineFile) (b c : GridBox) → IsStep machine.step → IsWithin b c → IsTrue (is_in_travel machine b) →
    IsTrue (is_in_travel machine c)
travel_within machine b c p k t =
    let w = span_within machine.step b c p k in
    let lowhigh = both _ _ t in
    let low = both _ _ lowhigh.0 in let low_yz = both _ _ low.1 in
    let high = both _ _ lowhigh.1 in let high_yz = both _ _ high.1 in
    and _ _
    (and _ _ (test_up _ _ _ w.x_low low.0) (and _ _ (test_up _ _ _ w.y_low low_yz.0) (test_up _ _ _ w.z_low low_yz.1)))
    (and _ _ (test_down _ _ _ w.x_high high.0) (and _ _ (test_down _ _ _ w.y_high high_yz.0) (test_down _ _ _ w.z_high high_yz.1)))

pub clear_within : (machine : MachineFile) (tool : Option Tool) (b c : GridBox) → IsStep machine.step → IsWithin b c → IsTrue (is_clear machine tool b) →
    IsTrue (is_clear machine tool c)
clear_within machine tool b c p k h =
    let e = both (is_in_travel machine b) (is_none (first_met machine tool b)) h in
    and (is_in_travel machine c) (is_none (first_met machine tool c)) (travel_within machine b c p k e.0) (unmet_within machine tool b c p k e.1)
