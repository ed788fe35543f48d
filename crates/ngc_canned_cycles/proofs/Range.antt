-- Coordinates between those of the first and the last repeat.
use Rattle.std.proofs.Common.{◌≡◌, ℕ, suc, ◌*◌, ◌≤◌, ℤ, pos, negsuc, ◌+ℤ◌, ◌*ℤ◌, Bool, true, false, Option, Some, None, inl, inr, refl, arith}
use Rattle.std.specs.Prelude.{◌&&◌}
use Rattle.std.proofs.Math.Nat.{mul-le-mul_right}
use Rattle.std.proofs.lemmas.Bool.{leb-true}
use Rattle.std.proofs.lemmas.Int.{ints}
use Rattle.ngc_fixed_length.specs.Limits.{IsLength}
use Rattle.ngc_fixed_length.specs.declared.modes.Distance.{Distance}
use Rattle.ngc_fixed_length.specs.declared.modes.Distance.TheVariants.{Absolute, Incremental}
use Rattle.std.specs.Prelude.{unsigned_abs}
use Rattle.ngc_offsets.specs.Ranges.{IsCoordinate, IsPresentOrNamed, coordinate_limit}
use Rattle.ngc_offsets.specs.declared.fault.CoordinateRange.{CoordinateRange}
use Rattle.ngc_offsets.specs.declared.fault.CoordinateRange.TheVariants.{Near, Far}
use Rattle.ngc_canned_cycles.specs.declared.cycle.Cycle.{Cycle}
use Rattle.ngc_canned_cycles.specs.declared.cycle.Start.{Start}
use Rattle.ngc_canned_cycles.specs.Heights.{repeat_on_axis, repeat_place, place_before, retract_of, bottom_of, repeats_of, AreLengths}
use Rattle.ngc_canned_cycles.specs.Refusals.{is_in_range_if_given, is_repeat_in_range, is_in_range}

and_left : (a b : Bool) → (a && b) ≡ true → a ≡ true
and_left true b h = refl
and_left false b h = absurd (cc)

and_right : (a b : Bool) → (a && b) ≡ true → b ≡ true
and_right true b h = h
and_right false b h = absurd (cc)

-- a coordinate within a reach is one of at most four metres
within_reach : (reach : CoordinateRange) (z : ℤ) → unsigned_abs z ≤ coordinate_limit reach → IsCoordinate z
within_reach Near z h = omega (arith, h)
within_reach Far z h = h

-- a word added j times lies between the word added once and the word added n times
between : (b l : ℤ) (j n : ℕ) → 1 ≤ j → j ≤ n → IsCoordinate (b +ℤ (pos 1 *ℤ l)) → IsCoordinate (b +ℤ (pos n *ℤ l)) → IsCoordinate (b +ℤ (pos j *ℤ l))
between b (pos a) j n least most first last =
    let p : 1 * a ≤ j * a = mul-le-mul_right a least in
    let q : j * a ≤ n * a = mul-le-mul_right a most in
    omega (arith, ints)
between b (negsuc a) j n least most first last =
    let p : 1 * suc a ≤ j * suc a = mul-le-mul_right (suc a) least in
    let q : j * suc a ≤ n * suc a = mul-le-mul_right (suc a) most in
    omega (arith, ints)

along : (reach : CoordinateRange) (distance : Distance) (before : ℤ) (given : Option ℤ) (j n : ℕ) → 1 ≤ j → j ≤ n →
    is_in_range_if_given reach given (repeat_on_axis distance 1 before given) ≡ true →
    is_in_range_if_given reach given (repeat_on_axis distance n before given) ≡ true →
    IsPresentOrNamed before (repeat_on_axis distance j before given)
along reach Absolute before None j n least most first last = inl refl
along reach Incremental before None j n least most first last = inl refl
along reach Absolute before (Some l) j n least most first last = inr (within_reach reach (repeat_on_axis Absolute 1 before (Some l)) (leb-true _ _ first))
along reach Incremental before (Some l) j n least most first last =
    inr (between before l j n least most (within_reach reach (repeat_on_axis Incremental 1 before (Some l)) (leb-true _ _ first))
    (within_reach reach (repeat_on_axis Incremental n before (Some l)) (leb-true _ _ last)))

-- the coordinates that the words of a cycle in range give
pub record AreCoordinates (c : Cycle) (s : Start) : Type 0 where
  pub retract : IsCoordinate (retract_of c s)
  pub bottom : IsCoordinate (bottom_of c s)
  pub u : (j : ℕ) → 1 ≤ j → j ≤ repeats_of c.repeats → IsPresentOrNamed (place_before c s).u (repeat_place c s j).u
  pub v : (j : ℕ) → 1 ≤ j → j ≤ repeats_of c.repeats → IsPresentOrNamed (place_before c s).v (repeat_place c s j).v

pub coordinates : (c : Cycle) (s : Start) → is_in_range c s ≡ true → AreCoordinates c s
coordinates c s h =
    let most : is_repeat_in_range c s (repeats_of c.repeats) ≡ true = and_right _ _ h in
    let some = and_left _ _ h in
    let least : is_repeat_in_range c s 1 ≡ true = and_right _ _ some in
    let heights = and_left _ _ some in
    record {
      retract = within_reach s.reach (retract_of c s) (leb-true _ _ (and_left _ _ heights));
      bottom = within_reach s.reach (bottom_of c s) (leb-true _ _ (and_right _ _ heights));
      u = λ j p q. along s.reach c.distance (place_before c s).u c.u j (repeats_of c.repeats) p q (and_left _ _ least) (and_left _ _ most);
      v = λ j p q. along s.reach c.distance (place_before c s).v c.v j (repeats_of c.repeats) p q (and_right _ _ least) (and_right _ _ most);
    }

is_length : (before c : ℤ) → IsLength before → IsPresentOrNamed before c → IsLength c
is_length before c near kept = elim kept [ inl same ↦ rw same near | inr given ↦ omega (arith, ints) ]

pub lengths : (c : Cycle) (s : Start) → is_in_range c s ≡ true → IsLength (place_before c s).u → IsLength (place_before c s).v → (j : ℕ) → 1 ≤ j →
    j ≤ repeats_of c.repeats → AreLengths c s j
lengths c s h u v j p q =
    let a = coordinates c s h in
    let r : IsCoordinate (retract_of c s) = a.retract in
    let b : IsCoordinate (bottom_of c s) = a.bottom in
    record {
      retract = omega (arith, ints);
      bottom = omega (arith, ints);
      u = is_length _ _ u (a.u j p q);
      v = is_length _ _ v (a.v j p q);
    }
