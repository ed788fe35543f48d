-- What holds of a cycle that isn't refused.
use Rattle.std.proofs.Common.{◌≡◌, ℕ, suc, ◌-◌, ◌*◌, ◌<◌, ◌≤◌, ℤ, pos, negsuc, ◌+ℤ◌, ◌*ℤ◌, ◌≤ℤ◌, ◌<ℤ◌, Bool, true, false, Result, Ok, Err, refl, arith}
use Rattle.std.specs.Prelude.{◌&&◌, not, int_lt}
use Rattle.std.proofs.Math.Nat.{mul-le-mul_right}
use Rattle.std.proofs.lemmas.Bool.{leb-true}
use Rattle.std.proofs.lemmas.Int.{ints}
use Rattle.ngc_fixed_length.specs.Limits.{IsLength}
use Rattle.ngc_canned_cycles.specs.declared.cycle.Site.{Site}
use Rattle.ngc_canned_cycles.specs.Holes.{peck_depth}
use Rattle.ngc_canned_cycles.proofs.Pecks.{below}
use Rattle.ngc_dialect_cycles.specs.declared.line.Pecks.{Pecks}
use Rattle.ngc_dialect_cycles.specs.declared.line.HoleKind.TheVariants.{Peck}
use Rattle.ngc_dialect_cycles.specs.declared.line.Series.{Series}
use Rattle.ngc_dialect_cycles.specs.declared.line.CycleLine.{CycleLine}
use Rattle.ngc_dialect_cycles.specs.declared.refusal.CycleRefusal.{CycleRefusal}
use Rattle.ngc_dialect_cycles.specs.Levels.{retract_of, bottom_of, hole_place}
use Rattle.ngc_dialect_cycles.specs.Refusals.{◌>>◌, refuse_if, bad_peck, back_of, is_last_near, is_in_range, check}

both : (r t : Result (Unit {0}) CycleRefusal) → (r >> t) ≡ Ok tt → (r ≡ Ok tt) × (t ≡ Ok tt)
both (Ok tt) t h = (refl, h)
both (Err e) t h = absurd (cc)

passed : (b : Bool) (e : CycleRefusal) → refuse_if b e ≡ Ok tt → b ≡ false
passed true e h = absurd (cc)
passed false e h = refl

and_left : (a b : Bool) → (a && b) ≡ true → a ≡ true
and_left true b h = refl
and_left false b h = absurd (cc)

and_right : (a b : Bool) → (a && b) ≡ true → b ≡ true
and_right true b h = h
and_right false b h = absurd (cc)

kept : (b : Bool) → not b ≡ false → b ≡ true
kept true h = refl
kept false h = absurd (cc)

order_of : (r z : ℤ) → int_lt r z ≡ false → z ≤ℤ r
order_of r z h = omega (arith, ints)

pub record IsSound (s : Series) (l : CycleLine) : Type 0 where
  pub order : bottom_of s l ≤ℤ retract_of s l
  pub peck : bad_peck s.kind ≡ false
  pub retract : IsLength (retract_of s l)
  pub bottom : IsLength (bottom_of s l)
  pub back : IsLength (retract_of s l +ℤ back_of s.kind)
  pub u : IsLength (hole_place l (l.repeats - 1)).u
  pub v : IsLength (hole_place l (l.repeats - 1)).v

pub sound : (s : Series) (l : CycleLine) → check s l ≡ Ok tt → IsSound s l
sound s l h =
    let far = both _ _ h in
    let spindle = both _ _ far.0 in
    let dwell = both _ _ spindle.0 in
    let pecks = both _ _ dwell.0 in
    let range : is_in_range s l ≡ true = kept _ (passed _ _ far.1) in
    let heights = and_left _ _ range in
    let last : is_last_near l ≡ true = and_right _ _ range in
    let upto_bottom = and_left _ _ heights in
    record {
      order = order_of _ _ (passed _ _ pecks.0);
      peck = passed _ _ pecks.1;
      retract = leb-true _ _ (and_left _ _ upto_bottom);
      bottom = leb-true _ _ (and_right _ _ upto_bottom);
      back = leb-true _ _ (and_right _ _ heights);
      u = leb-true _ _ (and_left _ _ last);
      v = leb-true _ _ (and_right _ _ last);
    }

-- a coordinate of a hole lies between those of the first and the last hole
pub between : (b l : ℤ) (j n : ℕ) → j < n → IsLength b → IsLength (b +ℤ (pos (n - 1) *ℤ l)) → IsLength (b +ℤ (pos j *ℤ l))
between b (pos a) j n most first last =
    let q : j * a ≤ (n - 1) * a = mul-le-mul_right a (omega arith) in
    omega (arith, ints)
between b (negsuc a) j n most first last =
    let q : j * suc a ≤ (n - 1) * suc a = mul-le-mul_right (suc a) (omega arith) in
    omega (arith, ints)

-- Q is above 0, and the way back isn't below 0
pub record ArePecks (p : Pecks) : Type 0 where
  pub depth : pos 0 <ℤ p.depth
  pub back : pos 0 ≤ℤ p.back

pub pecks : (p : Pecks) → bad_peck (Peck p) ≡ false → ArePecks p
pecks p h = record { depth = grind (arith, ints); back = grind (arith, ints) }

-- the tool goes back to a length
pub back_length : (s : Site) (p : Pecks) (i : ℕ) → ArePecks p → s.bottom ≤ℤ s.retract → IsLength s.bottom → IsLength s.retract → IsLength (s.retract +ℤ p.back) →
    IsLength (peck_depth s p.depth i +ℤ p.back)
back_length s p i good order bottom retract back =
    let down = below s.retract p.depth i good.depth in
    let up = good.back in
    grind (arith, ints)
