-- The point at which a wheel begins: at the start's direction or past it, and less than a step past
-- a half axis in between.
use Rattle.std.proofs.Common.{◌≡◌, ℕ, zero, suc, ◌+◌, ◌-◌, ◌*◌, ◌<◌, ◌≤◌, pos, ◌≤ℤ◌, ◌<ℤ◌, ◌-ℤ◌, neg_ℤ, inl, inr, refl, sym, ◌∙◌, ap, subst, arith}
use Rattle.std.specs.Prelude.{Bool, true, false}
use Rattle.std.proofs.lemmas.Bool.{cases_lt}
use Rattle.std.proofs.lemmas.Int.{ints}
use Rattle.std.proofs.Math.Nat.{mul-le-mul_left, le_of_mul-le-mul_left}
use borrow.Author.Differences.{neg_is}
use Rattle.ngc_fixed_length.specs.Places.{cross}
use Rattle.ngc_circle_walk.specs.declared.spoke.Quadrant.{Quadrant}
use Rattle.ngc_circle_walk.specs.declared.spoke.Roll.{Roll}
use Rattle.ngc_circle_walk.specs.declared.spoke.Roll.TheVariants.{Outward, Diagonal, Inward, Over}
use Rattle.ngc_circle_walk.specs.declared.spoke.Spoke.{Spoke}
use Rattle.ngc_circle_walk.specs.Around.{around, way_to}
use Rattle.ngc_circle_walk.specs.Directions.{IsNoLater}
use Rattle.ngc_circle_walk.specs.Entering.{IsEntry}
use Rattle.ngc_circle_walk.specs.Quadrants.{following}
use Rattle.ngc_circle_walk.specs.Wheel.{square, rolled}
use Rattle.ngc_circle_walk.proofs.JointMoves.{IsJoint, outward_enters, inward_enters, diagonal_enters_out, diagonal_enters_in}
use Rattle.ngc_circle_walk.proofs.Entry.{over_enters_behind}
use Rattle.ngc_circle_walk.proofs.Rays.{square_le}
use Rattle.ngc_circle_walk.proofs.QuadrantTurns.{cross_same, cross_next, cross_behind}
use Rattle.ngc_circle_laws.specs.Placed.{turned_by, first_axis}
use Rattle.ngc_circle_laws.proofs.CrossProducts.{four_on}
use Rattle.ngc_circle_laws.proofs.JointQuadrant.{IsMovedPoint, IsAcross, moved_same, moved_next, moved_opposite, moved_before, four_ways, not_opposite}

-- the first point of a walk from the direction of b
pub record Begins (g : ℕ) (b s : Spoke) (begun : ℕ) : Type 0 where
  pub begins : s.quadrant ≡ turned_by begun b.quadrant
  pub past_start : IsNoLater begun b.x b.y s.x s.y
  pub soon : begun ≤ first_axis b.y
  pub beside : first_axis b.y ≤ begun → s.y ≤ g
  pub some_place : 0 < s.x + s.y

-- j is the grid point nearest to b, moved from its radius p + 1, rounded up, to the radius r
pub record IsJoined (g p r : ℕ) (b j : Spoke) : Type 0 where
  pub step : 500 ≤ g
  pub far : 2 * g < r
  pub some : 0 < b.x
  pub out : 0 < j.x
  pub long : g ≤ j.x + j.y
  pub round : p * p ≤ b.x * b.x + b.y * b.y
  pub moved : IsMovedPoint g (p + 1) r (way_to b) (way_to j)

-- ---- by quadrants, with the quadrants named

abbrev pub IsMovedIn : ℕ → ℕ → ℕ → Quadrant → Quadrant → ℕ → ℕ → ℕ → ℕ → Type 0
IsMovedIn g p r c d bx by x y = IsMovedPoint g (p + 1) r (around c bx by) (around d x y)

pub into : (g p r : ℕ) (c d e : Quadrant) (bx by x y : ℕ) → d ≡ e → IsMovedIn g p r c d bx by x y → IsMovedIn g p r c e bx by x y
into g p r c d e bx by x y h m = subst (λ (z : Quadrant). IsMovedIn g p r c z bx by x y) h m

pub from : (g p r : ℕ) (c d e : Quadrant) (bx by x y : ℕ) → c ≡ e → IsMovedIn g p r c d bx by x y → IsMovedIn g p r e d bx by x y
from g p r c d e bx by x y h m = subst (λ (z : Quadrant). IsMovedIn g p r z d bx by x y) h m

none : (y : ℕ) → first_axis y ≤ 0 → y ≡ 0
none zero h = refl
none (suc y) h = absurd (omega (arith, h))

one : (y : ℕ) → 0 < y → 1 ≤ first_axis y
one zero h = absurd (omega (arith, h))
one (suc y) h = omega arith

-- if the start is on a half axis, its grid point is less than half a step from it
beside_axis : (g s r y by : ℕ) → 0 < s → IsJoint g s r y by → by ≡ 0 → y ≤ g
beside_axis g s r y by some j e =
    let z : r * by ≡ 0 = rw e (omega arith) in
    let a : s * (2 * y) ≤ s * g = omega (arith, j.up, z) in
    let b = le_of_mul-le-mul_left a some in
    omega (arith, b)

-- only the grid point of a start that is on no half axis can be past the next one
past_axis : (g p r bx by y : ℕ) → 500 ≤ g → 2 * g < r → 0 < bx → p * p ≤ bx * bx + by * by → IsAcross g (p + 1) r bx y → 0 < by
past_axis g p r bx zero y step far some round h =
    let long : p ≤ bx = elim (cases_lt bx p) [
      | inr fine ↦ fine
      | inl less ↦ (let a = square_le (bx + 1) p (omega (arith, less)) in absurd (omega (arith, a, round)))
    ] in
    let a = mul-le-mul_left bx (let k : 2 * g + 1 ≤ r = omega (arith, far) in k) in
    let b = mul-le-mul_left g long in
    let c = mul-le-mul_left g (let k : 1 ≤ bx = omega (arith, some) in k) in
    absurd (omega (arith, h, a, b, c, step))
past_axis g p r bx (suc by) y step far some round h = omega arith

pub small_across : (g s r b j : ℕ) → 0 < s → IsAcross g s r b j → 2 * j ≤ g
small_across g s r b j some h =
    let a : s * (2 * j) ≤ s * g = omega (arith, h) in
    le_of_mul-le-mul_left a some

-- ---- if the joint is not before the start's direction, the walk begins there

pub stands : (g p r : ℕ) (b j : Spoke) → IsJoined g p r b j → pos 0 ≤ℤ cross (way_to b) (way_to j) → (begun : ℕ) × Begins g b j begun
stands g p r b j h ahead = elim (four_ways b.quadrant j.quadrant) [
  | inl same ↦ (
      let m = moved_same b.quadrant g (p + 1) r b.x b.y j.x j.y (into g p r b.quadrant j.quadrant b.quadrant b.x b.y j.x j.y same h.moved) in
      let c : cross (way_to b) (way_to j) ≡ pos (b.x * j.y) -ℤ pos (b.y * j.x) =
      ap (λ (z : Quadrant). cross (way_to b) (around z j.x j.y)) same ∙ cross_same b.quadrant b.x b.y j.x j.y in (
        0,
        record {
          begins = same;
          past_start = omega (arith, ints, ahead, c);
          soon = omega arith;
          beside = λ few. beside_axis g (p + 1) r j.y b.y (omega arith) m.1 (none b.y few);
          some_place = omega (arith, h.out);
        },
      ))
  | inr (inl next) ↦ (
      let m = moved_next b.quadrant g (p + 1) r b.x b.y j.x j.y (into g p r b.quadrant j.quadrant (following b.quadrant) b.x b.y j.x j.y next h.moved) in
      let some = past_axis g p r b.x b.y j.y h.step h.far h.some h.round m.1 in
      let near = small_across g (p + 1) r b.x j.y (omega arith) m.1 in (
        1,
        record {
          begins = next;
          past_start = tt;
          soon = one b.y some;
          beside = λ few. omega (arith, near);
          some_place = omega (arith, h.out);
        },
      ))
  | inr (inr (inl opposite)) ↦ (
      let m = moved_opposite b.quadrant g (p + 1) r b.x b.y j.x j.y
      (into g p r b.quadrant j.quadrant (following (following b.quadrant)) b.x b.y j.x j.y opposite h.moved) in
      absurd (not_opposite g p r b.x b.y j.x j.y h.step h.far h.some h.round m.0 m.1))
  | inr (inr (inr before)) ↦ (
      let c : cross (way_to b) (way_to j) ≡ neg_ℤ (pos (b.x * j.x + b.y * j.y)) =
      ap (λ (z : Quadrant). cross (around z b.x b.y) (way_to j)) before
      ∙ sym (ap (λ (z : Quadrant). cross (around (following j.quadrant) b.x b.y) (around z j.x j.y)) (four_on j.quadrant))
      ∙ cross_behind (following j.quadrant) b.x b.y j.x j.y in
      let e = neg_is (pos (b.x * j.x + b.y * j.y)) in
      let a = mul-le-mul_left b.x (let k : 1 ≤ j.x = omega (arith, h.out) in k) in
      absurd (omega (arith, ints, ahead, c, e, a, h.some)))
]

-- ---- if it is before it, one move leads to that direction or past it

-- whether a direction is steep, computed correctly
abbrev pub IsSteep : Bool → ℕ → ℕ → Type 0
IsSteep true bx by = bx ≤ by
IsSteep false bx by = by ≤ bx

pub steep_is : (t : Bool) (bx by : ℕ) → t ≡ true → IsSteep t bx by → bx ≤ by
steep_is true bx by e h = h
steep_is false bx by e h = absurd (grind (arith, e))

pub flat_is : (t : Bool) (bx by : ℕ) → t ≡ false → IsSteep t bx by → by ≤ bx
flat_is false bx by e h = h
flat_is true bx by e h = absurd (grind (arith, e))

enters_same : (g limit p r : ℕ) (t : Bool) (b j : Spoke) (roll : Roll) → IsJoined g p r b j → j.quadrant ≡ b.quadrant → b.x * j.y < b.y * j.x →
    IsSteep t b.x b.y → g * g ≤ limit →
    IsJoint g (p + 1) r j.x b.x → IsJoint g (p + 1) r j.y b.y → IsEntry g limit t j roll → (begun : ℕ) × Begins g b (rolled g roll j) begun
enters_same g limit p r t b j Over h same afterwards steep room mx my roll =
    let some : 0 < b.y = elim (cases_lt 0 b.y) [
      | inl fine ↦ fine
      | inr zero' ↦ (let z : b.y ≡ 0 = omega (arith, zero') in let k : b.x * j.y < 0 * j.x = rw z at afterwards in absurd (omega (arith, k)))
    ] in (
      1,
      record {
        begins = ap following same;
        past_start = tt;
        soon = one b.y some;
        beside = λ few. omega arith;
        some_place = omega (arith, roll);
      },
    )
enters_same g limit p r t b j Outward h same afterwards steep room mx my roll = (
  0,
  record {
    begins = same;
    past_start = outward_enters g (p + 1) r j.x j.y b.x b.y (omega arith) mx my (flat_is t b.x b.y roll.0 steep);
    soon = omega arith;
    beside = λ few. (let z = none b.y few in let k : b.x * j.y < 0 * j.x = rw z at afterwards in absurd (omega (arith, k)));
    some_place = omega (arith, h.step);
  },
)
enters_same g limit p r t b j Diagonal h same afterwards steep room mx my roll =
    let x = j.x - g in
    let e : j.x ≡ x + g = omega (arith, roll.0) in
    let mx' : IsJoint g (p + 1) r (x + g) b.x = rw e at mx in (
      0,
      record {
        begins = same;
        past_start = elim roll.1 [
          | inl up ↦ diagonal_enters_in g x j.y b.x b.y (inward_enters g (p + 1) r x j.y b.x b.y (omega arith) mx' my (steep_is t b.x b.y up.0 steep))
          | inr out ↦ diagonal_enters_out g x j.y b.x b.y (outward_enters g (p + 1) r (x + g) j.y b.x b.y (omega arith) mx' my (flat_is t b.x b.y out.0 steep))
        ];
        soon = omega arith;
        beside = λ few. (let z = none b.y few in let k : b.x * j.y < 0 * j.x = rw z at afterwards in absurd (omega (arith, k)));
        some_place = omega (arith, h.step);
      },
    )
enters_same g limit p r t b j Inward h same afterwards steep room mx my roll =
    let x = j.x - g in
    let e : j.x ≡ x + g = omega (arith, roll.1) in
    let mx' : IsJoint g (p + 1) r (x + g) b.x = rw e at mx in (
      0,
      record {
        begins = same;
        past_start = inward_enters g (p + 1) r x j.y b.x b.y (omega arith) mx' my (steep_is t b.x b.y roll.0 steep);
        soon = omega arith;
        beside = λ few. (let z = none b.y few in let k : b.x * j.y < 0 * j.x = rw z at afterwards in absurd (omega (arith, k)));
        some_place = elim (cases_lt 0 (x + j.y)) [
          | inl fine ↦ fine
          | inr zero' ↦ (
              let zx : x ≡ 0 = omega (arith, zero') in
              let zy : j.y ≡ 0 = omega (arith, zero') in
              let k : limit < square 0 (0 + g) = rw (zx, zy) at roll.2 in
              absurd (omega (arith, k, room)))
        ];
      },
    )

enters_before : (g limit p r : ℕ) (t : Bool) (b j : Spoke) (roll : Roll) → IsJoined g p r b j → b.quadrant ≡ following j.quadrant →
    IsJoint g (p + 1) r j.y b.x → IsAcross g (p + 1) r b.y j.x → IsEntry g limit t j roll → (begun : ℕ) × Begins g b (rolled g roll j) begun
enters_before g limit p r t b j Over h before my mx roll =
    let a = over_enters_behind g (p + 1) r j.x j.y b.x b.y (omega arith) roll h.long mx my.up in
    let past = le_of_mul-le-mul_left a (omega (arith, h.far)) in (
      0,
      record {
        begins = sym before;
        past_start = past;
        soon = omega arith;
        beside = λ few. omega arith;
        some_place = omega (arith, roll);
      },
    )
enters_before g limit p r t b j Outward h before my mx roll = absurd (omega (arith, small_across g (p + 1) r b.y j.x (omega arith) mx, roll.1, h.step))
enters_before g limit p r t b j Diagonal h before my mx roll = absurd (omega (arith, small_across g (p + 1) r b.y j.x (omega arith) mx, roll.0, h.step))
enters_before g limit p r t b j Inward h before my mx roll = absurd (omega (arith, small_across g (p + 1) r b.y j.x (omega arith) mx, roll.1, h.step))

pub enters : (g limit p r : ℕ) (t : Bool) (b j : Spoke) (roll : Roll) → IsJoined g p r b j → cross (way_to b) (way_to j) <ℤ pos 0 →
    (j.quadrant ≡ b.quadrant → IsSteep t b.x b.y) → g * g ≤ limit →
    IsEntry g limit t j roll → (begun : ℕ) × Begins g b (rolled g roll j) begun
enters g limit p r t b j roll h afterwards steep room entry = elim (four_ways b.quadrant j.quadrant) [
  | inl same ↦ (
      let m = moved_same b.quadrant g (p + 1) r b.x b.y j.x j.y (into g p r b.quadrant j.quadrant b.quadrant b.x b.y j.x j.y same h.moved) in
      let c : cross (way_to b) (way_to j) ≡ pos (b.x * j.y) -ℤ pos (b.y * j.x) =
      ap (λ (z : Quadrant). cross (way_to b) (around z j.x j.y)) same ∙ cross_same b.quadrant b.x b.y j.x j.y in
      enters_same g limit p r t b j roll h same (omega (arith, ints, afterwards, c)) (steep same) room m.0 m.1 entry)
  | inr (inl next) ↦ (
      let c : cross (way_to b) (way_to j) ≡ pos (b.x * j.x + b.y * j.y) =
      ap (λ (z : Quadrant). cross (way_to b) (around z j.x j.y)) next ∙ cross_next b.quadrant b.x b.y j.x j.y in
      absurd (omega (arith, ints, afterwards, c)))
  | inr (inr (inl opposite)) ↦ (
      let m = moved_opposite b.quadrant g (p + 1) r b.x b.y j.x j.y
      (into g p r b.quadrant j.quadrant (following (following b.quadrant)) b.x b.y j.x j.y opposite h.moved) in
      absurd (not_opposite g p r b.x b.y j.x j.y h.step h.far h.some h.round m.0 m.1))
  | inr (inr (inr before)) ↦ (
      let m = moved_before j.quadrant g (p + 1) r b.x b.y j.x j.y (from g p r b.quadrant j.quadrant (following j.quadrant) b.x b.y j.x j.y before h.moved) in
      enters_before g limit p r t b j roll h before m.0 m.1 entry)
]
