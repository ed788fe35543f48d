-- Arcs whose end's ray the wheel's first point has reached: the cases by quadrants, each with the
-- vector from the joint to the end.
use Rattle.std.proofs.Common.{◌≡◌, ℕ, zero, suc, ◌+◌, ◌-◌, ◌*◌, ◌<◌, ◌≤◌, ℤ, pos, ◌<ℤ◌, ◌⊎◌, inl, inr, refl, sym, ◌∙◌, ap, subst, arith}
use Rattle.std.specs.Prelude.{Bool}
use Rattle.std.proofs.lemmas.Bool.{cases_lt}
use Rattle.std.proofs.lemmas.Int.{ints}
use borrow.Author.Differences.{neg_is}
use Rattle.ngc_fixed_length.specs.Grid.{distance}
use Rattle.ngc_fixed_length.specs.Places.{cross}
use Rattle.ngc_fixed_length.specs.declared.points.Point2.{Point2}
use Rattle.ngc_circle_walk.specs.declared.spoke.Quadrant.{Quadrant}
use Rattle.ngc_circle_walk.specs.declared.spoke.Quadrant.TheVariants.{First, Second, Third, Fourth}
use Rattle.ngc_circle_walk.specs.declared.spoke.Roll.{Roll}
use Rattle.ngc_circle_walk.specs.declared.spoke.Roll.TheVariants.{Outward, Diagonal, Inward, Over}
use Rattle.ngc_circle_walk.specs.declared.spoke.Spoke.{Spoke}
use Rattle.ngc_circle_walk.specs.Around.{around, way_to}
use Rattle.ngc_circle_walk.specs.Entering.{IsEntry}
use Rattle.ngc_circle_walk.specs.Quadrants.{following}
use Rattle.ngc_circle_walk.specs.Wheel.{rolled}
use Rattle.ngc_circle_walk.proofs.QuadrantTurns.{cross_next}
use Rattle.ngc_circle_laws.specs.Placed.{turned_by, first_axis, IsATurn}
use Rattle.ngc_circle_laws.proofs.FirstPoints.{Begins}
use Rattle.ngc_circle_laws.proofs.Circuit.{gap}
use Rattle.ngc_circle_laws.proofs.CrossProducts.{four_on}

-- ---- the distances of two points of the plane along its axes, in either order

abbrev pub IsApart : Point2 → Point2 → ℕ → ℕ → Type 0
IsApart p q m n = ((distance p.u q.u ≡ m) × (distance p.v q.v ≡ n)) ⊎ ((distance p.u q.u ≡ n) × (distance p.v q.v ≡ m))

pub apart_same : (q : Quadrant) (x y z w : ℕ) → IsApart (around q x y) (around q z w) (gap x z) (gap y w)
apart_same First x y z w = inl (refl, refl)
apart_same Second x y z w = let f = neg_is (pos y) in let g = neg_is (pos w) in inr (omega (arith, ints, f.0, f.1, g.0, g.1), refl)
apart_same Third x y z w =
    let f = neg_is (pos y) in let g = neg_is (pos w) in let h = neg_is (pos x) in let i = neg_is (pos z) in
    inl (omega (arith, ints, h.0, h.1, i.0, i.1), omega (arith, ints, f.0, f.1, g.0, g.1))
apart_same Fourth x y z w = let h = neg_is (pos x) in let i = neg_is (pos z) in inr (refl, omega (arith, ints, h.0, h.1, i.0, i.1))

-- the second in the next quadrant
pub apart_on : (q : Quadrant) (x y z w : ℕ) → IsApart (around q x y) (around (following q) z w) (x + w) (gap y z)
apart_on First x y z w = let g = neg_is (pos w) in inl (omega (arith, ints, g.0, g.1), refl)
apart_on Second x y z w =
    let f = neg_is (pos y) in let g = neg_is (pos w) in let i = neg_is (pos z) in
    inr (omega (arith, ints, f.0, f.1, i.0, i.1), omega (arith, ints, g.0, g.1))
apart_on Third x y z w =
    let f = neg_is (pos y) in let h = neg_is (pos x) in let i = neg_is (pos z) in
    inl (omega (arith, ints, h.0, h.1), omega (arith, ints, f.0, f.1, i.0, i.1))
apart_on Fourth x y z w = let h = neg_is (pos x) in inr (refl, omega (arith, ints, h.0, h.1))

flipped : (a b : ℤ) (m : ℕ) → distance a b ≡ m → distance b a ≡ m
flipped a b m h = omega (arith, ints, h)

-- the first in the next quadrant
pub apart_back : (q : Quadrant) (x y z w : ℕ) → IsApart (around (following q) x y) (around q z w) (z + y) (gap w x)
apart_back q x y z w = elim (apart_on q z w x y) [
  | inl h ↦ inl (flipped (around q z w).u (around (following q) x y).u (z + y) h.0, flipped (around q z w).v (around (following q) x y).v (gap w x) h.1)
  | inr h ↦ inr (flipped (around q z w).u (around (following q) x y).u (gap w x) h.0, flipped (around q z w).v (around (following q) x y).v (z + y) h.1)
]

-- the distances have a property P
abbrev pub SomeWay : (ℕ → ℕ → Type 0) → Spoke → Spoke → Type 0
SomeWay P j e = (m : ℕ) × (n : ℕ) × IsApart (way_to j) (way_to e) m n × P m n

way_same : (P : ℕ → ℕ → Type 0) (q : Quadrant) (j e : Spoke) → j.quadrant ≡ q → e.quadrant ≡ q → P (gap j.x e.x) (gap j.y e.y) → SomeWay P j e
way_same P q j e hj he p = (
  gap j.x e.x,
  gap j.y e.y,
  subst (λ (t : Quadrant). IsApart (around t j.x j.y) (way_to e) (gap j.x e.x) (gap j.y e.y)) (sym hj)
      (subst (λ (t : Quadrant). IsApart (around q j.x j.y) (around t e.x e.y) (gap j.x e.x) (gap j.y e.y)) (sym he) (apart_same q j.x j.y e.x e.y)),
  p,
)

way_on : (P : ℕ → ℕ → Type 0) (q : Quadrant) (j e : Spoke) → j.quadrant ≡ q → e.quadrant ≡ following q → P (j.x + e.y) (gap j.y e.x) → SomeWay P j e
way_on P q j e hj he p = (
  j.x + e.y,
  gap j.y e.x,
  subst (λ (t : Quadrant). IsApart (around t j.x j.y) (way_to e) (j.x + e.y) (gap j.y e.x)) (sym hj)
      (subst (λ (t : Quadrant). IsApart (around q j.x j.y) (around t e.x e.y) (j.x + e.y) (gap j.y e.x)) (sym he) (apart_on q j.x j.y e.x e.y)),
  p,
)

way_back : (P : ℕ → ℕ → Type 0) (q : Quadrant) (j e : Spoke) → j.quadrant ≡ following q → e.quadrant ≡ q → P (e.x + j.y) (gap e.y j.x) → SomeWay P j e
way_back P q j e hj he p = (
  e.x + j.y,
  gap e.y j.x,
  subst (λ (t : Quadrant). IsApart (around t j.x j.y) (way_to e) (e.x + j.y) (gap e.y j.x)) (sym hj)
      (subst (λ (t : Quadrant). IsApart (around (following q) j.x j.y) (around t e.x e.y) (e.x + j.y) (gap e.y j.x)) (sym he) (apart_back q j.x j.y e.x e.y)),
  p,
)

-- ---- the cases

-- a wheel that begins at f has reached the ray of e, which is `whole` quadrants from b and past its
-- ray
pub record IsReached (b f e : Spoke) (begun whole : ℕ) : Type 0 where
  pub few : begun ≤ 1
  pub begins : f.quadrant ≡ turned_by begun b.quadrant
  pub to_end : e.quadrant ≡ turned_by whole b.quadrant
  pub turn : IsATurn whole b.x b.y e.x e.y
  pub past : (whole < begun) ⊎ ((whole ≡ begun) × (f.x * e.y ≤ f.y * e.x))

at_most_one : (y : ℕ) → first_axis y ≤ 1
at_most_one zero = omega arith
at_most_one (suc y) = omega arith

-- the same from the beginning of the walk and the search for its end
pub reached : (g : ℕ) (b f e : Spoke) (begun whole : ℕ) → Begins g b f begun → e.quadrant ≡ turned_by whole b.quadrant → IsATurn whole b.x b.y e.x e.y →
    whole ≤ begun → (whole ≡ begun → f.x * e.y ≤ f.y * e.x) →
    IsReached b f e begun whole
reached g b f e begun whole h to turn few past = record {
  few = omega (arith, h.soon, at_most_one b.y);
  begins = h.begins;
  to_end = to;
  turn = turn;
  past = elim (cases_lt whole begun) [
    | inl less ↦ inl less
    | inr more ↦ (let same : whole ≡ begun = omega (arith, few, more) in inr (same, past same))
  ];
}

-- a wheel that begins at the joint: three cases
pub record StandsCases (R : Type 0) (b j e : Spoke) : Type 0 where
  pub here : j.quadrant ≡ b.quadrant → e.quadrant ≡ b.quadrant → b.y * e.x < b.x * e.y → j.x * e.y ≤ j.y * e.x → R
  pub back : j.quadrant ≡ following b.quadrant → e.quadrant ≡ b.quadrant → b.y * e.x < b.x * e.y → R
  pub beyond : j.quadrant ≡ following b.quadrant → e.quadrant ≡ following b.quadrant → j.x * e.y ≤ j.y * e.x → R

pub by_stands : (R : Type 0) (b j e : Spoke) (begun whole : ℕ) → IsReached b j e begun whole → StandsCases R b j e → R
by_stands R b j e zero zero r s = elim r.past [
  | inl none ↦ absurd (omega (arith, none))
  | inr past ↦ s.here r.begins r.to_end r.turn past.1
]
by_stands R b j e zero (suc n) r s = elim r.past [
  | inl none ↦ absurd (omega (arith, none))
  | inr past ↦ absurd (omega (arith, past.0))
]
by_stands R b j e (suc zero) zero r s = s.back r.begins r.to_end r.turn
by_stands R b j e (suc zero) (suc zero) r s = elim r.past [
  | inl none ↦ absurd (omega (arith, none))
  | inr past ↦ s.beyond r.begins r.to_end past.1
]
by_stands R b j e (suc zero) (suc (suc n)) r s = elim r.past [
  | inl none ↦ absurd (omega (arith, none))
  | inr past ↦ absurd (omega (arith, past.0))
]
by_stands R b j e (suc (suc m)) n r s = absurd (omega (arith, r.few))

-- or one whose first point is a move away: four cases
pub record EntersCases (R : Type 0) (g : ℕ) (b j e : Spoke) (roll : Roll) : Type 0 where
  pub here : j.quadrant ≡ b.quadrant → e.quadrant ≡ b.quadrant → g ≤ j.x → b.y * e.x < b.x * e.y → (rolled g roll j).x * e.y ≤ (rolled g roll j).y * e.x → R
  pub over_here : j.quadrant ≡ b.quadrant → e.quadrant ≡ b.quadrant → j.x < g → b.y * e.x < b.x * e.y → R
  pub over : j.quadrant ≡ b.quadrant → e.quadrant ≡ following b.quadrant → j.x < g → j.y * e.y ≤ (g - j.x) * e.x → R
  pub before : b.quadrant ≡ following j.quadrant → e.quadrant ≡ b.quadrant → j.x < g → b.y * e.x < b.x * e.y → j.y * e.y ≤ (g - j.x) * e.x → R

same_before : (p q : Quadrant) → following p ≡ following q → p ≡ q
same_before p q h = sym (four_on p) ∙ ap (λ (z : Quadrant). following (following (following z))) h ∙ four_on q

not_ahead : (b j : Spoke) → cross (way_to b) (way_to j) <ℤ pos 0 → j.quadrant ≡ following b.quadrant → ⊥
not_ahead b j afterwards next =
    let c : cross (way_to b) (way_to j) ≡ pos (b.x * j.x + b.y * j.y) =
    ap (λ (z : Quadrant). cross (way_to b) (around z j.x j.y)) next ∙ cross_next b.quadrant b.x b.y j.x j.y in
    absurd (omega (arith, ints, afterwards, c))

-- in the joint's quadrant
enters_in : (R : Type 0) (g : ℕ) (b j e : Spoke) (roll : Roll) (begun whole : ℕ) → IsReached b (rolled g roll j) e begun whole →
    cross (way_to b) (way_to j) <ℤ pos 0 → g ≤ j.x →
    (rolled g roll j).quadrant ≡ j.quadrant → EntersCases R g b j e roll → R
enters_in R g b j e roll zero zero r afterwards inside stays s = elim r.past [
  | inl none ↦ absurd (omega (arith, none))
  | inr past ↦ s.here (sym stays ∙ r.begins) r.to_end inside r.turn past.1
]
enters_in R g b j e roll zero (suc n) r afterwards inside stays s = elim r.past [
  | inl none ↦ absurd (omega (arith, none))
  | inr past ↦ absurd (omega (arith, past.0))
]
enters_in R g b j e roll (suc zero) n r afterwards inside stays s = absurd (not_ahead b j afterwards (sym stays ∙ r.begins))
enters_in R g b j e roll (suc (suc m)) n r afterwards inside stays s = absurd (omega (arith, r.few))

enters_over : (R : Type 0) (g : ℕ) (b j e : Spoke) (begun whole : ℕ) → IsReached b (rolled g Over j) e begun whole → j.x < g → EntersCases R g b j e Over → R
enters_over R g b j e zero zero r near s = elim r.past [
  | inl none ↦ absurd (omega (arith, none))
  | inr past ↦ s.before (sym r.begins) r.to_end near r.turn past.1
]
enters_over R g b j e zero (suc n) r near s = elim r.past [
  | inl none ↦ absurd (omega (arith, none))
  | inr past ↦ absurd (omega (arith, past.0))
]
enters_over R g b j e (suc zero) zero r near s = s.over_here (same_before j.quadrant b.quadrant r.begins) r.to_end near r.turn
enters_over R g b j e (suc zero) (suc zero) r near s = elim r.past [
  | inl none ↦ absurd (omega (arith, none))
  | inr past ↦ s.over (same_before j.quadrant b.quadrant r.begins) r.to_end near past.1
]
enters_over R g b j e (suc zero) (suc (suc n)) r near s = elim r.past [
  | inl none ↦ absurd (omega (arith, none))
  | inr past ↦ absurd (omega (arith, past.0))
]
enters_over R g b j e (suc (suc m)) n r near s = absurd (omega (arith, r.few))

pub by_enters : (R : Type 0) (g limit : ℕ) (steep : Bool) (b j e : Spoke) (roll : Roll) (begun whole : ℕ) → IsReached b (rolled g roll j) e begun whole →
    cross (way_to b) (way_to j) <ℤ pos 0 →
    IsEntry g limit steep j roll → EntersCases R g b j e roll → R
by_enters R g limit steep b j e Over begun whole r afterwards entry s = enters_over R g b j e begun whole r entry s
by_enters R g limit steep b j e Outward begun whole r afterwards entry s = enters_in R g b j e Outward begun whole r afterwards entry.1 refl s
by_enters R g limit steep b j e Diagonal begun whole r afterwards entry s = enters_in R g b j e Diagonal begun whole r afterwards entry.0 refl s
by_enters R g limit steep b j e Inward begun whole r afterwards entry s = enters_in R g b j e Inward begun whole r afterwards entry.1 refl s

-- ---- a property of the distances in each case

pub record StandsSettled (P : ℕ → ℕ → Type 0) (b j e : Spoke) : Type 0 where
  pub here : j.quadrant ≡ b.quadrant → b.y * e.x < b.x * e.y → j.x * e.y ≤ j.y * e.x → P (gap j.x e.x) (gap j.y e.y)
  pub back : j.quadrant ≡ following b.quadrant → b.y * e.x < b.x * e.y → P (e.x + j.y) (gap e.y j.x)
  pub beyond : j.quadrant ≡ following b.quadrant → j.x * e.y ≤ j.y * e.x → P (gap j.x e.x) (gap j.y e.y)

pub settled_stands : (P : ℕ → ℕ → Type 0) (b j e : Spoke) (begun whole : ℕ) → IsReached b j e begun whole → StandsSettled P b j e → SomeWay P j e
settled_stands P b j e begun whole r s = by_stands (SomeWay P j e) b j e begun whole r (record {
  here = λ same to turn past. way_same P b.quadrant j e same to (s.here same turn past);
  back = λ next to turn. way_back P b.quadrant j e next to (s.back next turn);
  beyond = λ next to past. way_same P (following b.quadrant) j e next to (s.beyond next past);
})

pub record EntersSettled (P : ℕ → ℕ → Type 0) (g : ℕ) (b j e : Spoke) (roll : Roll) : Type 0 where
  pub here : j.quadrant ≡ b.quadrant → g ≤ j.x → b.y * e.x < b.x * e.y → (rolled g roll j).x * e.y ≤ (rolled g roll j).y * e.x → P (gap j.x e.x) (gap j.y e.y)
  pub over_here : j.quadrant ≡ b.quadrant → j.x < g → b.y * e.x < b.x * e.y → P (gap j.x e.x) (gap j.y e.y)
  pub over : j.quadrant ≡ b.quadrant → j.x < g → j.y * e.y ≤ (g - j.x) * e.x → P (j.x + e.y) (gap j.y e.x)
  pub before : b.quadrant ≡ following j.quadrant → j.x < g → b.y * e.x < b.x * e.y → j.y * e.y ≤ (g - j.x) * e.x → P (j.x + e.y) (gap j.y e.x)

pub settled_enters : (P : ℕ → ℕ → Type 0) (g limit : ℕ) (steep : Bool) (b j e : Spoke) (roll : Roll) (begun whole : ℕ) →
    IsReached b (rolled g roll j) e begun whole → cross (way_to b) (way_to j) <ℤ pos 0 →
    IsEntry g limit steep j roll → EntersSettled P g b j e roll → SomeWay P j e
settled_enters P g limit steep b j e roll begun whole r afterwards entry s = by_enters (SomeWay P j e) g limit steep b j e roll begun whole r afterwards entry (record {
  here = λ same to inside turn past. way_same P b.quadrant j e same to (s.here same inside turn past);
  over_here = λ same to near turn. way_same P b.quadrant j e same to (s.over_here same near turn);
  over = λ same to near past. way_on P b.quadrant j e same to (s.over same near past);
  before = λ before to near turn past. way_on P j.quadrant j e refl (to ∙ before) (s.before before near turn past);
})
