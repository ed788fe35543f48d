-- From the joint straight to the end's grid point: at most two moves, through a point within a step
-- of the end.
use Rattle.std.proofs.Common.{◌≡◌, ℕ, zero, suc, ◌+◌, ◌*◌, ◌<◌, ◌≤◌, ℤ, pos, ◌+ℤ◌, ◌-ℤ◌, ◌⊎◌, inl, inr, refl, sym, ap, subst, arith}
use Rattle.std.proofs.lemmas.Bool.{cases_lt}
use Rattle.std.proofs.lemmas.Int.{ints}
use borrow.Author.Differences.{neg_is}
use Rattle.ngc_fixed_length.specs.Grid.{distance}
use Rattle.ngc_fixed_length.specs.Places.{shifted}
use Rattle.ngc_fixed_length.specs.declared.modes.Turn.{Turn}
use Rattle.ngc_fixed_length.specs.declared.modes.Turn.TheVariants.{Clockwise, Counterclockwise}
use Rattle.ngc_fixed_length.specs.declared.points.Point2.{Point2}
use Rattle.ngc_circle_walk.specs.declared.spoke.Spoke.{Spoke}
use Rattle.ngc_circle_walk.specs.Around.{way_to}
use Rattle.ngc_circle_walk.proofs.Rays.{square_le}
use Rattle.ngc_arc_geometry.specs.Shape.{ArcShape}
use Rattle.ngc_arc_geometry.specs.Radii.{squared_distance}
use Rattle.ngc_arc_geometry.specs.ArcBand.{IsWithin}
use Rattle.ngc_arc_geometry.proofs.Squares.{square_sum}
use Rattle.ngc_circle_laws.specs.Placed.{mirrored, placed}
use Rattle.ngc_circle_laws.proofs.NearEndArcs.{IsPair}
use Rattle.ngc_circle_laws.proofs.NearEndSmallArcs.{IsFew}
use Rattle.ngc_circle_laws.proofs.ReachedEndRays.{IsApart, SomeWay}

-- ---- the distance of two points in the arc's plane is that of their vectors from the centre

apart_there : (t : Turn) (c p q : Point2) (m n : ℕ) → IsApart p q m n → IsApart (shifted c (mirrored t p)) (shifted c (mirrored t q)) m n
apart_there Counterclockwise c p q m n (inl h) = inl (omega (arith, ints, h.0), omega (arith, ints, h.1))
apart_there Counterclockwise c p q m n (inr h) = inr (omega (arith, ints, h.0), omega (arith, ints, h.1))
apart_there Clockwise c p q m n (inl h) = let f = neg_is p.v in let g = neg_is q.v in
    inl (omega (arith, ints, h.0), omega (arith, ints, h.1, f.0, f.1, g.0, g.1))
apart_there Clockwise c p q m n (inr h) = let f = neg_is p.v in let g = neg_is q.v in
    inr (omega (arith, ints, h.0), omega (arith, ints, h.1, f.0, f.1, g.0, g.1))

pub apart_placed : (a : ArcShape) (j e : Spoke) (m n : ℕ) → IsApart (way_to j) (way_to e) m n → IsApart (placed a j) (placed a e) m n
apart_placed a j e m n h = apart_there a.turn a.centre (way_to j) (way_to e) m n h

-- ---- along one axis, from j to z through m

-- k steps apart
abbrev pub IsSteps : ℕ → ℤ → ℤ → Type 0
IsSteps g j z = (k : ℕ) × (distance j z ≡ k * g)

-- the point m to which a move from j towards z leads: z itself, or halfway
abbrev pub IsMiddle : ℕ → ℤ → ℤ → ℤ → Type 0
IsMiddle g j m z = ((m ≡ z) × (distance j z ≤ g)) ⊎ (((m ≡ j +ℤ pos g) × (z ≡ m +ℤ pos g)) ⊎ ((j ≡ m +ℤ pos g) × (m ≡ z +ℤ pos g)))

by_steps : (g : ℕ) (j z : ℤ) (k : ℕ) → distance j z ≡ k * g → 20 * distance j z < 47 * g → (m : ℤ) × IsMiddle g j m z
by_steps g j z zero h near = (z, inl (refl, omega (arith, h)))
by_steps g j z (suc zero) h near = (z, inl (refl, omega (arith, h)))
by_steps g j z (suc (suc zero)) h near =
    elim (cases_lt 0 (distance z (j +ℤ pos (2 * g)))) [
      | inr none ↦ (j +ℤ pos g, inr (inl (refl, omega (arith, ints, none))))
      | inl some ↦ (z +ℤ pos g, inr (inr (omega (arith, ints, some, h), refl)))
    ]
by_steps g j z (suc (suc (suc k))) h near = absurd (omega (arith, h, near))

pub two_at_most : (g : ℕ) (j z e : ℤ) → 20 * distance j e < 37 * g → 2 * distance z e ≤ g → IsSteps g j z → (m : ℤ) × IsMiddle g j m z
two_at_most g j z e near close steps = by_steps g j z steps.0 steps.1 (omega (arith, ints, near, close))

-- it is at most half a step from e, or farther if two moves lead to z
axis_near : (g : ℕ) (j m z e : ℤ) → 500 ≤ g → 20 * distance j e < 37 * g → 2 * distance z e ≤ g → IsMiddle g j m z →
    (2 * distance m e ≤ g) ⊎ ((20 * distance m e < 17 * g) × (21 * g < 20 * distance j e))
axis_near g j m z e step near close (inl h) = inl (omega (arith, ints, close, h.0))
axis_near g j m z e step near close (inr (inl h)) = inr (omega (arith, ints, step, near, close, h.0, h.1), omega (arith, ints, step, near, close, h.0, h.1))
axis_near g j m z e step near close (inr (inr h)) = inr (omega (arith, ints, step, near, close, h.0, h.1), omega (arith, ints, step, near, close, h.0, h.1))

-- ---- along both

-- less than 37/20 of a step on each axis, and at most 21/20 on one of them
pub record IsCloseBy (g : ℕ) (p q : Point2) : Type 0 where
  pub u : 20 * distance p.u q.u < 37 * g
  pub v : 20 * distance p.v q.v < 37 * g
  pub one : (20 * distance p.u q.u ≤ 21 * g) ⊎ (20 * distance p.v q.v ≤ 21 * g)

pub close_by : (g : ℕ) (p q : Point2) (m n : ℕ) → IsApart p q m n → IsPair g m n → IsCloseBy g p q
close_by g p q m n (inl h) pair = record {
  u = omega (arith, h.0, pair.first);
  v = omega (arith, h.1, pair.second);
  one = elim pair.one [ inl a ↦ inl (omega (arith, h.0, a)) | inr b ↦ inr (omega (arith, h.1, b)) ];
}
close_by g p q m n (inr h) pair = record {
  u = omega (arith, h.0, pair.second);
  v = omega (arith, h.1, pair.first);
  one = elim pair.one [ inl a ↦ inr (omega (arith, h.1, a)) | inr b ↦ inl (omega (arith, h.0, b)) ];
}

-- the joint and the end in the arc's plane
pub placed_close : (a : ArcShape) (g : ℕ) (j e : Spoke) → SomeWay (IsPair g) j e → IsCloseBy g (placed a j) (placed a e)
placed_close a g j e way = close_by g (placed a j) (placed a e) way.0 way.1 (apart_placed a j e way.0 way.1 way.2) way.3

half_half : (g a b : ℕ) → 2 * a ≤ g → 2 * b ≤ g → a * a + b * b ≤ g * g
half_half g a b ha hb = let p = square_le (2 * a) g ha in let q = square_le (2 * b) g hb in omega (arith, p, q)

half_more : (g a b : ℕ) → 2 * a ≤ g → 20 * b ≤ 17 * g → a * a + b * b ≤ g * g
half_more g a b ha hb = let p = square_le (2 * a) g ha in let q = square_le (20 * b) (17 * g) hb in omega (arith, p, q)

-- the grid point z is nearest to e on each axis
pub record IsNearest (g : ℕ) (z e : Point2) : Type 0 where
  pub u : 2 * distance z.u e.u ≤ g
  pub v : 2 * distance z.v e.v ≤ g

-- each point between p and z is within a step of e
pub middle_near : (g : ℕ) (p m z e : Point2) → 500 ≤ g → IsCloseBy g p e → IsNearest g z e → IsMiddle g p.u m.u z.u → IsMiddle g p.v m.v z.v →
    distance m.u e.u * distance m.u e.u + distance m.v e.v * distance m.v e.v ≤ g * g
middle_near g p m z e step close nearest mu mv = elim (axis_near g p.u m.u z.u e.u step close.u nearest.u mu) [
  | inl hu ↦ elim (axis_near g p.v m.v z.v e.v step close.v nearest.v mv) [
    | inl hv ↦ half_half g (distance m.u e.u) (distance m.v e.v) hu hv
    | inr fv ↦ half_more g (distance m.u e.u) (distance m.v e.v) hu (omega (arith, fv.0))
  ]
  | inr fu ↦ elim (axis_near g p.v m.v z.v e.v step close.v nearest.v mv) [
    | inl hv ↦ (let h = half_more g (distance m.v e.v) (distance m.u e.u) hv (omega (arith, fu.0)) in omega (arith, h))
    | inr fv ↦ elim close.one [ inl a ↦ absurd (omega (arith, fu.1, a)) | inr b ↦ absurd (omega (arith, fv.1, b)) ]
  ]
]

-- at most two moves lead from p to z
pub goes_straight : (g : ℕ) (p z e : Point2) → IsCloseBy g p e → IsNearest g z e → IsSteps g p.u z.u → IsSteps g p.v z.v →
    (m : Point2) × IsMiddle g p.u m.u z.u × IsMiddle g p.v m.v z.v
goes_straight g p z e close nearest su sv =
    let a = two_at_most g p.u z.u e.u close.u nearest.u su in
    let b = two_at_most g p.v z.v e.v close.v nearest.v sv in
    (record { u = a.0; v = b.0 }, a.1, b.1)

-- ---- by squared distances

squared_apart : (p q : Point2) → squared_distance p q ≡ distance p.u q.u * distance p.u q.u + distance p.v q.v * distance p.v q.v
squared_apart p q = square_sum (q.u -ℤ p.u) (q.v -ℤ p.v)

pub middle_within : (g : ℕ) (p m z e : Point2) → 500 ≤ g → IsCloseBy g p e → IsNearest g z e → IsMiddle g p.u m.u z.u → IsMiddle g p.v m.v z.v → IsWithin g m e
middle_within g p m z e step close nearest mu mv = subst (λ t. t ≤ g * g) (sym (squared_apart m e)) (middle_near g p m z e step close nearest mu mv)

apart_squares : (g : ℕ) (p q : Point2) (m n : ℕ) → IsApart p q m n → IsFew g m n → squared_distance p q ≤ 15 * (g * g)
apart_squares g p q m n (inl h) few =
    let a = ap (λ t. t * t) h.0 in
    let b = ap (λ t. t * t) h.1 in
    omega (arith, squared_apart p q, a, b, few)
apart_squares g p q m n (inr h) few =
    let a = ap (λ t. t * t) h.0 in
    let b = ap (λ t. t * t) h.1 in
    omega (arith, squared_apart p q, a, b, few)

-- the joint and the end of an arc of small radii, in its plane
pub placed_few : (a : ArcShape) (g : ℕ) (j e : Spoke) → SomeWay (IsFew g) j e → squared_distance (placed a j) (placed a e) ≤ 15 * (g * g)
placed_few a g j e way = apart_squares g (placed a j) (placed a e) way.0 way.1 (apart_placed a j e way.0 way.1 way.2) way.3
