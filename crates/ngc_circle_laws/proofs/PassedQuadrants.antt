-- A walk passes the quadrant points of its arc, in order.
use Rattle.std.proofs.Common.{◌≡◌, ℕ, zero, suc, ◌+◌, ◌-◌, ◌<◌, ◌≤◌, min, ◌⊎◌, inl, inr, sym, ◌∙◌, ap, subst, arith}
use Rattle.std.proofs.lemmas.Bool.{cases_lt}
use Rattle.ngc_circle_walk.specs.declared.spoke.Quadrant.{Quadrant}
use Rattle.ngc_circle_walk.specs.declared.spoke.Roll.{Roll}
use Rattle.ngc_circle_walk.specs.declared.spoke.Roll.TheVariants.{Outward, Diagonal, Inward, Over}
use Rattle.ngc_circle_walk.specs.declared.spoke.Spoke.{Spoke}
use Rattle.ngc_circle_walk.specs.Wheel.{rolled, IsRoll}
use Rattle.ngc_circle_walk.specs.Quadrants.{following}
use Rattle.ngc_circle_walk.specs.Rolling.{quadrants_of, IsRolling}
use Rattle.ngc_arc_geometry.specs.Shape.{ArcShape}
use Rattle.ngc_arc_geometry.specs.Radii.{outer_radius}
use Rattle.ngc_arc_geometry.specs.Sector.{extremes}
use Rattle.ngc_arc_geometry.specs.ArcBand.{IsWithin}
use Rattle.ngc_arc_geometry.specs.ArcOrder.{Passes}
use Rattle.ngc_circle_laws.specs.Placed.{placed, turned_by, axis_points, first_axis}
use Rattle.ngc_circle_laws.proofs.Sectors.{turned_sum}
use Rattle.ngc_circle_laws.proofs.Walks.{quadrant_on}
use Rattle.ngc_circle_laws.specs.ArcWalk.{IsWalk}
use Rattle.ngc_circle_laws.proofs.Axes.{extremes_are}
use Rattle.ngc_circle_laws.specs.Round.{IsRound}

-- A walk whose points at most a step before or past a half axis are within d of that axis' quadrant
-- point. A half axis on which the walk begins, or past which it begins, and which is not before the
-- start, is less than a step before its first point. The walk ends in the quadrant of the arc's
-- end, or at a point from which the next move leads over the axis into that quadrant.
pub record IsPassing (a : ArcShape) (g limit d n : ℕ) (at : ℕ → Spoke) (quadrant : ℕ → ℕ) (b e : Spoke) (begun left : ℕ) : Type 0 where
  pub walk : IsWalk a g limit n at quadrant b e begun left
  pub afterwards : (i : ℕ) → i ≤ n → (at i).y ≤ g → IsWithin d (placed a (at i)) (placed a (record { quadrant = (at i).quadrant; x = outer_radius a; y = 0 }))
  pub before : (i : ℕ) → i ≤ n → (at i).x ≤ g →
      IsWithin d (placed a (at i)) (placed a (record { quadrant = following (at i).quadrant; x = outer_radius a; y = 0 }))
  pub some_radius : 0 < outer_radius a
  pub soon : begun ≤ first_axis b.y
  pub beside : first_axis b.y ≤ begun → (at 0).y ≤ g
  pub ends : (quadrant n ≡ left) ⊎ ((quadrant n + 1 ≡ left) × ((at n).x < g))

-- ---- places

no_fewer : (n : ℕ) (r : Roll) → n ≤ quadrants_of n r
no_fewer n Outward = omega arith
no_fewer n Diagonal = omega arith
no_fewer n Inward = omega arith
no_fewer n Over = omega arith

-- the quadrants of a walk never fall
rises : (g limit n : ℕ) (at : ℕ → Spoke) (quadrant : ℕ → ℕ) (i d : ℕ) → IsRolling g limit n at quadrant → i + d ≤ n → quadrant i ≤ quadrant (i + d)
rises g limit n at quadrant i zero way le = let e : i ≡ i + 0 = omega arith in subst (λ t. quadrant i ≤ quadrant t) e (omega arith)
rises g limit n at quadrant i (suc d) way le =
    let e : (i + d) + 1 ≡ i + suc d = omega arith in
    let step = way.rolls (i + d) (omega (arith, le)) in
    let here = rises g limit n at quadrant i d way (omega (arith, le)) in
    let more = no_fewer (quadrant (i + d)) step.0 in
    let there : quadrant i ≤ quadrant ((i + d) + 1) = omega (arith, here, more, step.3) in
    subst (λ t. quadrant i ≤ quadrant t) e there

in_order : (g limit n : ℕ) (at : ℕ → Spoke) (quadrant : ℕ → ℕ) (i k : ℕ) → IsRolling g limit n at quadrant → i ≤ n → quadrant i < quadrant k → i ≤ k
in_order g limit n at quadrant i k way le less =
    elim (cases_lt k i) [
      | inr fine ↦ fine
      | inl afterwards ↦ (
          let e : k + (i - k) ≡ i = omega (arith, afterwards) in
          let up = rises g limit n at quadrant k (i - k) way (omega (arith, e, le)) in
          let up' : quadrant k ≤ quadrant i = subst (λ t. quadrant k ≤ quadrant t) e up in
          absurd (omega (arith, up', less)))
    ]

-- the move into a quadrant ends less than a step from the axis on which it begins
enters : (g limit : ℕ) (s : Spoke) (r : Roll) (here j : ℕ) → IsRoll g limit s r → here < j → j ≤ quadrants_of here r →
    (quadrants_of here r ≡ j) × ((rolled g r s).y ≤ g)
enters g limit s Outward here j roll less more = absurd (omega (arith, less, more))
enters g limit s Diagonal here j roll less more = absurd (omega (arith, less, more))
enters g limit s Inward here j roll less more = absurd (omega (arith, less, more))
enters g limit s Over here j roll less more = (omega (arith, less, more), omega arith)

-- so each quadrant has a first point
first_place : (g limit n : ℕ) (at : ℕ → Spoke) (quadrant : ℕ → ℕ) (m j : ℕ) → IsRolling g limit n at quadrant → m ≤ n → 0 < j → j ≤ quadrant m →
    (k : ℕ) × (k ≤ n) × (quadrant k ≡ j) × ((at k).y ≤ g)
first_place g limit n at quadrant zero j way le some more = absurd (omega (arith, way.starts, some, more))
first_place g limit n at quadrant (suc m) j way le some more =
    let e : suc m ≡ m + 1 = omega arith in
    let step = way.rolls m (omega (arith, le)) in
    elim (cases_lt (quadrant m) j) [
      | inr before ↦ first_place g limit n at quadrant m j way (omega (arith, le)) some before
      | inl here ↦ (
          let more' : j ≤ quadrant (m + 1) = subst (λ t. j ≤ quadrant t) e more in
          let h = enters g limit (at m) step.0 (quadrant m) j step.1 here (omega (arith, more', step.3)) in
          (m + 1, omega (arith, le), step.3 ∙ h.0, subst (λ (s : Spoke). s.y ≤ g) (sym step.2) h.1))
    ]

-- ---- the quadrant points

-- from point i on, which is before the j-th axis
passes_from : (a : ArcShape) (g limit d n : ℕ) (at : ℕ → Spoke) (quadrant : ℕ → ℕ) (b e : Spoke) (begun left : ℕ) →
    IsPassing a g limit d n at quadrant b e begun left →
    (c j i : ℕ) → i ≤ n → begun + quadrant i < j → j + c ≤ begun + left + 1 →
    Passes (λ k. placed a (at k)) n d i (axis_points a b (outer_radius a) j c)
passes_from a g limit d n at quadrant b e begun left w zero j i le before few = tt
passes_from a g limit d n at quadrant b e begun left w (suc c) j i le before few =
    let way = w.walk.rolling in
    elim (cases_lt (begun + quadrant n) j) [
      | inr reached ↦ (
          let f = first_place g limit n at quadrant n (j - begun) way (omega arith) (omega (arith, before)) (omega (arith, reached)) in
          let count : begun + quadrant f.0 ≡ j = omega (arith, f.2, before) in
          let order = in_order g limit n at quadrant i f.0 way le (omega (arith, before, count)) in
          let there : (at f.0).quadrant ≡ turned_by j b.quadrant =
          quadrant_on g limit n at quadrant f.0 way f.1 ∙ ap (turned_by (quadrant f.0)) w.walk.begins ∙ turned_sum begun (quadrant f.0) b.quadrant
          ∙ ap (λ m. turned_by m b.quadrant) count in
          let near = w.afterwards f.0 f.1 f.3 in
          let rest = passes_from a g limit d n at quadrant b e begun left w c (suc j) f.0 f.1 (omega (arith, count)) (omega (arith, few)) in (
            f.0,
            order,
            f.1,
            subst (λ (z : Quadrant). IsWithin d (placed a (at f.0)) (placed a (record { quadrant = z; x = outer_radius a; y = 0 }))) there near,
            rest,
          ))
      | inl beyond ↦ elim w.ends [
        | inl done ↦ absurd (omega (arith, done, beyond, few))
        | inr last ↦ (
            let count : suc (begun + quadrant n) ≡ j = omega (arith, last.0, beyond, few) in
            let here : (at n).quadrant ≡ turned_by (begun + quadrant n) b.quadrant =
            quadrant_on g limit n at quadrant n way (omega arith) ∙ ap (turned_by (quadrant n)) w.walk.begins ∙ turned_sum begun (quadrant n) b.quadrant in
            let there : following (at n).quadrant ≡ turned_by j b.quadrant = ap following here ∙ ap (λ m. turned_by m b.quadrant) count in
            let near = w.before n (omega arith) (omega (arith, last.1)) in
            let rest = passes_from a g limit d n at quadrant b e begun left w c (suc j) n (omega arith) (omega (arith, beyond)) (omega (arith, few)) in (
              n,
              le,
              omega arith,
              subst (λ (z : Quadrant). IsWithin d (placed a (at n)) (placed a (record { quadrant = z; x = outer_radius a; y = 0 }))) there near,
              rest,
            ))
      ]
    ]

-- from the start, with the axis on which it begins, or past which it begins
passes_all : (a : ArcShape) (g limit d n : ℕ) (at : ℕ → Spoke) (quadrant : ℕ → ℕ) (b e : Spoke) (begun left : ℕ) →
    IsPassing a g limit d n at quadrant b e begun left →
    (c : ℕ) → first_axis b.y + c ≤ begun + left + 1 → Passes (λ k. placed a (at k)) n d 0 (axis_points a b (outer_radius a) (first_axis b.y) c)
passes_all a g limit d n at quadrant b e begun left w zero few = tt
passes_all a g limit d n at quadrant b e begun left w (suc c) few =
    let starts = w.walk.rolling.starts in
    elim (cases_lt begun (first_axis b.y)) [
      | inl before ↦ passes_from a g limit d n at quadrant b e begun left w (suc c) (first_axis b.y) 0 (omega arith) (omega (arith, starts, before)) few
      | inr past ↦ (
          let same : begun ≡ first_axis b.y = omega (arith, past, w.soon) in
          let there : (at 0).quadrant ≡ turned_by (first_axis b.y) b.quadrant = w.walk.begins ∙ ap (λ m. turned_by m b.quadrant) same in
          let near = w.afterwards 0 (omega arith) (w.beside past) in
          let rest = passes_from a g limit d n at quadrant b e begun left w c (suc (first_axis b.y)) 0 (omega arith) (omega (arith, starts, same))
          (omega (arith, few)) in (
            0,
            omega arith,
            omega arith,
            subst (λ (z : Quadrant). IsWithin d (placed a (at 0)) (placed a (record { quadrant = z; x = outer_radius a; y = 0 }))) there near,
            rest,
          ))
    ]

pub at_most_one : (y : ℕ) → first_axis y ≤ 1
at_most_one zero = omega arith
at_most_one (suc y) = omega arith

round_of : (a : ArcShape) (g limit d n : ℕ) (at : ℕ → Spoke) (quadrant : ℕ → ℕ) (b e : Spoke) (begun left : ℕ) →
    IsPassing a g limit d n at quadrant b e begun left → IsRound a b e (begun + left)
round_of a g limit d n at quadrant b e begun left w = record {
  start = w.walk.start;
  end = w.walk.end;
  start_out = w.walk.start_out;
  end_out = w.walk.end_out;
  to_end = w.walk.to_end ∙ ap (turned_by left) w.walk.begins ∙ turned_sum begun left b.quadrant;
  turn = w.walk.turn;
  some_radius = w.some_radius;
}

-- Such a walk passes within d of each quadrant point of its arc, in order.
pub passes : (a : ArcShape) (g limit d n : ℕ) (at : ℕ → Spoke) (quadrant : ℕ → ℕ) (b e : Spoke) (begun left : ℕ) →
    IsPassing a g limit d n at quadrant b e begun left →
    Passes (λ k. placed a (at k)) n d 0 (extremes a)
passes a g limit d n at quadrant b e begun left w =
    let few : first_axis b.y + min 4 (begun + left + 1 - first_axis b.y) ≤ begun + left + 1 = omega (arith, at_most_one b.y) in
    subst (λ ps. Passes (λ k. placed a (at k)) n d 0 ps) (sym (extremes_are a b e (begun + left) (round_of a g limit d n at quadrant b e begun left w)))
    (passes_all a g limit d n at quadrant b e begun left w (min 4 (begun + left + 1 - first_axis b.y)) few)
