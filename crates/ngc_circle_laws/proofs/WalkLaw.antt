-- Walks follow their arcs.
use Rattle.std.proofs.Common.{ℕ, ◌+◌, ◌-◌, ◌*◌, ◌/◌, sym, subst, arith}
use Rattle.ngc_circle_walk.specs.declared.spoke.Spoke.{Spoke}
use Rattle.ngc_circle_walk.proofs.CircleLaws.{rim_of, one_less}
use Rattle.ngc_arc_geometry.specs.Shape.{ArcShape}
use Rattle.ngc_arc_geometry.specs.ArcBand.{spread}
use Rattle.ngc_circle_laws.specs.ArcWalk.{IsArcWalk, Follows, WalksFollow}
use Rattle.ngc_circle_laws.proofs.Walks.{walk_in_sector, walk_goes_on}
use Rattle.ngc_circle_laws.proofs.Circuit.{IsCircuit, walk_passes}
use Rattle.ngc_circle_laws.proofs.Lifts.{circuit_in_band}

circuit : (a : ArcShape) (g q n : ℕ) (at : ℕ → Spoke) (quadrant : ℕ → ℕ) (b e : Spoke) (begun left : ℕ) → IsArcWalk a g (q + 1) n at quadrant b e begun left →
    IsCircuit a g q (2 * g / 5) (g / 2) (4 * g / 5) (q + 1 - 4 * g / 5) n at quadrant b e begun left
circuit a g q n at quadrant b e begun left w = record {
  walk = w.walk;
  rim = rim_of g q w.step w.large;
  below = w.below;
  above = w.above;
  inside = w.inside;
  outside = w.outside;
  soon = w.soon;
  beside = w.beside;
  ends = w.ends;
}

follows : (a : ArcShape) (g q n : ℕ) (at : ℕ → Spoke) (quadrant : ℕ → ℕ) (b e : Spoke) (begun left : ℕ) → IsArcWalk a g (q + 1) n at quadrant b e begun left →
    Follows a g n at
follows a g q n at quadrant b e begun left w =
    let c = circuit a g q n at quadrant b e begun left w in
    record {
      band = λ k le. circuit_in_band a g q (2 * g / 5) (g / 2) (4 * g / 5) (q + 1 - 4 * g / 5) n at quadrant b e begun left k g c le (omega arith);
      sector = λ k le. walk_in_sector a g _ n at quadrant b e begun left k w.walk le;
      onward = λ k less. walk_goes_on a g _ n at quadrant k w.walk.rolling less;
      order = walk_passes a g q (2 * g / 5) (g / 2) (4 * g / 5) (q + 1 - 4 * g / 5) n at quadrant b e begun left (spread a + 2 * g) c (omega arith);
    }

pub walks_follow : WalksFollow
walks_follow a g r n at quadrant b e begun left w =
    let same = one_less g r w.step w.large in
    follows a g (r - 1) n at quadrant b e begun left (subst (λ t. IsArcWalk a g t n at quadrant b e begun left) (sym same) w)
