-- The results of the three ways to plan a course. Our own.
use Rattle.std.specs.Prelude.{◌≡◌, ℕ, ◌+◌, ◌-◌, ◌<◌, ◌≤◌}
use Rattle.ngc_circle_walk.specs.declared.spoke.Spoke.{Spoke}
use Rattle.ngc_circle_walk.specs.Rolling.{spoke_at, quadrant_at}
use Rattle.ngc_circle_laws.specs.ArcWalk.{IsBeforeEnd}
use Rattle.ngc_step_kernel.specs.declared.plan.Plan.{Plan}
use Rattle.ngc_step_kernel.specs.declared.spot.Spot.{Spot}

-- straight from start to end
pub record IsStraightPlan (start end : Spot) (p : Plan) : Type 0 where
  pub starts : p.start ≡ start
  pub joins : p.joint ≡ start
  pub enters : p.entry ≡ start
  pub ends : p.end ≡ end
  pub joined : p.joined ≡ 0
  pub entered : p.entered ≡ 0
  pub rolled : p.rolled ≡ 0

-- through a joint
pub record IsJointPlan (start joint end : Spot) (p : Plan) : Type 0 where
  pub starts : p.start ≡ start
  pub joins : p.joint ≡ joint
  pub enters : p.entry ≡ joint
  pub ends : p.end ≡ end
  pub entered : p.entered ≡ p.joined
  pub rolled : p.rolled ≡ p.joined

-- round with a wheel, up to its last point before the end's direction, unless the number of moves
-- reaches its limit
pub record IsRoundPlan (start joint entry end : Spot) (first last : Spoke)
    (quadrants step limit : ℕ) (p : Plan) : Type 0 where
  pub starts : p.start ≡ start
  pub joins : p.joint ≡ joint
  pub enters : p.entry ≡ entry
  pub ends : p.end ≡ end
  pub begins : p.first ≡ first
  pub steps : p.step ≡ step
  pub limits : p.limit ≡ limit
  pub few : p.rolled - p.entered ≤ 100000000
  pub before : IsBeforeEnd (quadrant_at step limit first (p.rolled - p.entered)) quadrants
      (spoke_at step limit first (p.rolled - p.entered)) last
  pub past : p.rolled - p.entered < 100000000 →
      IsBeforeEnd (quadrant_at step limit first (p.rolled - p.entered + 1)) quadrants
      (spoke_at step limit first (p.rolled - p.entered + 1)) last → ⊥
