-- The wheel's first point: at the start's direction or past it, and near the circle.
use Rattle.std.proofs.Common.{ℕ, ◌+◌, ◌*◌, ◌≤◌, inl, inr, sym, subst, arith}
use Rattle.std.proofs.lemmas.Int.{ints}
use Rattle.ngc_circle_walk.specs.declared.spoke.Spoke.{Spoke}
use Rattle.ngc_circle_walk.proofs.WheelStart.{IsBound, IsSmallSize, small_stands, small_enters, large_stands, large_enters}
use Rattle.ngc_circle_walk.proofs.NearEnd.{IsRim, limit_of}
use Rattle.ngc_arc_geometry.specs.Shape.{ArcShape}
use Rattle.ngc_circle_laws.proofs.FirstPoints.{Begins, stands, enters}
use Rattle.ngc_step_kernel.specs.declared.spot.Spot.{Spot}
use Rattle.ngc_step_kernel.specs.Entered.{is_steep, IsEnteredFrom}
use Rattle.ngc_step_kernel.specs.View.{view_of, way_from}
use Rattle.ngc_step_kernel.proofs.Settings.{HasJoint, cross_told, steep_told, near_joint}

pub begins_at : (a : ArcShape) (g p o v limit : ℕ) (joint : Spot) (b j first : Spoke) → HasJoint a g p o v joint b j → g * g ≤ limit →
    IsEnteredFrom g limit (view_of a).start (way_from g (view_of a).centre joint) j first → (begun : ℕ) × Begins g b first begun
begins_at a g p o v limit joint b j first h room (inl stood) =
    let c = cross_told b j (view_of a).start (way_from g (view_of a).centre joint) h.start_way h.joint_way in
    let at = stands g p o b j h.joined (omega (arith, ints, stood.0, c)) in
    (at.0, subst (λ (s : Spoke). Begins g b s at.0) (sym stood.1) at.1)
begins_at a g p o v limit joint b j first h room (inr afterwards) =
    let c = cross_told b j (view_of a).start (way_from g (view_of a).centre joint) h.start_way h.joint_way in
    let roll = afterwards.1 in
    let at = enters g limit p o (is_steep j.quadrant (view_of a).start) b j roll.0 h.joined (omega (arith, ints, afterwards.0, c))
    (steep_told b j (view_of a).start h.start_way) room roll.1 in
    (at.0, subst (λ (s : Spoke). Begins g b s at.0) (sym roll.2) at.1)

pub small_bound : (a : ArcShape) (g p o h l m v : ℕ) (joint : Spot) (b j first : Spoke) → HasJoint a g p o v joint b j → IsSmallSize g o h l m v →
    IsEnteredFrom g ((o + h) * (o + h)) (view_of a).start (way_from g (view_of a).centre joint) j first → IsBound g ((o + l) * (o + l)) v first
small_bound a g p o h l m v joint b j first z size (inl stood) =
    subst (λ (s : Spoke). IsBound g ((o + l) * (o + l)) v s) (sym stood.1) (small_stands g o h l m v j size z.high z.low)
small_bound a g p o h l m v joint b j first z size (inr afterwards) =
    let c = cross_told b j (view_of a).start (way_from g (view_of a).centre joint) z.start_way z.joint_way in
    let near = near_joint a g p o v joint b j z (omega (arith, ints, afterwards.0, c)) in
    let roll = afterwards.1 in
    subst (λ (s : Spoke). IsBound g ((o + l) * (o + l)) v s) (sym roll.2)
    (small_enters g o h l m v (is_steep j.quadrant (view_of a).start) j roll.0 size near roll.1)

pub large_bound : (a : ArcShape) (g p q h k l v : ℕ) (joint : Spot) (b j first : Spoke) → HasJoint a g p (q + 1) v joint b j → IsRim g q h k l v →
    IsEnteredFrom g (limit_of q h) (view_of a).start (way_from g (view_of a).centre joint) j first → IsBound g (limit_of q l) v first
large_bound a g p q h k l v joint b j first z rim (inl stood) =
    subst (λ (s : Spoke). IsBound g (limit_of q l) v s) (sym stood.1) (large_stands g q h k l v j rim z.high z.low)
large_bound a g p q h k l v joint b j first z rim (inr afterwards) =
    let c = cross_told b j (view_of a).start (way_from g (view_of a).centre joint) z.start_way z.joint_way in
    let near = near_joint a g p (q + 1) v joint b j z (omega (arith, ints, afterwards.0, c)) in
    let roll = afterwards.1 in
    subst (λ (s : Spoke). IsBound g (limit_of q l) v s) (sym roll.2) (large_enters g q h k l v (is_steep j.quadrant (view_of a).start) j roll.0 rim near roll.1)
