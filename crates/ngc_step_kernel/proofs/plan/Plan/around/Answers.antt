use Rattle.std.proofs.Common.{refl, sym, ◌∙◌, arith}
use Rattle.ngc_step_kernel.proofs.AroundLemmas.{joint_of, begun_small, begun_spots, begun_apart, reach_begun, begun_of, first_small, some_left, some_root}
use Rattle.ngc_step_kernel.proofs.JointPlanGiven.{bent_seen}
use Rattle.ngc_step_kernel.proofs.CourseFollows.{straight_seen, round_seen, wide_seen, root_told}
use Rattle.ngc_step_kernel.proofs.Settings.{some_way}
use Rattle.ngc_step_kernel.specs.View.{squared}
use Rattle.ngc_step_kernel.proofs.EndLemmas.{nearest_reach}
use Rattle.ngc_step_kernel.proofs.JointLemmas.{radius_way, reach_apart}
use Rattle.ngc_step_kernel.proofs.plan.Plan.around.Goals as goal

pub straight-requires-clause-few : goal.straight-requires-clause-few
straight-requires-clause-few g c =
    let r = c.requires in
    omega (
      arith,
      reach_apart c.args.step c.args.view.now.centre c.args.start c.args.end r.least
          (nearest_reach c.args.step c.args.view.now.centre c.args.view.now.start c.args.start r.view.start r.start_at r.greatest)
          (nearest_reach c.args.step c.args.view.now.centre c.args.view.now.end c.args.end r.view.end r.end_at r.greatest),
    )

pub joint-joint-requires-clause-radius : goal.joint-joint-requires-clause-radius
joint-joint-requires-clause-radius g c = c.ceil-radius.ensures.least 2000020000 (omega (arith, c.square.ensures, c.requires.view.start.bound))

pub circle_of-circle-requires-clause-radius : goal.circle_of-circle-requires-clause-radius
circle_of-circle-requires-clause-radius g c = c.ceil-other.ensures.least 2000020000 (omega (arith, c.square-2.ensures, c.requires.view.end.bound))

pub limit_of-limit-requires-clause-radius : goal.limit_of-limit-requires-clause-radius
limit_of-limit-requires-clause-radius g c = omega (arith, c.circle_of-circle.ensures.bound)

pub of-entry-requires-clause-near : goal.of-entry-requires-clause-near
of-entry-requires-clause-near g c =
    let r = c.requires in
    let other = c.circle_of-circle.ensures.bound in
    (joint_of c.args.step c.ceil-radius.result c.circle_of-circle.result c.square.result c.args.view.now.centre c.args.view.now.start c.joint-joint.result
    (omega (arith, c.square.ensures, r.view.start.some)) c.ceil-radius.ensures.square c.square.ensures c.joint-joint.ensures.u c.joint-joint.ensures.v other
    r.greatest).near

pub of-entry-requires-clause-radius : goal.of-entry-requires-clause-radius
of-entry-requires-clause-radius g c = c.circle_of-circle.ensures.bound

pub spoke-last-requires : goal.spoke-last-requires
spoke-last-requires g c = radius_way c.args.view.now.end c.requires.view.end

pub quadrants_left-requires-clause-start : goal.quadrants_left-requires-clause-start
quadrants_left-requires-clause-start g c = radius_way c.args.view.now.start c.requires.view.start

pub through_joint-requires-clause-joins : goal.through_joint-requires-clause-joins
through_joint-requires-clause-joins g c =
    let r = c.requires in
    let other = c.circle_of-circle.ensures.bound in
    let joint = joint_of c.args.step c.ceil-radius.result c.circle_of-circle.result c.square.result c.args.view.now.centre c.args.view.now.start
    c.joint-joint.result (omega (arith, c.square.ensures, r.view.start.some)) c.ceil-radius.ensures.square c.square.ensures c.joint-joint.ensures.u
    c.joint-joint.ensures.v other r.greatest in
    omega (
      arith,
      reach_apart c.args.step c.args.view.now.centre c.args.start c.joint-joint.result r.least
          (nearest_reach c.args.step c.args.view.now.centre c.args.view.now.start c.args.start r.view.start r.start_at r.greatest) joint.reach,
    )

pub through_joint-requires-clause-ends : goal.through_joint-requires-clause-ends
through_joint-requires-clause-ends g c =
    let r = c.requires in
    let other = c.circle_of-circle.ensures.bound in
    let joint = joint_of c.args.step c.ceil-radius.result c.circle_of-circle.result c.square.result c.args.view.now.centre c.args.view.now.start
    c.joint-joint.result (omega (arith, c.square.ensures, r.view.start.some)) c.ceil-radius.ensures.square c.square.ensures c.joint-joint.ensures.u
    c.joint-joint.ensures.v other r.greatest in
    omega (
      arith,
      reach_apart c.args.step c.args.view.now.centre c.joint-joint.result c.args.end r.least joint.reach
          (nearest_reach c.args.step c.args.view.now.centre c.args.view.now.end c.args.end r.view.end r.end_at r.greatest),
    )

pub round-requires-clause-small : goal.round-requires-clause-small
round-requires-clause-small g c =
    begun_small c.args.step c.circle_of-circle.result c.limit_of-limit.result c.args.view.now.centre c.of-entry.result.spot c.of-entry.result.spoke
    (begun_of c.args.step c.circle_of-circle.result c.limit_of-limit.result c.args.view.now.centre c.of-entry.result.spot c.of-entry.result.spoke
    c.requires.least c.requires.greatest c.circle_of-circle.ensures.bound c.limit_of-limit.ensures.value c.of-entry.ensures.about c.of-entry.ensures.near)

pub round-requires-clause-range : goal.round-requires-clause-range
round-requires-clause-range g c =
    begun_spots c.args.step c.circle_of-circle.result c.limit_of-limit.result c.args.view.now.centre c.of-entry.result.spot c.of-entry.result.spoke
    (begun_of c.args.step c.circle_of-circle.result c.limit_of-limit.result c.args.view.now.centre c.of-entry.result.spot c.of-entry.result.spoke
    c.requires.least c.requires.greatest c.circle_of-circle.ensures.bound c.limit_of-limit.ensures.value c.of-entry.ensures.about c.of-entry.ensures.near)
    c.requires.view.centre_u c.requires.view.centre_v

pub round-requires-clause-joins : goal.round-requires-clause-joins
round-requires-clause-joins g c =
    let r = c.requires in
    let other = c.circle_of-circle.ensures.bound in
    let joint = joint_of c.args.step c.ceil-radius.result c.circle_of-circle.result c.square.result c.args.view.now.centre c.args.view.now.start
    c.joint-joint.result (omega (arith, c.square.ensures, r.view.start.some)) c.ceil-radius.ensures.square c.square.ensures c.joint-joint.ensures.u
    c.joint-joint.ensures.v other r.greatest in
    omega (
      arith,
      reach_apart c.args.step c.args.view.now.centre c.args.start c.joint-joint.result r.least
          (nearest_reach c.args.step c.args.view.now.centre c.args.view.now.start c.args.start r.view.start r.start_at r.greatest) joint.reach,
    )

pub round-requires-clause-enters : goal.round-requires-clause-enters
round-requires-clause-enters g c =
    let r = c.requires in
    let other = c.circle_of-circle.ensures.bound in
    let joint = joint_of c.args.step c.ceil-radius.result c.circle_of-circle.result c.square.result c.args.view.now.centre c.args.view.now.start
    c.joint-joint.result (omega (arith, c.square.ensures, r.view.start.some)) c.ceil-radius.ensures.square c.square.ensures c.joint-joint.ensures.u
    c.joint-joint.ensures.v other r.greatest in
    reach_begun c.args.step c.circle_of-circle.result c.limit_of-limit.result c.args.view.now.centre c.of-entry.result.spot c.joint-joint.result
    c.of-entry.result.spoke
    (begun_of c.args.step c.circle_of-circle.result c.limit_of-limit.result c.args.view.now.centre c.of-entry.result.spot c.of-entry.result.spoke
    c.requires.least c.requires.greatest c.circle_of-circle.ensures.bound c.limit_of-limit.ensures.value c.of-entry.ensures.about
    c.of-entry.ensures.near) joint.reach

pub round-requires-clause-ends : goal.round-requires-clause-ends
round-requires-clause-ends g c =
    begun_apart c.args.step c.circle_of-circle.result c.limit_of-limit.result c.args.view.now.centre c.of-entry.result.spot c.args.end c.of-entry.result.spoke
    (begun_of c.args.step c.circle_of-circle.result c.limit_of-limit.result c.args.view.now.centre c.of-entry.result.spot c.of-entry.result.spoke
    c.requires.least c.requires.greatest c.circle_of-circle.ensures.bound c.limit_of-limit.ensures.value c.of-entry.ensures.about c.of-entry.ensures.near)
    (nearest_reach c.args.step c.args.view.now.centre c.args.view.now.end c.args.end c.requires.view.end c.requires.end_at c.requires.greatest)

pub round-requires-clause-before : goal.round-requires-clause-before
round-requires-clause-before g c =
    some_left _ _ _ c.in-Some.quadrants c.of-entry.result.spoke c.spoke-last.result refl (sym c.quadrants_left.ensures ∙ c.in-Some.is)

pub quadrants_left-requires-clause-first : goal.quadrants_left-requires-clause-first
quadrants_left-requires-clause-first g c =
    first_small c.args.step c.circle_of-circle.result c.limit_of-limit.result c.args.view.now.centre c.of-entry.result.spot c.of-entry.result.spoke
    (begun_of c.args.step c.circle_of-circle.result c.limit_of-limit.result c.args.view.now.centre c.of-entry.result.spot c.of-entry.result.spoke
    c.requires.least c.requires.greatest c.circle_of-circle.ensures.bound c.limit_of-limit.ensures.value c.of-entry.ensures.about c.of-entry.ensures.near)

pub returns-then-is_tiny-clause-follows : goal.returns-then-is_tiny-clause-follows
returns-then-is_tiny-clause-follows g c = λ a seen arc.
    straight_seen a c.args.step _ c.is_tiny.result c.args.view.now c.args.start c.args.end c.straight.result seen arc c.requires.least refl c.is_tiny.ensures
    c.if-is_tiny.true c.requires.start_at c.requires.end_at c.straight.ensures.plan c.straight.ensures.straight

pub returns-in-None-clause-follows : goal.returns-in-None-clause-follows
returns-in-None-clause-follows g c = λ a seen arc.
    bent_seen a c.args.step c.ceil-radius.result c.ceil-other.result c.circle_of-circle.result c.limit_of-limit.result c.args.view.now c.args.start c.args.end
    c.joint-joint.result c.of-entry.result.spot c.of-entry.result.spoke c.spoke-last.result c.through_joint.result seen (record {
      arc = arc;
      least = c.requires.least;
      most = c.requires.greatest;
      wide = wide_seen a c.args.step _ c.is_tiny.result c.args.view.now seen refl c.is_tiny.ensures c.if-is_tiny.false;
      start_root = root_told c.square.result (squared c.args.view.now.start) c.ceil-radius.result c.square.ensures c.ceil-radius.ensures.square
          c.ceil-radius.ensures.least;
      end_root = root_told c.square-2.result (squared c.args.view.now.end) c.ceil-other.result c.square-2.ensures c.ceil-other.ensures.square
          c.ceil-other.ensures.least;
      circle = c.circle_of-circle.ensures.value;
      limit_is = c.limit_of-limit.ensures.value;
      start_at = c.requires.start_at;
      end_at = c.requires.end_at;
      moved_u = c.joint-joint.ensures.u;
      moved_v = c.joint-joint.ensures.v;
      about = c.of-entry.ensures.about;
      entered = c.of-entry.ensures.entered;
      beside = c.of-entry.ensures.beside;
      end_way = c.spoke-last.ensures.place;
      end_out = c.spoke-last.ensures.out (some_way _ _ c.requires.view.end.some);
      none = sym c.quadrants_left.ensures ∙ c.in-None.is;
      plan = c.through_joint.ensures.plan;
      bent = c.through_joint.ensures.bent;
    })

pub returns-in-Some-clause-follows : goal.returns-in-Some-clause-follows
returns-in-Some-clause-follows g c = λ a seen arc.
    round_seen a c.args.step c.ceil-radius.result c.ceil-other.result c.circle_of-circle.result c.limit_of-limit.result c.in-Some.quadrants c.args.view.now
    c.args.start c.args.end c.joint-joint.result c.of-entry.result.spot c.of-entry.result.spoke c.spoke-last.result c.round.result seen (record {
      arc = arc;
      least = c.requires.least;
      most = c.requires.greatest;
      wide = wide_seen a c.args.step _ c.is_tiny.result c.args.view.now seen refl c.is_tiny.ensures c.if-is_tiny.false;
      start_root = root_told c.square.result (squared c.args.view.now.start) c.ceil-radius.result c.square.ensures c.ceil-radius.ensures.square
          c.ceil-radius.ensures.least;
      end_root = root_told c.square-2.result (squared c.args.view.now.end) c.ceil-other.result c.square-2.ensures c.ceil-other.ensures.square
          c.ceil-other.ensures.least;
      circle = c.circle_of-circle.ensures.value;
      limit_is = c.limit_of-limit.ensures.value;
      start_at = c.requires.start_at;
      end_at = c.requires.end_at;
      moved_u = c.joint-joint.ensures.u;
      moved_v = c.joint-joint.ensures.v;
      about = c.of-entry.ensures.about;
      entered = c.of-entry.ensures.entered;
      beside = c.of-entry.ensures.beside;
      end_way = c.spoke-last.ensures.place;
      end_out = c.spoke-last.ensures.out (some_way _ _ c.requires.view.end.some);
      counted = sym c.quadrants_left.ensures ∙ c.in-Some.is;
      plan = c.round.ensures.plan;
      round = c.round.ensures.round;
    })

pub is_tiny-requires-clause-start : goal.is_tiny-requires-clause-start
is_tiny-requires-clause-start g c = radius_way c.args.view.now.start c.requires.view.start

pub is_tiny-requires-clause-end : goal.is_tiny-requires-clause-end
is_tiny-requires-clause-end g c = radius_way c.args.view.now.end c.requires.view.end

pub is_tiny-requires-clause-greatest : goal.is_tiny-requires-clause-greatest
is_tiny-requires-clause-greatest g c = c.requires.greatest

pub straight-requires-clause-start : goal.straight-requires-clause-start
straight-requires-clause-start g c = c.requires.start

pub straight-requires-clause-end : goal.straight-requires-clause-end
straight-requires-clause-end g c = c.requires.end

pub straight-requires-clause-some : goal.straight-requires-clause-some
straight-requires-clause-some g c = omega (arith, c.requires.least)

pub straight-requires-clause-short : goal.straight-requires-clause-short
straight-requires-clause-short g c = c.requires.greatest

pub returns-then-is_tiny-clause-plan : goal.returns-then-is_tiny-clause-plan
returns-then-is_tiny-clause-plan g c = c.straight.ensures.plan

pub returns-then-is_tiny-clause-start : goal.returns-then-is_tiny-clause-start
returns-then-is_tiny-clause-start g c = c.straight.ensures.start

pub returns-then-is_tiny-clause-end : goal.returns-then-is_tiny-clause-end
returns-then-is_tiny-clause-end g c = c.straight.ensures.end

pub returns-then-is_tiny-clause-roots : goal.returns-then-is_tiny-clause-roots
returns-then-is_tiny-clause-roots g c = omega arith

pub square-requires : goal.square-requires
square-requires g c = radius_way c.args.view.now.start c.requires.view.start

pub ceil-radius-requires-clause-small : goal.ceil-radius-requires-clause-small
ceil-radius-requires-clause-small g c = omega (arith, c.square.ensures, c.requires.view.start.bound)

pub ceil-radius-requires-clause-few : goal.ceil-radius-requires-clause-few
ceil-radius-requires-clause-few g c = omega (arith, c.requires.roots)

pub square-requires-2 : goal.square-requires-2
square-requires-2 g c = radius_way c.args.view.now.end c.requires.view.end

pub ceil-other-requires-clause-small : goal.ceil-other-requires-clause-small
ceil-other-requires-clause-small g c = omega (arith, c.square-2.ensures, c.requires.view.end.bound)

pub ceil-other-requires-clause-few : goal.ceil-other-requires-clause-few
ceil-other-requires-clause-few g c = omega (arith, c.requires.roots, c.ceil-radius.ensures.counted)

pub circle_of-circle-requires-clause-short : goal.circle_of-circle-requires-clause-short
circle_of-circle-requires-clause-short g c = c.requires.greatest

pub joint-joint-requires-clause-view : goal.joint-joint-requires-clause-view
joint-joint-requires-clause-view g c = c.requires.view

pub joint-joint-requires-clause-some : goal.joint-joint-requires-clause-some
joint-joint-requires-clause-some g c =
    some_root c.square.result c.ceil-radius.result (omega (arith, c.square.ensures, c.requires.view.start.some)) c.ceil-radius.ensures.square

pub joint-joint-requires-clause-start : goal.joint-joint-requires-clause-start
joint-joint-requires-clause-start g c = omega (arith, c.square.ensures, c.ceil-radius.ensures.square)

pub joint-joint-requires-clause-other : goal.joint-joint-requires-clause-other
joint-joint-requires-clause-other g c = c.circle_of-circle.ensures.bound

pub joint-joint-requires-clause-least : goal.joint-joint-requires-clause-least
joint-joint-requires-clause-least g c = c.requires.least

pub joint-joint-requires-clause-greatest : goal.joint-joint-requires-clause-greatest
joint-joint-requires-clause-greatest g c = c.requires.greatest

pub limit_of-limit-requires-clause-short : goal.limit_of-limit-requires-clause-short
limit_of-limit-requires-clause-short g c = c.requires.greatest

pub of-entry-requires-clause-view : goal.of-entry-requires-clause-view
of-entry-requires-clause-view g c = c.requires.view

pub of-entry-requires-clause-joint : goal.of-entry-requires-clause-joint
of-entry-requires-clause-joint g c = c.joint-joint.ensures.range

pub of-entry-requires-clause-least : goal.of-entry-requires-clause-least
of-entry-requires-clause-least g c = c.requires.least

pub of-entry-requires-clause-greatest : goal.of-entry-requires-clause-greatest
of-entry-requires-clause-greatest g c = c.requires.greatest

pub quadrants_left-requires-clause-end : goal.quadrants_left-requires-clause-end
quadrants_left-requires-clause-end g c = radius_way c.args.view.now.end c.requires.view.end

pub quadrants_left-requires-clause-last : goal.quadrants_left-requires-clause-last
quadrants_left-requires-clause-last g c = c.spoke-last.ensures.small

pub through_joint-requires-clause-start : goal.through_joint-requires-clause-start
through_joint-requires-clause-start g c = c.requires.start

pub through_joint-requires-clause-joint : goal.through_joint-requires-clause-joint
through_joint-requires-clause-joint g c = c.joint-joint.ensures.range

pub through_joint-requires-clause-end : goal.through_joint-requires-clause-end
through_joint-requires-clause-end g c = c.requires.end

pub through_joint-requires-clause-some : goal.through_joint-requires-clause-some
through_joint-requires-clause-some g c = omega (arith, c.requires.least)

pub through_joint-requires-clause-short : goal.through_joint-requires-clause-short
through_joint-requires-clause-short g c = c.requires.greatest

pub round-requires-clause-some : goal.round-requires-clause-some
round-requires-clause-some g c = omega (arith, c.requires.least)

pub round-requires-clause-short : goal.round-requires-clause-short
round-requires-clause-short g c = c.requires.greatest

pub round-requires-clause-start : goal.round-requires-clause-start
round-requires-clause-start g c = c.requires.start

pub round-requires-clause-joint : goal.round-requires-clause-joint
round-requires-clause-joint g c = c.joint-joint.ensures.range

pub round-requires-clause-end : goal.round-requires-clause-end
round-requires-clause-end g c = c.requires.end

pub round-requires-clause-end_spoke : goal.round-requires-clause-end_spoke
round-requires-clause-end_spoke g c = c.spoke-last.ensures.small

pub returns-in-None-clause-plan : goal.returns-in-None-clause-plan
returns-in-None-clause-plan g c = c.through_joint.ensures.plan

pub returns-in-None-clause-start : goal.returns-in-None-clause-start
returns-in-None-clause-start g c = c.through_joint.ensures.start

pub returns-in-None-clause-end : goal.returns-in-None-clause-end
returns-in-None-clause-end g c = c.through_joint.ensures.end

pub returns-in-None-clause-roots : goal.returns-in-None-clause-roots
returns-in-None-clause-roots g c = omega (arith, c.ceil-radius.ensures.counted, c.ceil-other.ensures.counted)

pub returns-in-Some-clause-plan : goal.returns-in-Some-clause-plan
returns-in-Some-clause-plan g c = c.round.ensures.plan

pub returns-in-Some-clause-start : goal.returns-in-Some-clause-start
returns-in-Some-clause-start g c = c.round.ensures.start

pub returns-in-Some-clause-end : goal.returns-in-Some-clause-end
returns-in-Some-clause-end g c = c.round.ensures.end

pub returns-in-Some-clause-roots : goal.returns-in-Some-clause-roots
returns-in-Some-clause-roots g c = omega (arith, c.ceil-radius.ensures.counted, c.ceil-other.ensures.counted)
