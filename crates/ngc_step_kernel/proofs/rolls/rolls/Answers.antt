use Rattle.std.proofs.Common.{◌+◌, ◌∙◌, sym, refl, subst}
use Rattle.std.specs.Prelude.{ℕ, Option}
use Rattle.ngc_step_kernel.specs.Left.{IsLeftAfter}
use Rattle.ngc_step_kernel.proofs.CourseLemmas.{walk_on, round_starts}
use Rattle.ngc_step_kernel.proofs.RollsLemmas.{before_first, before_on, past_on}
use Rattle.ngc_circle_walk.proofs.Wheeling.{first_spoke}
use Rattle.ngc_step_kernel.proofs.rolls.rolls.Goals as goal

pub new-wheel-requires-clause-small : goal.new-wheel-requires-clause-small
new-wheel-requires-clause-small g c = rw (first_spoke _ _ _) at (c.requires.small 0)

pub loop-moves-init : goal.loop-moves-init
loop-moves-init g c =
    let n = c.new-wheel.ensures in
    (n.place ∙ sym (first_spoke _ _ _), n.pace, n.rim, sym (round_starts _ _ _ _), before_first _ _ _ _ _ c.requires.before)

pub left_after-requires-clause-at : goal.left_after-requires-clause-at
left_after-requires-clause-at g c =
    let i = c.loop-moves.invariant in
    let a = c.advance-roll.ensures in
    let on = walk_on c.args.step c.args.limit c.args.first _ _ c.args.entry c.loop-moves.last _ _ c.loop-moves.moves _ _ i.1 i.2 i.0 i.3 a.roll a.place refl in
    rw (c.spoke.ensures, on.0) (c.requires.small (c.loop-moves.moves + 1))

pub returns-in-None-clause-past : goal.returns-in-None-clause-past
returns-in-None-clause-past g c =
    let i = c.loop-moves.invariant in
    let a = c.advance-roll.ensures in
    let on = walk_on c.args.step c.args.limit c.args.first _ _ c.args.entry c.loop-moves.last _ _ c.loop-moves.moves _ _ i.1 i.2 i.0 i.3 a.roll a.place refl in
    let left = subst (λ (o : Option ℕ). IsLeftAfter c.loop-moves.left c.advance-roll.result c.spoke.result c.args.end.now o) c.in-None.is
    c.left_after.ensures in
    λ few. past_on c.args.step c.args.limit c.args.first c.args.end.now _ c.spoke.result c.advance-roll.result c.args.quadrants c.loop-moves.left
    c.loop-moves.moves _ _ i.4 i.1 i.2 i.0 a.roll (c.spoke.ensures ∙ on.0) left

pub loop-moves-preserved : goal.loop-moves-preserved
loop-moves-preserved g c =
    let i = c.loop-moves.invariant in
    let a = c.advance-roll.ensures in
    let on = walk_on c.args.step c.args.limit c.args.first _ _ c.args.entry c.loop-moves.last _ _ c.loop-moves.moves _ _ i.1 i.2 i.0 i.3 a.roll a.place
    (c.moved-last.ensures ∙ rw (c.of.ensures, c.spoke-quadrant.ensures) refl) in
    let left = subst (λ (o : Option ℕ). IsLeftAfter c.loop-moves.left c.advance-roll.result c.spoke.result c.args.end.now o) c.in-Some.is
    c.left_after.ensures in (
      on.0,
      a.pace ∙ i.1,
      a.rim ∙ i.2,
      on.1,
      before_on c.args.step c.args.limit c.args.first c.args.end.now _ c.spoke.result c.advance-roll.result c.args.quadrants c.loop-moves.left c.in-Some.next
          c.loop-moves.moves _ _ i.4 i.1 i.2 i.0 a.roll (c.spoke.ensures ∙ on.0) left,
    )
