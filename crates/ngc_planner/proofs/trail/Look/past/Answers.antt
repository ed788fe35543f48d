use Rattle.std.proofs.Common.{◌∷◌, map, refl, sym, ◌∙◌}
use Rattle.ngc_machine_files.specs.Machine.{file_of}
use Rattle.ngc_planner.specs.Trail.{passage_of}
use Rattle.ngc_planner.specs.Turns.{axis_turns}
use Rattle.ngc_planner.proofs.TurnLaws.{axes_may_out}
use Rattle.ngc_planner.proofs.TrailLaws.{block_small, same_past, past_block, past_one_same}
use Rattle.ngc_planner.proofs.trail.Look.past.Goals as goal

pub axes_may_head-requires-clause-differences : goal.axes_may_head-requires-clause-differences
axes_may_head-requires-clause-differences g c =
    rw c.differences-differences.ensures (block_small c.args.mark.now.block c.args.next.now c.requires.block c.requires.next)

pub returns-then-axes_may_head-clause-same : goal.returns-then-axes_may_head-clause-same
returns-then-axes_may_head-clause-same g c =
    let m = file_of c.args.machine.now in
    let b = c.args.mark.now.block in
    let s = c.args.self in
    let may = axes_may_out m.jump (axis_turns m) c.differences-differences.result s.way s.rate (sym c.axes_may_head.ensures ∙ c.if-axes_may_head.true) in
    λ ms is. same_past m c.args.next.now _ s.rate _ _ s.passed b.count (map passage_of (c.args.mark.now ∷ ms)) refl
    (past_block m c.args.next.now b s.rate s.way c.differences-differences.result (map passage_of (c.args.mark.now ∷ ms)) is.block is.describes c.requires.next
    c.differences-differences.ensures c.requires.rate may)

pub returns-else-axes_may_head-clause-same : goal.returns-else-axes_may_head-clause-same
returns-else-axes_may_head-clause-same g c =
    let s = c.args.self in
    let r = c.past_one.result in
    λ ms is. past_one_same (file_of c.args.machine.now) c.args.next.now (passage_of c.args.mark.now) (map passage_of ms) s.rate r.rate s.way r.way r.passed s.passed
    c.past_one.ensures.rate c.past_one.ensures.way c.past_one.ensures.passed
