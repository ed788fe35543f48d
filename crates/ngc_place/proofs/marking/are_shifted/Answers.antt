use Rattle.std.proofs.Common.{arith, get_or, false}
use Rattle.std.proofs.lemmas.List.{drop_more}
use Rattle.ngc_place.proofs.MarkLaws.{next_action, all_left, one_passed, one_differs, none_left_over, other_count}
use Rattle.ngc_place.proofs.marking.are_shifted.Goals as goal

pub returns-then-commands-others-clause-no : goal.returns-then-commands-others-clause-no
returns-then-commands-others-clause-no c = λ e h.
    omega (
      arith,
      c.if-commands-others.true,
      other_count c.args.step c.args.by.now c.args.program.now.moving.now c.args.program.now.commands.now c.args.others.now h,
    )

pub returns-then-commands-marks-clause-no : goal.returns-then-commands-marks-clause-no
returns-then-commands-marks-clause-no c = λ e h. omega (arith, c.if-commands-marks.true, h.each)

pub loop-index-init : goal.loop-index-init
loop-index-init c = all_left c.args.step c.args.by.now c.args.program.now.moving.now c.args.program.now.commands.now c.args.others.now

pub returns-then-not-is_action_shifted-clause-no : goal.returns-then-not-is_action_shifted-clause-no
returns-then-not-is_action_shifted-clause-no c = λ e h.
    let i = c.loop-index.index in
    let marks = c.args.program.now.moving.now in
    let commands = c.args.program.now.commands.now in
    one_differs c.args.step c.args.by.now c.loop-index.start (get_or marks i false) marks commands c.args.others.now i
    c.index-commands-index.result.action c.index-others-index.result.action c.loop-index.invariant
    (drop_more marks i false (omega (arith, c.loop-index-test.true, c.if-commands-marks.false)))
    (next_action i commands c.index-commands-index.result c.loop-index-test.true c.index-commands-index.is)
    (next_action i c.args.others.now c.index-others-index.result (omega (arith, c.loop-index-test.true, c.if-commands-others.false)) c.index-others-index.is)
    (c.is_action_shifted.ensures.no c.if-not-is_action_shifted.true) h

pub loop-index-preserved : goal.loop-index-preserved
loop-index-preserved c =
    let i = c.loop-index.index in
    let marks = c.args.program.now.moving.now in
    let commands = c.args.program.now.commands.now in
    one_passed c.args.step c.args.by.now c.loop-index.start c.reached_moves-start.result (get_or marks i false) marks commands c.args.others.now i
    c.index-commands-index.result.action c.index-others-index.result.action c.loop-index.invariant
    (drop_more marks i false (omega (arith, c.loop-index-test.true, c.if-commands-marks.false)))
    (next_action i commands c.index-commands-index.result c.loop-index-test.true c.index-commands-index.is)
    (next_action i c.args.others.now c.index-others-index.result (omega (arith, c.loop-index-test.true, c.if-commands-others.false)) c.index-others-index.is)
    (c.is_action_shifted.ensures.yes c.if-not-is_action_shifted.false) c.reached_moves-start.ensures

pub returns-clause-yes : goal.returns-clause-yes
returns-clause-yes c = λ e.
    none_left_over c.args.step c.args.by.now c.loop-index.start c.args.program.now.moving.now c.args.program.now.commands.now c.args.others.now
    c.loop-index.index c.loop-index.invariant (omega (arith, c.loop-index-test.false)) (omega (arith, c.if-commands-others.false))
    (omega (arith, c.if-commands-marks.false))
