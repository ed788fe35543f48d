use Rattle.std.proofs.Common.{◌∙◌, ◌<◌, length, ap, sym, arith}
use Rattle.std.specs.Prelude.{option_map}
use Rattle.ngc_file_lines.specs.Search.{numbered}
use Rattle.ngc_file_lines.proofs.Steps.{filled, rest_after_line-less, line_from-next}
use Rattle.ngc_file_lines.proofs.search.search.Goals as goal
use Rattle.ngc_file_lines.proofs.search.search.Goals.{in-Entered, in-Ahead}

pub returns-in-Found : goal.returns-in-Found
returns-in-Found c =
    let more : 0 < length c.loop-left.left.now = filled c.loop-left.left.now (sym c.is_empty.ensures ∙ c.loop-left-test.true) in
    sym (c.loop-left.invariant.same
    ∙ line_from-next c.args.header.now c.args.key.now (option_map numbered c.loop-left.found) c.loop-left.ahead c.loop-left.number c.loop-left.left.now c.split_line.result.0.now
    c.split_line.result.1.now _
    more c.split_line.ensures.line c.split_line.ensures.afterwards c.in-Found.ensures)

pub returns-in-Ended : goal.returns-in-Ended
returns-in-Ended c =
    let more : 0 < length c.loop-left.left.now = filled c.loop-left.left.now (sym c.is_empty.ensures ∙ c.loop-left-test.true) in
    sym (c.loop-left.invariant.same
    ∙ line_from-next c.args.header.now c.args.key.now (option_map numbered c.loop-left.found) c.loop-left.ahead c.loop-left.number c.loop-left.left.now c.split_line.result.0.now
    c.split_line.result.1.now _
    more c.split_line.ensures.line c.split_line.ensures.afterwards c.in-Ended.ensures)

pub loop-left-smaller : goal.loop-left-smaller
loop-left-smaller c =
    let more : 0 < length c.loop-left.left.now = filled c.loop-left.left.now (sym c.is_empty.ensures ∙ c.loop-left-test.true) in
    let less = ap length c.split_line.ensures.afterwards in
    omega (arith, rest_after_line-less c.loop-left.left.now more)

pub loop-left-preserved : goal.loop-left-preserved
loop-left-preserved c =
    let more : 0 < length c.loop-left.left.now = filled c.loop-left.left.now (sym c.is_empty.ensures ∙ c.loop-left-test.true) in
    let less = ap length c.split_line.ensures.afterwards in
    record {
      same = elim c.match-sought.branch [
        | in-Entered w ↦ rw (w.found-is, w.ahead-is) (c.loop-left.invariant.same ∙ line_from-next c.args.header.now c.args.key.now (option_map numbered c.loop-left.found) c.loop-left.ahead c.loop-left.number c.loop-left.left.now c.split_line.result.0.now
            c.split_line.result.1.now _ more c.split_line.ensures.line c.split_line.ensures.afterwards w.in-Entered.ensures)
        | in-Ahead w ↦ rw (w.found-is, w.ahead-is) (c.loop-left.invariant.same ∙ line_from-next c.args.header.now c.args.key.now (option_map numbered c.loop-left.found) c.loop-left.ahead c.loop-left.number c.loop-left.left.now c.split_line.result.0.now
            c.split_line.result.1.now _ more c.split_line.ensures.line c.split_line.ensures.afterwards w.in-Ahead.ensures)
      ];
      number = omega (arith, rest_after_line-less c.loop-left.left.now more);
    }
