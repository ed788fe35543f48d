use Rattle.std.proofs.Common.{◌∙◌, ◌<◌, length, ap, sym, arith}
use Rattle.ngc_setup_sheet.proofs.LineSearch.{filled, rest_after_line-less, quote_from-next, quoted_at, unquoted}
use Rattle.ngc_setup_sheet.proofs.quoted.add_quote_from.Goals as goal

pub returns-in-Found : goal.returns-in-Found
returns-in-Found c =
    let more : 0 < length c.loop-left.left.now = filled c.loop-left.left.now (sym c.is_empty.ensures ∙ c.loop-left-test.true) in
    quoted_at _ _ _ _ _ c.loop-left.invariant.chunk c.add_line.ensures.text
    (c.loop-left.invariant.same
    ∙ quote_from-next c.args.header.now c.args.key.now c.loop-left.ahead c.loop-left.number c.loop-left.left.now c.split_line.result.0.now
    c.split_line.result.1.now _
    more c.split_line.ensures.line c.split_line.ensures.afterwards c.in-Found.ensures)

pub returns-in-Ended : goal.returns-in-Ended
returns-in-Ended c =
    let more : 0 < length c.loop-left.left.now = filled c.loop-left.left.now (sym c.is_empty.ensures ∙ c.loop-left-test.true) in
    unquoted _ _ _ c.loop-left.invariant.chunk
    (c.loop-left.invariant.same
    ∙ quote_from-next c.args.header.now c.args.key.now c.loop-left.ahead c.loop-left.number c.loop-left.left.now c.split_line.result.0.now
    c.split_line.result.1.now _
    more c.split_line.ensures.line c.split_line.ensures.afterwards c.in-Ended.ensures)

pub loop-left-smaller : goal.loop-left-smaller
loop-left-smaller c =
    let more : 0 < length c.loop-left.left.now = filled c.loop-left.left.now (sym c.is_empty.ensures ∙ c.loop-left-test.true) in
    let less = ap length c.split_line.ensures.afterwards in
    omega (arith, rest_after_line-less c.loop-left.left.now more)

pub loop-left-preserved : goal.loop-left-preserved
loop-left-preserved c =
    let more : 0 < length c.loop-left.left.now = filled c.loop-left.left.now (sym c.is_empty.ensures ∙ c.loop-left-test.true) in
    let less = ap length c.split_line.ensures.afterwards in
    record {
      chunk = c.loop-left.invariant.chunk;
      same =
          c.loop-left.invariant.same
          ∙ quote_from-next c.args.header.now c.args.key.now c.loop-left.ahead c.loop-left.number c.loop-left.left.now c.split_line.result.0.now
          c.split_line.result.1.now _
          more c.split_line.ensures.line c.split_line.ensures.afterwards c.in-Ahead.ensures;
      number = omega (arith, rest_after_line-less c.loop-left.left.now more);
    }
