use Rattle.std.proofs.Common.{◌∙◌, ◌<◌, length, ap, sym, arith}
use Rattle.ngc_file_lines.proofs.Steps.{filled, rest_after_line-less, place_from-here, place_from-later}
use Rattle.std.proofs.lemmas.Bool.{le-leb, lt-leb}
use Rattle.ngc_file_lines.proofs.place.place_after.Goals as goal

pub returns-then-before-text : goal.returns-then-before-text
returns-then-before-text c =
    let more : 0 < length c.loop-left.left.now = filled c.loop-left.left.now (sym c.is_empty.ensures ∙ c.loop-left-test.true) in
    sym (c.loop-left.invariant.same
    ∙ place_from-here c.loop-left.number c.loop-left.before c.loop-left.left.now c.split_line.result.0.now c.split_line.result.1.now
    more c.split_line.ensures.line c.split_line.ensures.afterwards (le-leb _ _ c.if-before-text.true))

pub loop-left-smaller : goal.loop-left-smaller
loop-left-smaller c =
    let more : 0 < length c.loop-left.left.now = filled c.loop-left.left.now (sym c.is_empty.ensures ∙ c.loop-left-test.true) in
    let less = ap length c.split_line.ensures.afterwards in
    omega (arith, rest_after_line-less c.loop-left.left.now more)

pub loop-left-preserved : goal.loop-left-preserved
loop-left-preserved c =
    let more : 0 < length c.loop-left.left.now = filled c.loop-left.left.now (sym c.is_empty.ensures ∙ c.loop-left-test.true) in
    let less = ap length c.split_line.ensures.afterwards in
    record {
      same = c.loop-left.invariant.same
          ∙ place_from-later c.loop-left.number c.loop-left.before c.loop-left.left.now c.split_line.result.0.now c.split_line.result.1.now
          more c.split_line.ensures.line c.split_line.ensures.afterwards (lt-leb _ _ c.if-before-text.false);
      number = omega (arith, rest_after_line-less c.loop-left.left.now more);
    }
