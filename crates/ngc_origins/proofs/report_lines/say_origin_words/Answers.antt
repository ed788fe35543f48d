use Rattle.std.proofs.Common.{◌+◌, refl, arith, ap, drop, rules}
use Rattle.ngc_sentences.proofs.Said.{all_left, less_left, none_left, says_as}
use Rattle.ngc_origins.specs.Lines.{origin_words, line_of, lines_from}
use Rattle.ngc_origins.proofs.RemainingLines.{next_line, no_line}
use Rattle.ngc_origins.proofs.report_lines.say_origin_words.Goals as goal

pub loop-i-init : goal.loop-i-init
loop-i-init g c = record {
  left = all_left _ _ _ refl;
  nine = c.systems-origin-items.ensures.nine;
}

pub loop-i-preserved : goal.loop-i-preserved
loop-i-preserved g c =
    let items = c.systems-origin-items.result.now in
    record {
      left = less_left (line_of origin_words c.loop-i.i c.origin-item.result) (lines_from origin_words (c.loop-i.i + 1) (drop (c.loop-i.i + 1) items))
          (next_line origin_words items c.loop-i.i c.origin-item.result (omega (arith, c.loop-i-test.true, c.loop-i.invariant.nine)) c.origin-item.is)
          c.loop-i.invariant.left (search rules);
      nine = c.loop-i.invariant.nine;
    }

pub returns : goal.returns
returns g c =
    let items = c.systems-origin-items.result.now in
    says_as (none_left (no_line origin_words items c.loop-i.i (omega (arith, c.loop-i-test.false, c.loop-i.invariant.nine))) c.loop-i.invariant.left)
    (ap (lines_from origin_words 0) c.systems-origin-items.ensures.list)
