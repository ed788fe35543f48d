use Rattle.std.proofs.Common.{◌∙◌, arith, length-set}
use Rattle.ngc_machine_files.proofs.Trees.{nine_coordinates-length, nine-more, nine-all}
use Rattle.ngc_machine_files.proofs.machine_contents.nine.Goals as goal

pub returns-then-values-ne9 : goal.returns-then-values-ne9
returns-then-values-ne9 c = nine_coordinates-length c.args.values.now c.if-values-ne9.true

pub loop-i-preserved : goal.loop-i-preserved
loop-i-preserved c =
    let nine = c.loop-i.invariant.0 in (
      length-set _ _ _ ∙ nine,
      nine-more c.args.values.now c.loop-i.origins c.loop-i.i c.index-values-i.result c.in_ok-origins.field-0 c.loop-i-test.true
          (omega arith) c.index-values-i.is c.in_ok-origins.ensures c.loop-i.invariant.1,
    )

pub returns : goal.returns
returns c =
    nine-all c.args.values.now c.loop-i.origins c.loop-i.i c.loop-i-test.false c.if-values-ne9.false c.loop-i.invariant.0 c.loop-i.invariant.1
