use Rattle.std.proofs.Common.{arith, ap, length, List}
use Rattle.ngc_machine_files.specs.declared.parts.Part.{Part}
use Rattle.ngc_material.proofs.Uppers.{next_upper, one_lower}
use Rattle.ngc_material.proofs.touch.upper_touch.Goals as goal

pub loop-part-preserved : goal.loop-part-preserved
loop-part-preserved c =
    let s = c.args.stock.now in
    let t = c.args.tool.now in
    let u = c.loop-part.upper in
    let a = c.args.line.now.start in
    let b = c.args.line.now.end in
    let v = c.loop-part.invariant in
    let size = ap (λ (l : List Part). length l) c.as_slice-part-end.ensures.parts in
    record {
      some = omega arith;
      lower = one_lower s t u a b c.args.heights.now c.loop-part.part
          (omega (arith, c.loop-part-test.true, c.loop-part.auto.part-end, size)) v.upper (rw c.lowest_part.ensures at c.in_default.ensures.none) v.lower;
      upper = λ less. next_upper t u c.above-upper-in-loop-part.result c.loop-part.part v.upper c.above-upper-in-loop-part.ensures less;
    }
