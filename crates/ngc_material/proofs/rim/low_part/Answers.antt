use Rattle.std.proofs.Common.{arith, ap, length, List}
use Rattle.ngc_machine_files.specs.declared.parts.Part.{Part}
use Rattle.ngc_material.specs.declared.touch.Probe.{Probe}
use Rattle.ngc_material.proofs.Rims.{foot_above, one_above}
use Rattle.ngc_material.proofs.Uppers.{next_upper}
use Rattle.ngc_material.proofs.rim.low_part.Goals as goal

pub loop-part-preserved : goal.loop-part-preserved
loop-part-preserved c =
    let s = c.args.stock.now in
    let t = c.args.tool.now in
    let u = c.loop-part.upper in
    let v = c.loop-part.invariant in
    let size = ap (λ (l : List Part). length l) c.as_slice-part-end.ensures.parts in
    record {
      some = omega arith;
      lower = one_above s t u c.args.arc.now c.loop-part.part (omega (arith, c.loop-part-test.true, c.loop-part.auto.part-end, size)) v.upper
          (foot_above s c.lowest_part.result _ c.args.arc.now c.lower_end.result c.end_probe-probe.result.limit c.lowest_part.ensures c.lower_end.ensures
          (ap (λ (p : Probe). p.limit) c.end_probe-probe.ensures) (omega (arith, c.if-probe-stock.false)))
          v.lower;
      upper = λ less. next_upper t u c.above-upper-in-loop-part.result c.loop-part.part v.upper c.above-upper-in-loop-part.ensures less;
    }
