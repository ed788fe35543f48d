use Rattle.std.proofs.Common.{rules, ◌<◌, length}
use Rattle.ngc_certificate_text.specs.Spelling.{entry_lines}
use Rattle.ngc_certificate_text.proofs.CollectedTexts.{one_more, stopped_at}
use Rattle.ngc_certificate_text.proofs.WrittenCertificate.{entry_there}
use Rattle.ngc_certificate_text.proofs.write.write_motions.Goals as goal

pub returns-in-Err-clause-text : goal.returns-in-Err-clause-text
returns-in-Err-clause-text g c =
    let entries = g.M.MotionList.entries c.args.motions.now in
    let inside : c.loop-i.i < length entries = rw (← c.count-i-end.ensures.value) c.loop-i-test.true in
    stopped_at entry_lines entries c.loop-i.i _ _ _ _ _ _ inside (entry_there entries c.loop-i.i inside) c.loop-i.invariant.front c.in-Err.ensures.text

pub loop-i-preserved : goal.loop-i-preserved
loop-i-preserved g c =
    let entries = g.M.MotionList.entries c.args.motions.now in
    let inside : c.loop-i.i < length entries = rw (← c.count-i-end.ensures.value) c.loop-i-test.true in
    record {
      front = one_more entry_lines entries c.loop-i.i _ _ _ _ _ _ _ inside (entry_there entries c.loop-i.i inside) c.loop-i.invariant.front
          c.in-Ok.ensures.text;
      failures = search rules;
    }
