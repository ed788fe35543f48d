use Rattle.std.proofs.Common.{ap}
use Rattle.ngc_sentences.proofs.Said.{says_as, whole}
use Rattle.ngc_report.specs.Marks.{named_below}
use Rattle.ngc_report.proofs.marks.write_named.Goals as goal

pub returns : goal.returns
returns g c =
    let all = whole c.new-page.ensures (says_as c.say_named_if.ensures (ap (named_below c.args.form c.args.number c.args.fault.now) c.line_bytes-bytes.ensures)) c.finish.ensures in
    record { ok = all.ok; fault = all.fault; counts = all.counts }
