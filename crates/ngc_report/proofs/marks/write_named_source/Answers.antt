use Rattle.std.proofs.Common.{ap}
use Rattle.ngc_sentences.proofs.Said.{says_as, whole}
use Rattle.ngc_report.specs.Marks.{named_quote}
use Rattle.ngc_report.proofs.marks.write_named_source.Goals as goal

pub returns : goal.returns
returns g c =
    let all = whole c.new-page.ensures (says_as c.say_named_quote.ensures (ap (named_quote c.args.form c.args.number c.args.fault.now) c.source_line-bytes.ensures)) c.finish.ensures in
    record { ok = all.ok; fault = all.fault; counts = all.counts }
