use Rattle.std.proofs.Common.{ap}
use Rattle.ngc_sentences.proofs.Said.{says_as, whole}
use Rattle.ngc_report.specs.Quotes.{marked}
use Rattle.ngc_report.proofs.source_lines.write_source_line.Goals as goal

pub returns : goal.returns
returns g c =
    let all = whole c.new-page.ensures (says_as c.say_marked.ensures (ap (marked c.args.form c.args.number c.args.column) c.source_line-bytes.ensures)) c.finish.ensures in
    record { ok = all.ok; fault = all.fault; counts = all.counts }
