use Rattle.std.proofs.Common.{ap}
use Rattle.ngc_sentences.proofs.Said.{says_as, whole}
use Rattle.ngc_report.specs.Quotes.{quote}
use Rattle.ngc_report.proofs.source_lines.write_text_line.Goals as goal

pub returns : goal.returns
returns g c =
    let all = whole c.new-page.ensures (says_as c.say_quote_if.ensures (ap (quote c.args.form c.args.number) c.source_line.ensures)) c.finish.ensures in
    record { ok = all.ok; fault = all.fault; counts = all.counts }
