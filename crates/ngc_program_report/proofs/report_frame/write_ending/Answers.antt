use Rattle.ngc_sentences.proofs.Said.{says_as, then, whole}
use Rattle.ngc_program_report.proofs.report_frame.write_ending.Goals as goal

pub returns : goal.returns
returns g c =
    let all = whole c.new-page.ensures (then c.say_hint.ensures (says_as c.say.ensures c.closing.ensures)) c.finish.ensures in
    record { ok = all.ok; fault = all.fault; counts = all.counts }
