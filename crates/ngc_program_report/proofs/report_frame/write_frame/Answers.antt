use Rattle.ngc_sentences.proofs.Said.{then, whole}
use Rattle.ngc_program_report.proofs.report_frame.write_frame.Goals as goal

pub returns : goal.returns
returns g c =
    let all = whole c.new-page.ensures (then c.say_beginning_if.ensures c.say_setting_if.ensures) c.finish.ensures in
    record { ok = all.ok; fault = all.fault; counts = all.counts }
