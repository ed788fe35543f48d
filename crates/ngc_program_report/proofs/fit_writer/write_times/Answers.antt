use Rattle.std.proofs.Common.{ap}
use Rattle.ngc_sentences.proofs.Said.{says_as, then, whole}
use Rattle.ngc_program_report.specs.Texts.{takes_line}
use Rattle.ngc_program_report.specs.Times.{ProgramTimeData}
use Rattle.ngc_program_report.proofs.fit_writer.write_times.Goals as goal

pub returns : goal.returns
returns g c =
    let line = ap (λ (t : ProgramTimeData). takes_line c.args.form t.whole) c.time.view_is in
    let all = whole c.new-page.ensures (then (says_as c.say_takes_line.ensures line) c.say_use_times.ensures) c.finish.ensures in
    record { ok = all.ok; fault = all.fault; counts = all.counts }
