use Rattle.ngc_sentences.proofs.Said.{says_as, whole}
use Rattle.ngc_plain_program.proofs.Lines.{all_text}
use Rattle.ngc_plain_program.proofs.printing.write_lines.Goals as goal

pub returns : goal.returns
returns g c =
    let all = whole c.new-page.ensures (says_as c.say_lines.ensures (all_text c.args.lines.now)) c.finish.ensures in
    record { ok = all.ok; fault = all.fault; counts = all.counts }
