use Rattle.ngc_sentences.proofs.Said.{then, whole}
use Rattle.ngc_tool_figures.proofs.written.write_tool_figures.Goals as goal

pub returns : goal.returns
returns g c =
    let all = whole c.new-page.ensures (then c.say_one.ensures c.say_tools.ensures) c.finish.ensures in
    record { ok = all.ok; fault = all.fault; counts = all.counts }
