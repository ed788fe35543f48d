use Rattle.ngc_sentences.proofs.Said.{whole}
use Rattle.ngc_machine_files.specs.Machine.{file_of}
use Rattle.ngc_line_reader.specs.ProgramView.{text_in}
use Rattle.ngc_word_warnings.proofs.MistakeSteps.{all_lines}
use Rattle.ngc_word_warnings.proofs.written.write_word_warnings.Goals as goal

pub returns : goal.returns
returns g c =
    let lines = all_lines c.args.form c.args.tools.now c.args.deletes (file_of c.args.machine.now) c.args.commands.now (text_in c.args.program.now).lines
    c.slips_of-found.result c.slips_of-found.ensures in
    let all = whole c.new-page.ensures (rw lines at c.say_all.ensures) c.finish.ensures in
    record { ok = all.ok; fault = all.fault; counts = all.counts }
