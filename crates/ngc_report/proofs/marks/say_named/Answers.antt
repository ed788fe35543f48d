use Rattle.std.proofs.Common.{ap}
use Rattle.ngc_sentences.proofs.Said.{says_as, then}
use Rattle.ngc_report.specs.Marks.{mark_if, sentence}
use Rattle.ngc_report.proofs.marks.say_named.Goals as goal

pub returns : goal.returns
returns g c =
    then (says_as c.say_mark_if.ensures (ap (mark_if c.args.form c.args.number) c.mark_of.ensures))
    (says_as c.say_sentence.ensures (ap (sentence c.args.form c.args.fault.now) c.written_of.ensures))
