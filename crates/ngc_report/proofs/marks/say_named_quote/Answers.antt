use Rattle.ngc_sentences.proofs.Said.{then}
use Rattle.ngc_report.proofs.marks.say_named_quote.Goals as goal

pub returns-in-Some : goal.returns-in-Some
returns-in-Some g c =
    rw c.in-Some.is (then c.say_quote.ensures c.say_named.ensures)
