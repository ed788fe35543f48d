use Rattle.ngc_sentences.proofs.Said.{then}
use Rattle.ngc_report.specs.Quotes.{marked}
use Rattle.ngc_report.proofs.source_lines.say_marked.Goals as goal

pub returns-in-Some : goal.returns-in-Some
unfolding marked
returns-in-Some g c =
    rw c.in-Some.is (then c.say_quote.ensures c.say_mark.ensures)
