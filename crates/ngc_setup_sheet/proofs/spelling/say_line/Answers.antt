use Rattle.ngc_sentences.proofs.Said.{then, says_as}
use Rattle.ngc_setup_sheet.proofs.spelling.say_line.Goals as goal

pub returns-in-Fact : goal.returns-in-Fact
returns-in-Fact g c =
    rw c.in-Fact.is (then (then (says_as c.say-in-Fact.ensures c.fact.ensures) c.say_figure.ensures) c.say-in-Fact-2.ensures)

pub returns-in-WarningFact : goal.returns-in-WarningFact
returns-in-WarningFact g c = rw c.in-WarningFact.is c.say_warning-in-WarningFact.ensures
