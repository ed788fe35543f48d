use Rattle.ngc_sentences.proofs.Said.{says_as}
use Rattle.ngc_machine_maker.specs.Texts.{value_text}
use Rattle.ngc_machine_maker.proofs.line.say_value.Goals as goal

pub returns-in-Number : goal.returns-in-Number
unfolding value_text
returns-in-Number g c =
    rw (c.in-Number.is, ← c.from.ensures) c.say.ensures

pub returns-in-Rates : goal.returns-in-Rates
unfolding value_text
returns-in-Rates g c =
    rw c.in-Rates.is (says_as c.say-in-Rates.ensures c.rates.ensures)

pub returns-in-Place : goal.returns-in-Place
unfolding value_text
returns-in-Place g c =
    rw c.in-Place.is (says_as c.say-in-Place.ensures c.place.ensures)
