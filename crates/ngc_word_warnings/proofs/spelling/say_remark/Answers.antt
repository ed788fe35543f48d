use Rattle.ngc_word_warnings.proofs.spelling.say_remark.Goals as goal

pub returns-in-OtherOffset : goal.returns-in-OtherOffset
returns-in-OtherOffset g c = rw (c.in-OtherOffset.is, ← c.length-in-OtherOffset.ensures, ← c.from.ensures) c.say-in-OtherOffset.ensures

pub returns-in-NoOffset : goal.returns-in-NoOffset
returns-in-NoOffset g c = rw (c.in-NoOffset.is, ← c.from-in-NoOffset.ensures) c.say-in-NoOffset.ensures

pub returns-in-StaleOffset : goal.returns-in-StaleOffset
returns-in-StaleOffset g c = rw (c.in-StaleOffset.is, ← c.length-in-StaleOffset.ensures, ← c.from-in-StaleOffset.ensures) c.say-in-StaleOffset.ensures

pub returns-in-PartHome : goal.returns-in-PartHome
returns-in-PartHome g c = rw c.in-PartHome.is c.say-in-PartHome.ensures
