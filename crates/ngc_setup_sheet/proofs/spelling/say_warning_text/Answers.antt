use Rattle.ngc_sentences.proofs.Said.{says_as}
use Rattle.ngc_setup_sheet.specs.Spelling.{warning_text}
use Rattle.ngc_setup_sheet.proofs.spelling.say_warning_text.Goals as goal

pub returns-in-Speed : goal.returns-in-Speed
unfolding warning_text
returns-in-Speed g c = rw c.in-Speed.is c.say.ensures

pub returns-in-Acceleration : goal.returns-in-Acceleration
unfolding warning_text
returns-in-Acceleration g c = rw c.in-Acceleration.is c.say-in-Acceleration.ensures

pub returns-in-Arcs : goal.returns-in-Arcs
unfolding warning_text
returns-in-Arcs g c = rw c.in-Arcs.is c.say-in-Arcs.ensures

pub returns-in-OutOfReach : goal.returns-in-OutOfReach
unfolding warning_text
returns-in-OutOfReach g c = rw c.in-OutOfReach.is c.say-in-OutOfReach.ensures

pub returns-in-Origin : goal.returns-in-Origin
unfolding warning_text
returns-in-Origin g c = rw (c.in-Origin.is, ← c.system_name.ensures) c.say-in-Origin.ensures

pub returns-in-Travel : goal.returns-in-Travel
returns-in-Travel g c = rw c.in-Travel.is (says_as c.say-in-Travel.ensures c.short_travel.ensures)

pub returns-in-WrittenTurn : goal.returns-in-WrittenTurn
unfolding warning_text
returns-in-WrittenTurn g c = rw c.in-WrittenTurn.is c.say-in-WrittenTurn.ensures

pub returns-in-WrittenArcs : goal.returns-in-WrittenArcs
unfolding warning_text
returns-in-WrittenArcs g c = rw c.in-WrittenArcs.is c.say-in-WrittenArcs.ensures
