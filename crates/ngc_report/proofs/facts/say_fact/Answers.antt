use Rattle.ngc_sentences.proofs.Said.{says_as}
use Rattle.ngc_report.specs.Facts.{line_fact}
use Rattle.ngc_report.proofs.facts.say_fact.Goals as goal

pub returns-in-Refused : goal.returns-in-Refused
unfolding line_fact
returns-in-Refused g c =
    rw c.in-Refused.is c.say.ensures

pub returns-in-Fits : goal.returns-in-Fits
unfolding line_fact
returns-in-Fits g c =
    rw c.in-Fits.is c.say_verdict.ensures

pub returns-in-Along : goal.returns-in-Along
unfolding line_fact
returns-in-Along g c =
    rw c.in-Along.is (says_as c.say-in-Along.ensures c.along.ensures)

pub returns-in-Use : goal.returns-in-Use
unfolding line_fact
returns-in-Use g c =
    rw c.in-Use.is c.say_use.ensures

pub returns-in-Near : goal.returns-in-Near
unfolding line_fact
returns-in-Near g c =
    rw c.in-Near.is c.say_nearest.ensures

pub returns-in-Start : goal.returns-in-Start
unfolding line_fact
returns-in-Start g c =
    rw c.in-Start.is c.say_start.ensures

pub returns-in-Command : goal.returns-in-Command
unfolding line_fact
returns-in-Command g c =
    rw c.in-Command.is c.say_command.ensures

pub returns-in-InTheWay : goal.returns-in-InTheWay
unfolding line_fact
returns-in-InTheWay g c =
    rw c.in-InTheWay.is c.say_obstacle.ensures

pub returns-in-Clear : goal.returns-in-Clear
unfolding line_fact
returns-in-Clear g c =
    rw c.in-Clear.is c.say_clearing.ensures

pub returns-in-Warned : goal.returns-in-Warned
unfolding line_fact
returns-in-Warned g c =
    rw c.in-Warned.is (says_as c.say-in-Warned.ensures c.warning.ensures)
