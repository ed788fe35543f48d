use Rattle.ngc_machine_maker.specs.Sentences.{field_text}
use Rattle.ngc_machine_maker.proofs.sentences.say_field.Goals as goal

pub returns-in-Steps : goal.returns-in-Steps
unfolding field_text
returns-in-Steps g c =
    rw c.in-Steps.is c.say.ensures

pub returns-in-Travel : goal.returns-in-Travel
unfolding field_text
returns-in-Travel g c =
    rw c.in-Travel.is c.say-in-Travel.ensures

pub returns-in-Feed : goal.returns-in-Feed
unfolding field_text
returns-in-Feed g c =
    rw c.in-Feed.is c.say-in-Feed.ensures

pub returns-in-Acceleration : goal.returns-in-Acceleration
unfolding field_text
returns-in-Acceleration g c =
    rw c.in-Acceleration.is c.say-in-Acceleration.ensures

pub returns-in-Frame : goal.returns-in-Frame
unfolding field_text
returns-in-Frame g c =
    rw c.in-Frame.is c.say-in-Frame.ensures

pub returns-in-Corner : goal.returns-in-Corner
unfolding field_text
returns-in-Corner g c =
    rw c.in-Corner.is c.say-in-Corner.ensures

pub returns-in-Jump : goal.returns-in-Jump
unfolding field_text
returns-in-Jump g c =
    rw c.in-Jump.is c.say-in-Jump.ensures

pub returns-in-Arcs : goal.returns-in-Arcs
unfolding field_text
returns-in-Arcs g c =
    rw c.in-Arcs.is c.say-in-Arcs.ensures

pub returns-in-Ticks : goal.returns-in-Ticks
unfolding field_text
returns-in-Ticks g c =
    rw c.in-Ticks.is c.say-in-Ticks.ensures

pub returns-in-Ring : goal.returns-in-Ring
unfolding field_text
returns-in-Ring g c =
    rw c.in-Ring.is c.say-in-Ring.ensures

pub returns-in-Stop : goal.returns-in-Stop
unfolding field_text
returns-in-Stop g c =
    rw (c.in-Stop.is, ← c.stop_name.ensures) c.say_named.ensures
