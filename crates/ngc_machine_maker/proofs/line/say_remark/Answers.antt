use Rattle.ngc_sentences.proofs.Said.{says_as}
use Rattle.ngc_machine_maker.specs.Texts.{remark_text}
use Rattle.ngc_machine_maker.proofs.line.say_remark.Goals as goal

pub returns-in-Step : goal.returns-in-Step
unfolding remark_text
returns-in-Step g c =
    rw c.in-Step.is c.say_step.ensures

pub returns-in-Ticks : goal.returns-in-Ticks
unfolding remark_text
returns-in-Ticks g c =
    rw c.in-Ticks.is c.say.ensures

pub returns-in-Speed : goal.returns-in-Speed
unfolding remark_text
returns-in-Speed g c =
    rw c.in-Speed.is c.say_rounded.ensures

pub returns-in-Speeds : goal.returns-in-Speeds
unfolding remark_text
returns-in-Speeds g c =
    rw c.in-Speeds.is (says_as c.say-in-Speeds.ensures c.speeds.ensures)

pub returns-in-Acceleration : goal.returns-in-Acceleration
unfolding remark_text
returns-in-Acceleration g c =
    rw c.in-Acceleration.is c.say_rounded-in-Acceleration.ensures

pub returns-in-Arcs : goal.returns-in-Arcs
unfolding remark_text
returns-in-Arcs g c =
    rw c.in-Arcs.is c.say_rounded-in-Arcs.ensures

pub returns-in-ArcsByPlace : goal.returns-in-ArcsByPlace
unfolding remark_text
returns-in-ArcsByPlace g c =
    rw c.in-ArcsByPlace.is c.say_rounded-in-ArcsByPlace.ensures

pub returns-in-Ring : goal.returns-in-Ring
unfolding remark_text
returns-in-Ring g c =
    rw c.in-Ring.is c.say-in-Ring.ensures

pub returns-in-ArcFeed : goal.returns-in-ArcFeed
unfolding remark_text
returns-in-ArcFeed g c =
    rw c.in-ArcFeed.is c.say-in-ArcFeed.ensures

pub returns-in-Place : goal.returns-in-Place
unfolding remark_text
returns-in-Place g c =
    rw c.in-Place.is (says_as c.say-in-Place.ensures c.coordinates.ensures)
