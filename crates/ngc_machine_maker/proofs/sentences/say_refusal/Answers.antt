use Rattle.ngc_machine_maker.specs.Sentences.{refusal_text}
use Rattle.ngc_machine_maker.proofs.sentences.say_refusal.Goals as goal

pub returns-in-Unread : goal.returns-in-Unread
unfolding refusal_text
returns-in-Unread g c =
    rw c.in-Unread.is c.say_field.ensures

pub returns-in-Step : goal.returns-in-Step
unfolding refusal_text
returns-in-Step g c =
    rw c.in-Step.is c.say.ensures

pub returns-in-Ticks : goal.returns-in-Ticks
unfolding refusal_text
returns-in-Ticks g c =
    rw c.in-Ticks.is c.say-in-Ticks.ensures

pub returns-in-Ring : goal.returns-in-Ring
unfolding refusal_text
returns-in-Ring g c =
    rw c.in-Ring.is c.say-in-Ring.ensures

pub returns-in-SlowCorner : goal.returns-in-SlowCorner
unfolding refusal_text
returns-in-SlowCorner g c =
    rw c.in-SlowCorner.is c.say-in-SlowCorner.ensures

pub returns-in-LowAcceleration : goal.returns-in-LowAcceleration
unfolding refusal_text
returns-in-LowAcceleration g c =
    rw c.in-LowAcceleration.is c.say-in-LowAcceleration.ensures

pub returns-in-LowArcs : goal.returns-in-LowArcs
unfolding refusal_text
returns-in-LowArcs g c =
    rw c.in-LowArcs.is c.say-in-LowArcs.ensures

pub returns-in-UnequalSteps : goal.returns-in-UnequalSteps
unfolding refusal_text
returns-in-UnequalSteps g c =
    rw c.in-UnequalSteps.is c.say_unequal.ensures

pub returns-in-SlowFeed : goal.returns-in-SlowFeed
unfolding refusal_text
returns-in-SlowFeed g c =
    rw (c.in-SlowFeed.is, ← c.axis_name.ensures) c.say_named.ensures

pub returns-in-FastFeed : goal.returns-in-FastFeed
unfolding refusal_text
returns-in-FastFeed g c =
    rw (c.in-FastFeed.is, ← c.axis_name-in-FastFeed.ensures) c.say_named-in-FastFeed.ensures

pub returns-in-Travel : goal.returns-in-Travel
unfolding refusal_text
returns-in-Travel g c =
    rw (c.in-Travel.is, ← c.axis_name-in-Travel.ensures) c.say_named-in-Travel.ensures

pub returns-in-FarTravel : goal.returns-in-FarTravel
unfolding refusal_text
returns-in-FarTravel g c =
    rw (c.in-FarTravel.is, ← c.axis_name-in-FarTravel.ensures) c.say_named-in-FarTravel.ensures

pub returns-in-Outside : goal.returns-in-Outside
unfolding refusal_text
returns-in-Outside g c =
    rw c.in-Outside.is c.say_outside.ensures

pub returns-in-Missing : goal.returns-in-Missing
unfolding refusal_text
returns-in-Missing g c =
    rw c.in-Missing.is c.say_missing.ensures

pub returns-in-Setting : goal.returns-in-Setting
unfolding refusal_text
returns-in-Setting g c =
    rw c.in-Setting.is c.say_value.ensures

pub returns-in-Negative : goal.returns-in-Negative
unfolding refusal_text
returns-in-Negative g c =
    rw c.in-Negative.is c.say_value-in-Negative.ensures

pub returns-in-Digits : goal.returns-in-Digits
unfolding refusal_text
returns-in-Digits g c =
    rw c.in-Digits.is c.say_value-in-Digits.ensures

pub returns-in-FarPlace : goal.returns-in-FarPlace
unfolding refusal_text
returns-in-FarPlace g c =
    rw c.in-FarPlace.is c.say_place-in-FarPlace.ensures

pub returns-in-Place : goal.returns-in-Place
unfolding refusal_text
returns-in-Place g c =
    rw c.in-Place.is c.say_place.ensures
