use Rattle.ngc_sentences.proofs.Said.{then, says_as}
use Rattle.ngc_setup_sheet.specs.Spelling.{figure_text}
use Rattle.ngc_setup_sheet.proofs.spelling.say_figure.Goals as goal

pub returns-in-Part : goal.returns-in-Part
unfolding figure_text
returns-in-Part g c =
    rw c.in-Part.is (then (then (says_as c.say-in-Part.ensures c.span-in-Part.ensures) c.say-in-Part-2.ensures) c.say_length-in-Part.ensures)

pub returns-in-AnyWay : goal.returns-in-AnyWay
unfolding figure_text
returns-in-AnyWay g c = rw c.in-AnyWay.is c.say-in-AnyWay.ensures

pub returns-in-Turning : goal.returns-in-Turning
unfolding figure_text
returns-in-Turning g c = rw c.in-Turning.is (then c.say_limits.ensures c.say-in-Turning.ensures)

pub returns-in-Feeds : goal.returns-in-Feeds
unfolding figure_text
returns-in-Feeds g c = rw c.in-Feeds.is (then c.say_limits-in-Feeds.ensures c.say-in-Feeds.ensures)
