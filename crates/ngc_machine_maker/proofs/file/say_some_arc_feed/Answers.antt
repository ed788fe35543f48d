use Rattle.ngc_sentences.proofs.Said.{then}
use Rattle.ngc_machine_maker.specs.File.{arc_feed_comment}
use Rattle.ngc_machine_maker.proofs.file.say_some_arc_feed.Goals as goal

pub returns : goal.returns
unfolding arc_feed_comment
returns g c =
    then c.say.ensures c.say_line.ensures
