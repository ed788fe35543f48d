use Rattle.ngc_report.proofs.marks.say_no_feed.Goals as goal

pub returns : goal.returns
returns g c =
    c.say.ensures
