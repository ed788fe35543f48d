use Rattle.ngc_certificate_text.proofs.JoinedFirst.{joined_is, joined_whole}
use Rattle.ngc_certificate_text.proofs.certificate.first_joined.Goals as goal

pub returns-clause-whole : goal.returns-clause-whole
returns-clause-whole g c =
    (joined_whole c.args.both c.count.result c.count-2.result (g.M.MotionList.entries c.args.off.now) (g.M.MotionList.entries c.args.on.now)
    c.in_ok-kinds.kinds.items c.requires c.count.ensures.value c.count-2.ensures.value c.in_ok-kinds.ensures).whole

pub returns-clause-items : goal.returns-clause-items
returns-clause-items g c =
    (joined_whole c.args.both c.count.result c.count-2.result (g.M.MotionList.entries c.args.off.now) (g.M.MotionList.entries c.args.on.now)
    c.in_ok-kinds.kinds.items c.requires c.count.ensures.value c.count-2.ensures.value c.in_ok-kinds.ensures).is

pub returns-clause-entries : goal.returns-clause-entries
returns-clause-entries g c =
    joined_is c.args.both (g.M.MotionList.entries c.args.off.now) (g.M.MotionList.entries c.args.on.now) c.requires c.count.ensures.are c.count-2.ensures.are

pub returns-in_err-kinds-clause-entries : goal.returns-in_err-kinds-clause-entries
returns-in_err-kinds-clause-entries g c =
    joined_is c.args.both (g.M.MotionList.entries c.args.off.now) (g.M.MotionList.entries c.args.on.now) c.requires c.count.ensures.are c.count-2.ensures.are
