use Rattle.std.proofs.Common.{ap, sym, ◌∙◌}
use Rattle.ngc_certificate_text.specs.Certificate.{entry_at}
use Rattle.ngc_certificate.specs.Common.{way_at}
use Rattle.ngc_certificate.proofs.AlikeLaws.{are_alike, one_way}
use Rattle.ngc_certificate.proofs.joiner.are_alike.Goals as goal

pub returns-then-same_way-clause-yes : goal.returns-then-same_way-clause-yes
returns-then-same_way-clause-yes g c = λ is.
    are_alike c.args.off.now c.args.on.now (entry_at (g.M.MotionList.entries c.args.off_motions.now) c.args.i)
    (entry_at (g.M.MotionList.entries c.args.on_motions.now) c.args.i) c.in-Some-Some.off_way c.in-Some-Some.on_way c.command_index.result
    c.command_index-2.result
    c.command_index.ensures c.command_index-2.ensures c.in-Some-Some.ensures c.in-Some-Some.ensures'
    (c.same_way.ensures.yes c.if-same_way.true) (c.same_cuts.ensures.yes is)

pub returns-then-same_way-clause-no : goal.returns-then-same_way-clause-no
returns-then-same_way-clause-no g c = λ differ alike. c.same_cuts.ensures.no differ alike.pieces

pub returns-else-same_way-clause-no : goal.returns-else-same_way-clause-no
returns-else-same_way-clause-no g c = λ differ alike.
    let a = entry_at (g.M.MotionList.entries c.args.off_motions.now) c.args.i in
    let b = entry_at (g.M.MotionList.entries c.args.on_motions.now) c.args.i in
    c.same_way.ensures.no differ
    (one_way c.args.off.now c.args.on.now a b c.in-Some-Some.off_way c.in-Some-Some.on_way
    (ap (way_at c.args.off.now) (sym c.command_index.ensures) ∙ sym c.in-Some-Some.ensures)
    (ap (way_at c.args.on.now) (sym c.command_index-2.ensures) ∙ sym c.in-Some-Some.ensures') alike)
