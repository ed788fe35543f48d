use Rattle.std.proofs.Common.{sym, ◌∙◌}
use Rattle.ngc_certificate.proofs.WholeLine.{all_cuts}
use Rattle.ngc_certificate.proofs.derived.line_box.Goals as goal

pub returns-then-are_all : goal.returns-then-are_all
returns-then-are_all c =
    let whole = all_cuts c.args.step c.args.start.now c.args.end.now c.args.cuts.now.from c.args.cuts.now.to c.requires.step (sym c.if-are_all.ensures) in
    c.requires.whole ∙ sym whole
