use Rattle.std.proofs.Common.{ap, sym, ◌∙◌}
use Rattle.ngc_fixed_length.specs.Boxes.{holds_box}
use Rattle.ngc_certificate.proofs.WholeLine.{all_cuts}
use Rattle.ngc_certificate.proofs.derived.covers_line.Goals as goal

pub returns-then-are_all : goal.returns-then-are_all
returns-then-are_all c =
    let whole = all_cuts c.args.step c.args.start.now c.args.end.now c.args.cuts.now.from c.args.cuts.now.to c.requires.step (sym c.if-are_all.ensures) in
    c.holds.ensures ∙ ap (holds_box c.args.outer.now) (c.requires.whole ∙ sym whole)
