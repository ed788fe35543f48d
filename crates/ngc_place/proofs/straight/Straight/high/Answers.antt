use Rattle.std.proofs.Common.{ap, ap₂, sym, ◌∙◌}
use Rattle.ngc_fixed_length.specs.Boxes.{greater_corner}
use Rattle.ngc_fixed_length.specs.declared.points.GridBox.{GridBox}
use Rattle.ngc_collision.specs.Inside.{place_of}
use Rattle.ngc_certificate.proofs.WholeLine.{all_cuts}
use Rattle.ngc_place.proofs.straight.Straight.high.Goals as goal

pub returns-then-is_whole : goal.returns-then-is_whole
returns-then-is_whole c =
    c.greater.ensures ∙ ap₂ greater_corner c.to_grid.ensures c.to_grid-then-is_whole.ensures
    ∙ sym (ap (λ (b : GridBox). b.high) (all_cuts c.args.step (place_of c.args.self.now.start) (place_of c.args.self.now.end) c.args.cuts.now.from c.args.cuts.now.to
    c.requires.step (sym c.is_whole.ensures ∙ c.if-is_whole.true)))
