use Rattle.std.proofs.Common.{ap, sym, ◌∙◌}
use Rattle.ngc_fixed_length.specs.Boxes.{holds_box}
use Rattle.ngc_arc_geometry.specs.CutArc.{cut_box}
use Rattle.ngc_certificate.specs.DerivedBox.{arc_box as box_of_arc}
use Rattle.ngc_certificate.proofs.SharedLaws.{box_is}
use Rattle.ngc_certificate.proofs.derived.covers_arc.Goals as goal

pub returns-in-Cut : goal.returns-in-Cut
returns-in-Cut c =
    let g = c.in-Cut.cut_arc in
    let large = sym c.is_large.ensures ∙ c.if-is_large.true in
    let box = box_is c.args.step c.args.arc.now c.args.stretch.now c.place_of.result g (sym c.in-Cut.is ∙ c.requires.shared) large in
    c.holds.ensures
    ∙ ap (holds_box c.args.outer.now) (c.cut_box.ensures.value ∙ ap (λ b. cut_box g.step g.arc b c.place_of.result) c.place_of-begin.ensures ∙ box)
    ∙ ap (λ q. holds_box c.args.outer.now (box_of_arc c.args.step c.args.arc.now c.args.stretch.now q)) c.place_of.ensures
