use Rattle.std.proofs.Common.{ℕ, ap, ◌∙◌}
use Rattle.ngc_text.specs.Millimetres.{size_text}
use Rattle.ngc_sentences.proofs.Said.{says_as}
use Rattle.ngc_machine_maker.specs.File.{errors_text}
use Rattle.ngc_machine_maker.specs.Texts.{axes_text}
use Rattle.ngc_machine_maker.specs.declared.figures.PerAxis.{PerAxis}
use Rattle.ngc_machine_maker.proofs.file.say_errors.Goals as goal

pub returns : goal.returns
unfolding errors_text
returns g c =
    says_as c.say.ensures
    (c.sizes.ensures ∙ ap (λ (e : PerAxis ℕ). axes_text (size_text e.x) (size_text e.y) (size_text e.z)) c.errors.ensures)
