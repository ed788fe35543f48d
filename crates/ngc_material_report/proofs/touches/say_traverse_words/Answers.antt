use Rattle.ngc_material_report.proofs.touches.say_traverse_words.Goals as goal

pub returns : goal.returns
returns g c = rw (c.sure_kind-kind.ensures, c.sure_found-found.ensures) at c.say_words.ensures
