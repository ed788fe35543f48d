use Rattle.std.proofs.Common.{length, sym, ◌∙◌}
use Rattle.ngc_machine_maker.specs.Grbl.{setting}
use Rattle.ngc_machine_maker.proofs.LineLaws.{no_bytes, setting_end}
use Rattle.ngc_machine_maker.proofs.grbl.setting.Goals as goal

pub returns : goal.returns
unfolding setting
returns c =
    let none = no_bytes (length c.loop-rest.rest.now) (sym c.loop-rest-test.false ∙ c.is_empty.ensures) in
    sym (setting_end c.args.number c.args.places c.loop-rest.at c.loop-rest.rest.now none) ∙ c.loop-rest.invariant.value
