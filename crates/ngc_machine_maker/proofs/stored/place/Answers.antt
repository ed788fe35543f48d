use Rattle.std.proofs.Common.{length, sym, ◌∙◌}
use Rattle.ngc_machine_maker.specs.Stored.{place}
use Rattle.ngc_machine_maker.proofs.LineLaws.{no_bytes, place_end}
use Rattle.ngc_machine_maker.proofs.stored.place.Goals as goal

pub returns : goal.returns
unfolding place
returns c =
    let none = no_bytes (length c.loop-rest.rest.now) (sym c.loop-rest-test.false ∙ c.is_empty.ensures) in
    sym (place_end c.args.form c.args.stored c.loop-rest.at c.loop-rest.rest.now none) ∙ c.loop-rest.invariant.value
