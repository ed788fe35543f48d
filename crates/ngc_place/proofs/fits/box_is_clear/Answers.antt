use Rattle.std.proofs.Common.{ap, sym, ◌∙◌}
use Rattle.std.specs.Prelude.{◌&&◌}
use Rattle.std.specs.Option.{is_none}
use Rattle.ngc_machine_files.specs.Machine.{file_of}
use Rattle.ngc_collision.specs.Body.{first_met}
use Rattle.ngc_place.specs.Inside.{box_clear}
use Rattle.ngc_place.proofs.Tests.{none_is}
use Rattle.ngc_place.proofs.fits.box_is_clear.Goals as goal

pub returns-then-not-is_in_travel : goal.returns-then-not-is_in_travel
unfolding box_clear
returns-then-not-is_in_travel g c =
    ap (λ b. b && is_none (first_met (file_of c.args.machine.now) c.args.tool.now c.args.bounds.now)) (sym (sym c.is_in_travel.ensures ∙ c.if-not-is_in_travel.true))

pub returns : goal.returns
unfolding box_clear
returns g c =
    none_is c.first_met.result c.is_none.result c.is_none.ensures ∙ ap is_none c.first_met.ensures
    ∙ ap (λ b. b && is_none (first_met (file_of c.args.machine.now) c.args.tool.now c.args.bounds.now)) (sym (sym c.is_in_travel.ensures ∙ c.if-not-is_in_travel.false))
