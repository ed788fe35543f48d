use Rattle.std.proofs.Common.{◌∙◌, ap}
use Rattle.std.specs.Option.{option_or}
use Rattle.ngc_machine_figures.specs.Near.{meant, nearest}
use Rattle.ngc_machine_figures.proofs.near.meant.Goals as goal

pub returns-in-None : goal.returns-in-None
unfolding meant
returns-in-None c =
    rw c.as_bytes-word.ensures.value at (c.nearest.ensures ∙ ap (λ o. option_or o (nearest c.as_bytes-word.result.now c.args.keys.now)) c.in-None.ensures)
