use Rattle.std.proofs.Common.{◌∙◌, ap}
use Rattle.ngc_machine_figures.specs.Words.{padded}
use Rattle.ngc_machine_figures.proofs.Words.{taken}
use Rattle.ngc_machine_figures.proofs.key_word.KeyWord.of.Goals as goal

pub returns : goal.returns
returns c =
    rw c.as_bytes-key.ensures.value at c.whole.ensures
    ∙ ap padded (taken 40 c.min.result c.args.key.now (rw c.as_bytes-key.ensures.value at c.min.ensures))
