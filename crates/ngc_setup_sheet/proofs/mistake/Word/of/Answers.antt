use Rattle.std.proofs.Common.{◌∙◌}
use Rattle.ngc_text.proofs.ListPrefixes.{taken}
use Rattle.ngc_setup_sheet.proofs.mistake.Word.of.Goals as goal

pub returns : goal.returns
returns c =
    rw c.as_bytes-key.ensures.value at c.whole.ensures
    ∙ taken 64 c.min.result c.args.key.now (rw c.as_bytes-key.ensures.value at c.min.ensures)
