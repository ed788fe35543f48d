use Rattle.std.proofs.Common.{◌∙◌, ap}
use Rattle.std.proofs.lemmas.List.{take_all}
use Rattle.std.specs.Prelude.{map}
use Rattle.ngc_text.specs.Shown.{shown}
use Rattle.ngc_text.proofs.ListPrefixes.{taken}
use Rattle.ngc_text.proofs.shown.shown_bytes.Goals as goal

pub returns-clause-text : goal.returns-clause-text
returns-clause-text c =
    c.loop-byte.invariant ∙ ap (map shown) (take_all c.loop-byte.byte-index _ c.loop-byte-test.false ∙ taken 256 c.min.result c.args.bytes.now c.min.ensures)
