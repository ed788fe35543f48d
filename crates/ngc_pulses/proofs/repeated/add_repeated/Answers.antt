use Rattle.std.proofs.Common.{◌++◌, ap, ◌∙◌}
use Rattle.std.proofs.lemmas.List.{take-replicate}
use Rattle.ngc_pulses.proofs.repeated.add_repeated.Goals as goal

pub returns : goal.returns
returns c = c.add_text.ensures ∙ ap (λ l. c.args.chunk.now ++ l) (take-replicate c.args.count 512 c.args.byte c.requires.few)
