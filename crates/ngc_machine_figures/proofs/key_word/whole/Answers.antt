use Rattle.ngc_machine_figures.proofs.Words.{padded_text}
use Rattle.ngc_machine_figures.proofs.key_word.whole.Goals as goal

pub returns : goal.returns
returns c = rw c.copy_from_slice.ensures.after (padded_text c.args.text.now)
