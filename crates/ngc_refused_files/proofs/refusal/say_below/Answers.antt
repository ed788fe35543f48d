use Rattle.ngc_sentences.proofs.Said.{no_text, says_as}
use Rattle.ngc_refused_files.proofs.Unshown.{unshown}
use Rattle.ngc_refused_files.proofs.refusal.say_below.Goals as goal

pub returns-else-is_short : goal.returns-else-is_short
returns-else-is_short g c = says_as (no_text _ _ _) (unshown _ _ _ c.is_short.ensures c.if-is_short.false)
