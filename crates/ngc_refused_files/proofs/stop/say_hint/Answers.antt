use Rattle.std.proofs.Common.{ap, sym}
use Rattle.ngc_sentences.proofs.Said.{says_as}
use Rattle.ngc_refused_files.specs.Stops.{hint_text}
use Rattle.ngc_refused_files.proofs.stop.say_hint.Goals as goal

pub returns-then-lacks : goal.returns-then-lacks
returns-then-lacks g c = says_as c.say.ensures (ap hint_text (sym c.if-lacks.true))
