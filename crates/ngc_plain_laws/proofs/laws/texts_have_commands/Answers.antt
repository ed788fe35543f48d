use Rattle.ngc_plain_laws.proofs.TextMeanings.{texts_have_commands}
use Rattle.ngc_plain_laws.proofs.laws.texts_have_commands.Goals as goal

pub returns : goal.returns
returns c = texts_have_commands
