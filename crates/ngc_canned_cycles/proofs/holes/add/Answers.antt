use Rattle.std.proofs.lemmas.List.{length_push}
use Rattle.ngc_canned_cycles.proofs.holes.add.Goals as goal

pub returns-clause-items : goal.returns-clause-items
returns-clause-items g c = c.push_reserved.ensures.items

pub returns-clause-len : goal.returns-clause-len
returns-clause-len g c = rw c.push_reserved.ensures.items (length_push c.args.moves.now.items _)
