-- The number of leading bytes of one kind.
use Rattle.std.proofs.lemmas.List.Folds.{length-prefix_len}

pub ruleset counted = length-prefix_len
