-- The number of bytes at the beginning of a text.
use Rattle.std.proofs.lemmas.List.Folds.{length-prefix_len}

pub ruleset counted = length-prefix_len
