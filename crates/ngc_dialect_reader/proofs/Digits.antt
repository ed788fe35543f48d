-- The number of leading digits.
use Rattle.std.proofs.lemmas.List.Folds.{length-prefix_len}
use Rattle.std.proofs.lemmas.List.Sums.{fold_more, prefix_len-drop_yes, prefix_len-drop_no}

pub ruleset counted = length-prefix_len

pub ruleset digits_counted = (length-prefix_len, prefix_len-drop_yes, prefix_len-drop_no, fold_more)
