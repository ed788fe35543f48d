-- The words are searched one by one.
use Rattle.std.proofs.Common.{◌∙◌, rules, tests}
use Rattle.std.proofs.lemmas.Iterator.{YieldsList-from_slice}
use Rattle.std.proofs.lemmas.Iterator.Search.{find_from_yields_List}
use Rattle.ngc_word_warnings.specs.Words.{has_letter}
use Rattle.ngc_word_warnings.proofs.said.word_with.Goals as goal

pub returns : goal.returns
returns c =
    let e = find_from_yields_List (λ w. has_letter c.args.letter w) _ _ c.find.result c.find.ensures.ran
    (YieldsList-from_slice c.args.line.now.words.items cc) (λ x b q k. search (rules, tests)) in
    c.copied.ensures ∙ e
