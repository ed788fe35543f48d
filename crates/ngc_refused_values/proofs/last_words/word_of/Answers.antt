-- The words are searched one by one.
use Rattle.std.proofs.Common.{◌∙◌, rules, tests}
use Rattle.std.proofs.lemmas.Iterator.{YieldsList-from_slice}
use Rattle.std.proofs.lemmas.Iterator.Search.{find_from_yields_List}
use Rattle.ngc_refused_values.specs.LastWords.{is_of}
use Rattle.ngc_refused_values.proofs.last_words.word_of.Goals as goal

pub returns : goal.returns
returns c =
    let e = find_from_yields_List (λ w. is_of c.args.kind c.args.line.now.tokens.items w) _ _ c.find.result c.find.ensures.ran
    (YieldsList-from_slice c.args.line.now.words.items cc) (λ x b q k. search (rules, tests)) in
    c.copied.ensures ∙ e
