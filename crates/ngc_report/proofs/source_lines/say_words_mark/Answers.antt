use Rattle.std.proofs.Common.{ℕ, List, ◌++◌, ap, codes, replicate, ◌∙◌}
use Rattle.std.proofs.lemmas.List.{take-replicate}
use Rattle.ngc_sentences.proofs.Said.{says_as}
use Rattle.ngc_report.specs.Quotes.{words_mark}
use Rattle.ngc_report.proofs.source_lines.say_words_mark.Goals as goal

pub returns : goal.returns
unfolding words_mark
returns g c =
    let spaces = take-replicate c.indent.result 320 32 c.indent.ensures.few in
    says_as c.say.ensures (ap (λ (l : List ℕ). l ++ codes "^\n") (spaces ∙ ap (λ n. replicate n 32) c.indent.ensures.value))
