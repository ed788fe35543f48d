use Rattle.std.proofs.Common.{◌≡◌, ◌==◌, ◌∙◌, ap, refl, sym}
use Rattle.std.specs.List.{list_any}
use Rattle.ngc_fault_texts.specs.Numbers.{is_fault}
use Rattle.ngc_fault_texts.proofs.NumberSearch.{any_on_page, cannot_be}
use Rattle.ngc_fault_texts.proofs.explaining.explain.Goals as goal

pub returns-then-not-is_on-clause-unknown : goal.returns-then-not-is_on-clause-unknown
returns-then-not-is_on-clause-unknown g c =
    let is : c.is_on.result ≡ is_fault c.args.number = c.is_on.ensures ∙ any_on_page c.args.number c.page-parts.result
    ∙ ap (λ ns. list_any (λ n. n == c.args.number) ns) c.page-parts.ensures in
    (λ _. sym is ∙ c.if-not-is_on.true, λ _. refl)

pub returns-in-Ok-clause-unknown : goal.returns-in-Ok-clause-unknown
returns-in-Ok-clause-unknown g c =
    let is : c.is_on.result ≡ is_fault c.args.number = c.is_on.ensures ∙ any_on_page c.args.number c.page-parts.result
    ∙ ap (λ ns. list_any (λ n. n == c.args.number) ns) c.page-parts.ensures in
    (λ bad. cc, λ none. cannot_be (sym c.if-not-is_on.false ∙ is ∙ none))

pub returns-in-Err-clause-unknown : goal.returns-in-Err-clause-unknown
returns-in-Err-clause-unknown g c =
    let is : c.is_on.result ≡ is_fault c.args.number = c.is_on.ensures ∙ any_on_page c.args.number c.page-parts.result
    ∙ ap (λ ns. list_any (λ n. n == c.args.number) ns) c.page-parts.ensures in
    (λ bad. cc, λ none. cannot_be (sym c.if-not-is_on.false ∙ is ∙ none))
