use Rattle.std.proofs.Common.{ap, ◌∙◌, sym, List, ℕ, ◌∷◌, drop}
use Rattle.std.proofs.lemmas.List.{take_rest}
use Rattle.ngc_certificate_text.specs.Number.{fields}
use Rattle.ngc_certificate_text.proofs.BoundedNumbers.{space_found, no_space}
use Rattle.ngc_certificate_text.proofs.number.split_field.Goals as goal

pub returns-in-Some-clause-fields : goal.returns-in-Some-clause-fields
returns-in-Some-clause-fields c =
    space_found c.args.text.now c.in-Some.end (sym c.in-Some.ensures.value)
    ∙ ap (λ (f : List ℕ). f ∷ fields (drop 1 (drop c.in-Some.end c.args.text.now))) (sym c.split_at.ensures.front)
    ∙ ap (λ (r : List ℕ). c.split_at.result.0.now ∷ fields (drop 1 r)) (sym c.split_at.ensures.back)
    ∙ ap (λ (r : List ℕ). c.split_at.result.0.now ∷ fields r) (sym (take_rest c.split_at.result.1.now 1))

pub returns-in-None-clause-fields : goal.returns-in-None-clause-fields
returns-in-None-clause-fields c = no_space c.args.text.now (sym c.in-None.ensures.value)
