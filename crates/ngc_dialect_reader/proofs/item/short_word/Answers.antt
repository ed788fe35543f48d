use Rattle.std.proofs.Common.{◌≡◌, ℕ, List, ◌≤◌, ◌<◌, length, drop, Ok, refl, sym, ap, ◌∙◌, arith, true}
use Rattle.std.proofs.lemmas.Grind.{common_steps}
use Rattle.std.proofs.lemmas.Bool.Decides.{nat_tests}
use Rattle.ngc_dialect_reader.specs.declared.switches.Switches.{Switches}
use Rattle.ngc_dialect_reader.specs.Number.{number_at}
use Rattle.ngc_dialect_reader.specs.Item.{begins_number}
use Rattle.ngc_dialect_reader.proofs.ShortWords.{short_word}
use Rattle.ngc_dialect_reader.proofs.item.short_word.Goals as goal

pub returns-clause-read : goal.returns-clause-read
returns-clause-read c = λ (d : Switches).
    let s = c.args.s.now in
    let found = c.args.parts.now.items in
    let some : 0 < length s = grind (arith, common_steps, nat_tests) in
    let begun : begins_number (drop 1 s) ≡ true = sym (ap (λ (t : List ℕ). begins_number t) c.tail.ensures) ∙ c.in_ok-literal.ensures.1 in
    let number : number_at (drop 1 s) ≡ Ok (c.in_ok-literal.literal, c.in_ok-literal.rest.now) = sym (ap number_at c.tail.ensures) ∙ c.in_ok-literal.ensures.0 in
    let few : length found ≤ 126 = omega (arith, c.len.ensures.value, c.if-len-gt126.false) in
    let first = c.if-not-is_plain_letter.ensures in
    let read = short_word d found s c.in_ok-literal.literal c.in_ok-literal.rest.now some (first.low refl) (first.high refl) (first.no_number refl) (first.no_label refl) begun number few in
    grind (arith, common_steps)
