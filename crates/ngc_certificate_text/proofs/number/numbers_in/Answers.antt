use Rattle.std.proofs.Common.{◌≡◌, length, ap, ◌∙◌, sym, refl, [], ◌∷◌, ◌++◌, w64, to_z, of_z, SFits, arith, rules}
use Rattle.std.proofs.lemmas.Int.{to_z-of_z}
use Rattle.ngc_certificate_text.specs.Lines.{numbers_in as numbers_said}
use Rattle.ngc_certificate_text.specs.Clamped.{all_fields}
use Rattle.ngc_certificate_text.proofs.FieldNumbers.{gathered, gather_begins, gather_ends, gather_more, gather_fails, gather_full}
use Rattle.ngc_certificate_text.proofs.number.numbers_in.Goals as goal

pub loop-left-init : goal.loop-left-init
loop-left-init c = record {
  few = omega (arith, ap length c.new-numbers.ensures);
  all = gather_begins (all_fields c.args.text) c.new-numbers.result.items c.new-numbers.ensures;
}

pub returns-in-Err : goal.returns-in-Err
returns-in-Err c =
    sym (c.loop-left.invariant.all ∙ gather_full c.loop-left.numbers.items (all_fields c.loop-left.left)
    (all_fields c.split_field.result.1) c.split_field.result.0.now c.in-Some-number_in.number
    (ap all_fields c.in-Some.is ∙ c.split_field.ensures.fields) c.in-Some-number_in.ensures (omega (arith, c.in-Err.ensures.full)))

pub returns-in-None : goal.returns-in-None
returns-in-None c =
    sym (c.loop-left.invariant.all ∙ gather_fails c.loop-left.numbers.items (all_fields c.loop-left.left)
    (all_fields c.split_field.result.1) c.split_field.result.0.now
    (ap all_fields c.in-Some.is ∙ c.split_field.ensures.fields) c.in-None.ensures)

pub loop-left-preserved : goal.loop-left-preserved
loop-left-preserved c =
    let fits : SFits w64 c.in-Some-number_in.number = search rules in
    let same : to_z w64 (of_z w64 c.in-Some-number_in.number) ≡ c.in-Some-number_in.number = to_z-of_z w64 c.in-Some-number_in.number fits in
    let pushed : c.try_push.new.self.items ≡ c.loop-left.numbers.items ++ (c.in-Some-number_in.number ∷ []) =
    c.in-Ok.ensures.ok ∙ ap (λ y. c.loop-left.numbers.items ++ (y ∷ [])) same in
    record {
      few = omega (arith, c.in-Ok.ensures.len, c.in-Ok.ensures.variant.0 refl);
      all =
          c.loop-left.invariant.all
          ∙ gather_more c.loop-left.numbers.items (all_fields c.loop-left.left)
          (all_fields c.split_field.result.1) c.split_field.result.0.now c.in-Some-number_in.number
          (ap all_fields c.in-Some.is ∙ c.split_field.ensures.fields) c.in-Some-number_in.ensures
          ∙ ap (λ l. gathered l (numbers_said (all_fields c.split_field.result.1))) (sym pushed);
    }

pub returns : goal.returns
returns c =
    sym (c.loop-left.invariant.all ∙ ap (λ o. gathered c.loop-left.numbers.items (numbers_said (all_fields o))) c.in_default.is
    ∙ gather_ends c.loop-left.numbers.items c.loop-left.invariant.few)
