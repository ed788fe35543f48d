use Rattle.std.proofs.Common.{◌≡◌, ℕ, rules, subst}
use Rattle.ngc_page.specs.Answered.{IsResult}
use Rattle.ngc_page.specs.Files.{bytes_of}
use Rattle.ngc_page.proofs.answering.answer_into.Goals as goal

pub returns : goal.returns
returns c =
    let answer = c.answer_in_memory-answer.result in
    let status : answer.status ≡ c.from.result = search rules in
    record {
      text = answer.output.items;
      lines = answer.errors.taken.items;
      told =
          subst (λ (s : ℕ). IsResult (bytes_of c.args.files) c.args.options.now answer.output.items answer.errors.taken.items s) status
          c.answer_in_memory-answer.ensures;
      text_handed = rw c.as_slice-text.ensures.value at c.hand_over.ensures.output;
      lines_handed = rw c.as_slice-lines.ensures.value at c.hand_over.ensures.errors;
    }
