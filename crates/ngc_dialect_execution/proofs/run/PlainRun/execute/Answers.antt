use Rattle.std.proofs.Common.{◌≤◌, length, ap, refl, sym, ◌∙◌, arith}
use Rattle.ngc_dialect_execution.specs.Views.{run_in}
use Rattle.ngc_dialect_execution.proofs.FoldSteps.{all_done, line_over, none_left, none_more, one_more, refused_line, with_line, with_word}
use Rattle.ngc_dialect_execution.proofs.run.PlainRun.execute.Goals as goal
use Rattle.ngc_dialect_execution.proofs.run.PlainRun.execute.Goals.{in-Word, in-End+else-is_ended+in-Ok}

pub returns-then-is_ended : goal.returns-then-is_ended
returns-then-is_ended g c =
    all_done _ _ _ _ _ _ _ c.as_slice-part-items.ensures.value c.loop-part.invariant.leads
    (line_over _ _ _ _ _ _ _ _ c.loop-part-test.true c.part-item.is c.in-End.is (sym c.is_ended.ensures ∙ c.if-is_ended.true))

pub returns-in-Err : goal.returns-in-Err
returns-in-Err g c =
    refused_line _ _ _ _ _ _ _ _ _ _ _ _ (λ _. run_in c.execute_line.new.self) (λ _. run_in c.execute_line.new.self)
    c.loop-part-test.true c.part-item.is c.in-End.is (sym c.is_ended.ensures ∙ c.if-is_ended.false)
    refl c.as_slice-part-items.ensures.value c.loop-part.invariant.leads c.in-Err.ensures

pub loop-part-preserved : goal.loop-part-preserved
loop-part-preserved g c = record {
  words = elim c.match-part.branch [
    | in-Word w ↦ one_more _ _ _ _ (ap (λ r. r.words.items) w.self-is ∙ w.push.ensures.items) c.loop-part.invariant.words
    | in-End+else-is_ended+in-Ok w ↦ none_more _ _ (ap (λ r. r.words.items) w.self-is ∙ w.clear-in-End.ensures)
  ];
  leads = elim c.match-part.branch [
    | in-Word w ↦
        with_word _ _ _ _ _ _ _ _ _ _ _ _ c.loop-part-test.true c.part-item.is w.in-Word.is (ap (λ r. r.words.items) w.self-is ∙ w.push.ensures.items)
        (ap run_in w.self-is) c.loop-part.invariant.leads
    | in-End+else-is_ended+in-Ok w ↦
        with_line _ _ _ _ _ _ _ _ _ _ _ _ _ c.loop-part-test.true c.part-item.is w.in-End.is (sym w.is_ended.ensures ∙ w.if-is_ended.false)
        refl (ap (λ r. r.words.items) w.self-is ∙ w.clear-in-End.ensures) (ap run_in w.self-is) w.in-Ok.ensures
        c.loop-part.invariant.leads
  ];
}

pub returns : goal.returns
returns g c =
    let past : length c.as_slice-part-items.result.now ≤ c.loop-part.part-index = omega (arith, c.loop-part-test.false) in
    all_done _ _ _ _ _ _ _ c.as_slice-part-items.ensures.value c.loop-part.invariant.leads
    (none_left _ _ _ _ _ _ past)
