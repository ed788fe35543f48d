use Rattle.std.proofs.Common.{ap, sym, drop, ◌∙◌}
use Rattle.ngc_dialect_parameters.specs.Known.{known}
use Rattle.ngc_dialect_parameters.specs.Evaluation.{line_values, sums_of}
use Rattle.ngc_dialect_parameters.specs.NumberWords.{number_said}
use Rattle.ngc_dialect_parameters.proofs.NumberWords.{Holds, given, after_number, after_part, whole_tail}
use Rattle.ngc_dialect_parameters.proofs.parameters.Parameters.evaluate.Goals as goal
use Rattle.ngc_dialect_parameters.proofs.parameters.Parameters.evaluate.Goals.{in-Some, in_default-number_first+else-is_stopped}

pub loop-rest-preserved : goal.loop-rest-preserved
loop-rest-preserved g c =
    let k = known c.args.self.now (g.C.Control.number c.args.control.now) (g.C.Control.name c.args.control.now) in
    let text = c.args.line.now.text.items in
    let before = c.loop-rest.invariant in
    let all : Holds k text (line_values k text c.args.line.now.parts.items) c.match-number_first.rest.now (sums_of c.match-number_first.values) =
    elim c.match-number_first.branch [
      | in-Some w ↦
          after_number _ _ _ _ _ _ _ _ _ _ w.in-Some.ensures (given (sums_of w.number_word-done.new.values) w.number_word-done.result c.in-Ok.field-0 (number_said w.in-Some.number w.in-Some.letter (sums_of c.loop-rest.values)) (sym w.done-is ∙ c.in-Ok.is) w.number_word-done.ensures)
          (ap (λ r. r.now) w.rest-is ∙ w.others-rest.ensures ∙ ap (drop 1) (whole_tail _)) (ap sums_of w.values-is) before.rest before.stack before.done
      | in_default-number_first+else-is_stopped w ↦
          after_part _ _ _ _ _ _ _ _ _ c.in-len1-up.len_at_least (sym w.is_stopped.ensures ∙ w.if-is_stopped.false)
          (given (sums_of w.step-done.new.values) w.step-done.result c.in-Ok.field-0 _ (sym w.done-is ∙ c.in-Ok.is) w.step-done.ensures)
          (ap (λ r. r.now) w.rest-is ∙ whole_tail _) (ap sums_of w.values-is) before.rest before.stack before.done
    ] in
    record { rest = all.rest; stack = all.stack; done = all.done }
