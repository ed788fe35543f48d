use Rattle.std.proofs.Common.{List, ℕ, Result, Ok, refl, subst, sym, true, ◌∙◌}
use Rattle.std.specs.Prelude.{option_map}
use Rattle.ngc_machine_maker.specs.declared.numbers.MachineNumbers.{MachineNumbers}
use Rattle.ngc_machine_maker.specs.declared.refusal.FigureRefusal.{FigureRefusal}
use Rattle.ngc_report.proofs.Converted.{turned}
use Rattle.ngc_text.specs.Written.{AppendsPrefix}
use Rattle.std.specs.Io.KnownBytes.{Appends}
use Rattle.ngc_simulator.specs.Making.{Makes, WritesNumbers, keys_text}
use Rattle.ngc_inputs.specs.declared.fault.AnswerFault.TheVariants as answers
use Rattle.ngc_inputs.proofs.JobLaws.{keeps_same}
use Rattle.ngc_simulator.proofs.MakingLaws.{of_no_error, refused_figures, refused_numbers, unmade}
use Rattle.ngc_simulator.proofs.making.make.Goals as goal

pub returns-in_err-text-clause-makes : goal.returns-in_err-text-clause-makes
returns-in_err-text-clause-makes g c =
    let dump = option_map (λ d. d.now) c.args.dump in
    let old = g.W.Sink.written c.args.output.now in
    let keys = keys_text c.args.options.now.rates c.in-Ok-numbers_of.numbers c.in-Ok.figures in
    turned _ c.in_err-text.field-0.0 (Makes c.args.options.now dump old old) c.from_residual.ensures.1
    (unmade c.args.options.now dump old old keys c.in_err-text.field-0.0
    (record {
      figures = c.in-Ok.figures;
      are_requested = c.in-Ok.ensures.asked;
      numbers = c.in-Ok-numbers_of.numbers;
      are_numbers = sym c.in-Ok-numbers_of.ensures.value;
      are_keys = refl;
    })
    (keeps_same old) c.in_err-text.ensures.made)

pub returns-in_err-write_all-clause-makes : goal.returns-in_err-write_all-clause-makes
returns-in_err-write_all-clause-makes g c =
    let old = g.W.Sink.written c.args.output.now in
    let new = g.W.Sink.written c.write_all.new.sink in
    turned _ (answers.Write c.in_err-write_all.field-0.0) (Makes c.args.options.now (option_map (λ d. d.now) c.args.dump) old new)
    c.from_residual-in_err-write_all.ensures.1 (
      keys_text c.args.options.now.rates c.in-Ok-numbers_of.numbers c.in-Ok.figures,
      c.in_ok-text.text.items,
      record {
        figures = c.in-Ok.figures;
        are_requested = c.in-Ok.ensures.asked;
        numbers = c.in-Ok-numbers_of.numbers;
        are_numbers = sym c.in-Ok-numbers_of.ensures.value;
        are_keys = refl;
      },
      c.in_ok-text.ensures.made,
      subst (λ (t : List ℕ). AppendsPrefix old new t) c.as_slice.ensures.value c.in_err-write_all.ensures.fault,
    )

pub returns-clause-makes : goal.returns-clause-makes
returns-clause-makes g c =
    let old = g.W.Sink.written c.args.output.now in
    let new = g.W.Sink.written c.write_all.new.sink in
    let figures = c.in-Ok.figures in
    let appends = subst (λ (t : List ℕ). Appends old new t) c.as_slice.ensures.value c.in_ok-write_all.ensures.ok in
    let noted = of_no_error c.write_notes.result _ (sym c.is_err.ensures.value ∙ c.if-is_err.false) c.write_notes.ensures.ok in (
      Ok figures,
      c.in-Ok.ensures.asked,
      subst (λ (r : Result MachineNumbers FigureRefusal). WritesNumbers c.args.options.now.rates figures r old new (record { text = c.into_inner.result; is_written = true }))
          c.in-Ok-numbers_of.ensures.value
          ((c.in_ok-text.text.items, c.in_ok-text.ensures.made, appends), refl, rw (c.into_inner.ensures, noted, c.new-told.ensures.inner, c.new.ensures.items) refl),
    )

pub returns-then-is_err-clause-makes : goal.returns-then-is_err-clause-makes
returns-then-is_err-clause-makes g c = keeps_same (g.W.Sink.written c.args.output.now)

pub returns-in-Err-clause-makes : goal.returns-in-Err-clause-makes
returns-in-Err-clause-makes g c =
    let old = g.W.Sink.written c.args.output.now in
    refused_figures c.args.options.now (option_map (λ d. d.now) c.args.dump) old c.in-Err.refusal c.refused.result c.in-Err.ensures.asked (keeps_same old)
    c.refused.ensures.notes c.refused.ensures.fault

pub returns-in-Err-numbers_of-clause-makes : goal.returns-in-Err-numbers_of-clause-makes
returns-in-Err-numbers_of-clause-makes g c =
    let old = g.W.Sink.written c.args.output.now in
    refused_numbers c.args.options.now (option_map (λ d. d.now) c.args.dump) old c.in-Ok.figures c.in-Err-numbers_of.refusal c.refused-in-Err-numbers_of.result
    c.in-Ok.ensures.asked (sym c.in-Err-numbers_of.ensures.value) (keeps_same old) c.refused-in-Err-numbers_of.ensures.notes
    c.refused-in-Err-numbers_of.ensures.fault
