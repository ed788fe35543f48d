use Rattle.std.proofs.Common.{◌≡◌, ◌∙◌, false, ap, inl, map, rules, sym}
use Rattle.std.specs.List.{list_any}
use Rattle.std.specs.Str.Lines.{lines}
use Rattle.ngc_job_calls.specs.Calls.{all_words, call_in}
use Rattle.ngc_page.specs.JobCalls.{has_break, lines_text}
use Rattle.ngc_page.proofs.LinesRead.{words_same}
use Rattle.ngc_page.proofs.job.hand_words.Goals as goal

pub returns : goal.returns
returns c =
    let tested : map (λ w. w.now) c.as_slice.result.now ≡ all_words (call_in c.args.call.now) =
    ap (map (λ w. w.now)) c.as_slice.ensures.value ∙ c.in-Ok.ensures in
    let given : map (λ w. w.now) c.as_slice-2.result.now ≡ all_words (call_in c.args.call.now) =
    ap (map (λ w. w.now)) c.as_slice-2.ensures.value ∙ c.in-Ok.ensures in
    let none : c.have_break.result ≡ false = search rules in
    let plain : list_any has_break (all_words (call_in c.args.call.now)) ≡ false =
    ap (list_any has_break) (sym tested) ∙ (sym c.have_break.ensures ∙ none) in
    let written : c.in-Ok-lines_text.text.items ≡ lines_text (all_words (call_in c.args.call.now)) =
    c.in-Ok-lines_text.ensures ∙ ap lines_text given in
    inl (record {
      text = c.in-Ok-lines_text.text.items;
      unbroken = plain;
      written = written;
      same = ap lines written ∙ words_same (all_words (call_in c.args.call.now)) plain;
      says = search rules;
      words_handed = rw c.as_slice-3.ensures.value at c.hand_over.ensures.output;
      note_handed = rw c.as_slice-4.ensures.value at c.hand_over.ensures.errors;
    })
