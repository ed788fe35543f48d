use Rattle.std.proofs.Common.{ap, ap₂, sym, ◌∙◌, ◌++◌, ◌∷◌, ◌-◌, subst, drop, length, arith}
use Rattle.std.specs.Prelude.{IsTrue, MatchOption}
use Rattle.std.proofs.lemmas.List.{take_all, length-drop}
use Rattle.ngc_events.specs.Arriving.{is_feedless, IsSplit}
use Rattle.ngc_events.proofs.FirstFeed.{none_found, one_found}
use Rattle.ngc_events.proofs.arriving.split_line.Goals as goal

pub returns-in_err-end : goal.returns-in_err-end
returns-in_err-end c =
    subst (λ o. MatchOption o (IsTrue (is_feedless c.args.bytes.now)) (λ p. IsSplit c.args.bytes.now p.0.now p.1.now)) (sym c.from_residual.ensures)
    (none_found c.args.bytes.now c.in_err-end.ensures)

pub returns : goal.returns
returns c =
    let found = one_found c.args.bytes.now c.in_ok-end.end c.in_ok-end.ensures in
    let back = c.split_at.result.1.now in
    record {
      feedless = ap is_feedless c.split_at.ensures.front ∙ found.feedless;
      parts = found.parts ∙ ap₂ (λ line rest. line ++ (10 ∷ rest)) (sym c.split_at.ensures.front)
          (ap (drop 1) (sym c.split_at.ensures.back) ∙ sym (take_all (length back - 1) (drop 1 back) (omega (arith, length-drop 1 back))));
    }
