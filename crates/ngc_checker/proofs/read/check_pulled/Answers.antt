use Rattle.std.proofs.Common.{◌≡◌, ◌<◌, ℕ, [], Option, take, length, ap, refl, subst, ◌∙◌, rules}
use Rattle.ngc_checker.specs.Accepted.{AcceptedData}
use Rattle.ngc_checker.specs.CheckView.{VerdictResultIs, accepted_in, outcome_in}
use Rattle.ngc_checker.proofs.SourceLaws.{refused, ended, cut_short}
use Rattle.ngc_checker.proofs.read.check_pulled.Goals as goal

pub returns-then-count-eq0-clause-said : goal.returns-then-count-eq0-clause-said
returns-then-count-eq0-clause-said g c =
    let none : take c.in-Ok.count c.pull.new.buf ≡ [] = ap (λ (n : ℕ). take n c.pull.new.buf) c.if-count-eq0.true in
    let room : 0 < length c.pull.new.buf = search rules in
    ended (outcome_in c.args.reader) (outcome_in c.loop-count.reader) (accepted_in c.args.reader) c.finish.result
    _ _ _ (take c.in-Ok.count c.pull.new.buf)
    c.loop-count.invariant.text c.in-Ok.ensures.bytes.0 none (c.in-Ok.ensures.bytes.1 c.if-count-eq0.true room)
    (subst (λ (kept : Option AcceptedData). VerdictResultIs (λ a. a) kept c.finish.result (outcome_in c.loop-count.reader []))
    c.loop-count.invariant.kept c.finish.ensures.said)

pub returns-in-Err-feed-clause-said : goal.returns-in-Err-feed-clause-said
returns-in-Err-feed-clause-said g c =
    refused (outcome_in c.args.reader) (outcome_in c.loop-count.reader) c.in-Err-feed.fault (accepted_in c.args.reader)
    _ _ _ (take c.in-Ok.count c.pull.new.buf) c.loop-count.invariant.text c.in-Ok.ensures.bytes.0 c.in-Err-feed.ensures.text

pub returns-clause-said : goal.returns-clause-said
returns-clause-said g c =
    cut_short (outcome_in c.args.reader) (outcome_in c.loop-count.reader) (accepted_in c.args.reader) c.finish-2.result
    _ _ _ (take c.in-Ok.count c.pull.new.buf) (outcome_in c.feed.new.self)
    c.loop-count.invariant.text c.in-Ok.ensures.bytes.0 c.in-Ok-feed.ensures.text (c.if-has_trailing_bytes.ensures refl)
    (subst (λ (kept : Option AcceptedData). VerdictResultIs (λ a. a) kept c.finish-2.result (outcome_in c.feed.new.self []))
    (c.in-Ok-feed.ensures.keeps ∙ c.loop-count.invariant.kept) c.finish-2.ensures.said)
