use Rattle.std.proofs.Common.{⊎_elim, arith, rules, take}
use Rattle.ngc_saved_text.specs.Sources.{unmarked_at_start, unmarked_front, unmarked_inner}
use Rattle.ngc_saved_text.proofs.MarkLaws.{empty_front, given_by, pull_passed, some_front}
use Rattle.ngc_saved_text.proofs.mark.Unmarked.pull_next.Goals as goal

pub returns-then-self-clause-bytes : goal.returns-then-self-clause-bytes
returns-then-self-clause-bytes g c = (
  given_by g.S.Source.remaining (unmarked_inner c.args.self.now) (unmarked_inner c.give_front.new.self) (unmarked_at_start c.give_front.new.self)
      (unmarked_front c.args.self.now) (take c.give_front.result c.give_front.new.buf) (unmarked_front c.give_front.new.self) c.give_front.ensures.inner c.give_front.ensures.looked c.give_front.ensures.front,
  λ none room. absurd (⊎_elim (λ e. omega (arith, e, room))
      (λ e. some_front c.args.self.now.front c.args.self.now.taken c.args.self.now.given (omega (arith, c.if-self.true)) (search rules) e) (c.give_front.ensures.some none)),
)

pub returns-clause-bytes : goal.returns-clause-bytes
returns-clause-bytes g c =
    pull_passed _ _ _ _ _ _ c.requires.looked (empty_front c.args.self.now.front c.args.self.now.taken c.args.self.now.given (λ h. absurd (omega (arith, h, c.if-self.false)))) c.pull.ensures.bytes
