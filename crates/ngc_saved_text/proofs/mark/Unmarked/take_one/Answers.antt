use Rattle.std.proofs.Common.{◌++◌, ◌∙◌, ap, arith, rules, sym}
use Rattle.ngc_saved_text.specs.Sources.{unmarked_front}
use Rattle.ngc_saved_text.proofs.HeldLaws.{one_taken}
use Rattle.ngc_saved_text.proofs.MarkLaws.{front_more, taken_more}
use Rattle.ngc_saved_text.proofs.mark.Unmarked.take_one.Goals as goal

pub returns-clause-keeps : goal.returns-clause-keeps
returns-clause-keeps g c =
    taken_more _ _ _ _ _ c.in_ok-count.ensures.bytes.0
    (front_more c.args.self.now.front c.args.self.now.taken c.args.self.now.given _ (c.args.self.now.ungiven c.requires.start) (search rules)
    ∙ ap (λ l. unmarked_front c.args.self.now ++ l)
    (sym (one_taken c.pull.new.buf _ (omega (arith, c.pull.auto.buf)) c.in_ok-count.ensures.bound c.if-count-eq0.false)))
