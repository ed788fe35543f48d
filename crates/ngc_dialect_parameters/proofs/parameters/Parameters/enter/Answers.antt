use Rattle.std.proofs.Common.{sym, ap, ◌∙◌, Ok, arith}
use Rattle.ngc_dialect_parameters.proofs.StoredLaws.{call_begun}
use Rattle.ngc_dialect_parameters.proofs.parameters.Parameters.enter.Goals as goal

pub returns-in-Ok-clause-call : goal.returns-in-Ok-clause-call
returns-in-Ok-clause-call g c =
    let few = c.if-len-ge-DEPTH.false in
    let counted = c.len.ensures in
    call_begun c.args.self.now (record { numbers = c.saved-numbers.result; names = c.replace-names.result }) c.replace-names.new.dest c.push.new.self.items c.args.arguments.now
    (omega (arith, few, counted)) c.saved-numbers.ensures c.replace-names.ensures.value
    (λ name. rw c.replace-names.ensures.after (c.new.ensures.values name)) (rw c.replace-names.ensures.after c.new.ensures.count) c.in-Ok.ensures.items
    ∙ ap (λ k. Ok k) (sym c.set_locals.ensures)
