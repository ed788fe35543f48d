use Rattle.std.proofs.Common.{◌+◌, arith, drop, [], inl, inr, refl, sym, subst, append-nil, ◌∙◌}
use Rattle.std.proofs.lemmas.Bool.{cases_lt, ltb-true, ltb-false}
use Rattle.ngc_machine_files.specs.Machine.{file_of}
use Rattle.ngc_commands.specs.Movement.{actions_of}
use Rattle.ngc_certificate.specs.Uncleared.{AreUnclearedFrom, AreUncleared, LeadsPast}
use Rattle.ngc_certificate.proofs.MakingLaws.{next_action, none_left}
use Rattle.ngc_certificate.proofs.RefusedLaws.{begins_now, begins_still, cleared_next, listed_next, none_refused, passes_cleared, passes_refused, refuses_next}
use Rattle.ngc_certificate.proofs.not_cleared.find_uncleared.Goals as goal
use Rattle.ngc_certificate.proofs.not_cleared.find_uncleared.Goals.{then-index-passed, else-index-passed+in-Ok}

pub loop-index-preserved-then-clear : goal.loop-index-preserved-then-clear
loop-index-preserved-then-clear g c =
    let machine = file_of c.args.machine.now in
    let commands = c.args.commands.now in
    let i = c.loop-index.index in
    let action = c.index-commands-index.result.action in
    let old = c.loop-index.reached in
    let new = c.after-reached.result in
    let split = next_action i commands c.index-commands-index.result c.loop-index-test.true c.index-commands-index.is in
    elim c.if-index-passed.branch [
      | then-index-passed w ↦
          (let less = ltb-true (i + 1) c.args.passed (sym w.clear-is ∙ c.if-clear.true) in
          let leads = passes_cleared machine c.args.cuts i commands action old new split c.after-reached.ensures c.args.passed (omega (arith, less))
          c.loop-index.invariant.refused in
          record {
            are = cleared_next machine c.args.cuts i commands action old new split c.after-reached.ensures c.loop-index.indices.items leads
                c.loop-index.invariant.are;
            refused = refuses_next machine c.args.cuts i commands action old new split c.after-reached.ensures c.args.passed
                c.loop-index.invariant.refused;
            none = λ k e le. c.loop-index.invariant.none k e (omega (arith, le));
            begins = λ k e more. absurd (omega (arith, e, more, less));
          })
      | else-index-passed+in-Ok w ↦
          (let leads = subst (LeadsPast machine c.args.cuts i action old) (sym w.clear-is ∙ c.if-clear.true) (w.in-Ok.ensures i) in
          record {
            are = cleared_next machine c.args.cuts i commands action old new split c.after-reached.ensures c.loop-index.indices.items leads
                c.loop-index.invariant.are;
            refused = λ k e le. absurd (omega (arith, e, le, w.if-index-passed.false));
            none = λ k e le. absurd (omega (arith, e, le, w.if-index-passed.false));
            begins = λ k e more. c.loop-index.invariant.begins k e (omega (arith, e, w.if-index-passed.false));
          })
    ]

pub loop-index-preserved : goal.loop-index-preserved
loop-index-preserved g c =
    let machine = file_of c.args.machine.now in
    let commands = c.args.commands.now in
    let i = c.loop-index.index in
    let action = c.index-commands-index.result.action in
    let old = c.loop-index.reached in
    let new = c.after-reached.result in
    let items = c.loop-index.indices.items in
    let more = c.push.new.self.items in
    let added = c.in-Ok-push.ensures.items in
    let split = next_action i commands c.index-commands-index.result c.loop-index-test.true c.index-commands-index.is in
    elim c.if-index-passed.branch [
      | then-index-passed w ↦
          (let last = ltb-false (i + 1) c.args.passed (sym w.clear-is ∙ c.if-clear.false) in
          let leads = passes_refused machine c.args.cuts i commands action old new split c.after-reached.ensures c.args.passed
          (omega (arith, w.if-index-passed.true, last)) c.loop-index.invariant.refused in
          record {
            are = listed_next machine c.args.cuts i commands action old new split c.after-reached.ensures items more added leads
                c.loop-index.invariant.are;
            refused = λ k e le. absurd (omega (arith, e, le, last));
            none = λ k e le. absurd (omega (arith, e, le, last));
            begins = λ k e less. begins_now k i items more added
                (c.loop-index.invariant.none k e (omega (arith, e, w.if-index-passed.true))) (omega (arith, e, w.if-index-passed.true, last));
          })
      | else-index-passed+in-Ok w ↦
          (let leads = subst (LeadsPast machine c.args.cuts i action old) (sym w.clear-is ∙ c.if-clear.false) (w.in-Ok.ensures i) in
          record {
            are = listed_next machine c.args.cuts i commands action old new split c.after-reached.ensures items more added leads
                c.loop-index.invariant.are;
            refused = λ k e le. absurd (omega (arith, e, le, w.if-index-passed.false));
            none = λ k e le. absurd (omega (arith, e, le, w.if-index-passed.false));
            begins = λ k e less. begins_still k i items more added (c.loop-index.invariant.begins k e (omega (arith, e, w.if-index-passed.false)));
          })
    ]

pub returns-clause-are : goal.returns-clause-are
returns-clause-are g c =
    let machine = file_of c.args.machine.now in
    let commands = c.args.commands.now in
    let reached = c.loop-index.reached in
    let items = c.loop-index.indices.items in
    let end = none_left c.loop-index.index commands (omega (arith, c.loop-index-test.false)) in
    subst (AreUncleared machine c.args.cuts commands) (append-nil items)
    (c.loop-index.invariant.are []
    (subst (λ actions. AreUnclearedFrom machine c.args.cuts c.loop-index.index reached.tool reached.place actions []) (sym end) refl))

pub returns-clause-begins : goal.returns-clause-begins
returns-clause-begins g c = λ k e.
    let machine = file_of c.args.machine.now in
    let commands = c.args.commands.now in
    let i = c.loop-index.index in
    let reached = c.loop-index.reached in
    let end = none_left i commands (omega (arith, c.loop-index-test.false)) in
    elim (cases_lt k i) [
      | inl less ↦ c.loop-index.invariant.begins k e less
      | inr le ↦ absurd (none_refused machine c.args.cuts i k reached.tool reached.place (actions_of (drop i commands)) end
          (c.loop-index.invariant.refused k e le))
    ]
