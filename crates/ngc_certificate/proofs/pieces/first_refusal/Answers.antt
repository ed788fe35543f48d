use Rattle.std.proofs.Common.{◌≡◌, ◌+◌, drop, ap, sym, ◌∙◌, Option, Some, None}
use Rattle.ngc_machine_files.specs.Machine.{file_of}
use Rattle.ngc_certificate.specs.declared.fault.PieceRefusal.{PieceRefusal}
use Rattle.ngc_certificate.specs.PieceFault.{◌or◌}
use Rattle.ngc_certificate.specs.PieceJudging.{fault_ahead}
use Rattle.ngc_certificate.proofs.RemainingPieces.{is_last, left}
use Rattle.ngc_certificate.proofs.pieces.first_refusal.Goals as goal

found_here : (o before after whole : Option PieceRefusal) (r : PieceRefusal) → o ≡ Some r → before ≡ (o or after) → before ≡ whole → Some r ≡ whole
found_here o before after whole r e h k = sym (h ∙ ap (λ (x : Option PieceRefusal). (x or after)) e) ∙ k

passed_here : (o before after whole : Option PieceRefusal) → o ≡ None → before ≡ (o or after) → before ≡ whole → after ≡ whole
passed_here o before after whole e h k = sym (h ∙ ap (λ (x : Option PieceRefusal). (x or after)) e) ∙ k

pub returns-in-Some : goal.returns-in-Some
returns-in-Some g c =
    let file = file_of c.args.machine.now in
    let pieces = c.args.pieces.now in
    let rest = drop (c.loop-i.i + 1) pieces in
    let here = left c.loop-i.i pieces c.index-pieces-i.result c.loop-i-test.true c.index-pieces-i.is in
    let first = c.next.ensures.first rest (is_last c.loop-i.i pieces c.loop-i-test.true) in
    found_here c.next.result (fault_ahead file c.loop-i.judge (drop c.loop-i.i pieces)) (fault_ahead file c.next.new.self rest) _ c.in-Some.refusal c.in-Some.is
    (ap (fault_ahead file c.loop-i.judge) here ∙ first) c.loop-i.invariant.first

pub loop-i-preserved : goal.loop-i-preserved
loop-i-preserved g c =
    let file = file_of c.args.machine.now in
    let pieces = c.args.pieces.now in
    let rest = drop (c.loop-i.i + 1) pieces in
    let here = left c.loop-i.i pieces c.index-pieces-i.result c.loop-i-test.true c.index-pieces-i.is in
    let first = c.next.ensures.first rest (is_last c.loop-i.i pieces c.loop-i-test.true) in
    record {
      first = passed_here c.next.result (fault_ahead file c.loop-i.judge (drop c.loop-i.i pieces)) (fault_ahead file c.next.new.self rest) _ c.in_default.is
          (ap (fault_ahead file c.loop-i.judge) here ∙ first) c.loop-i.invariant.first;
      judging = c.next.ensures.judging;
      judged = c.next.ensures.one ∙ ap (λ n. n + 1) c.loop-i.invariant.judged;
    }
