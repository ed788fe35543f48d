use Rattle.std.proofs.Common.{◌+◌, ◌≡◌, ◌∙◌, ℕ, true, sym, arith}
use Rattle.std.specs.Prelude.{◌==◌, vec_len}
use Rattle.std.proofs.lemmas.Bool.Decides.{nat_tests}
use Rattle.std.proofs.lemmas.List.{nil_from_length}
use Rattle.ngc_events.specs.Events.{parsed_events}
use Rattle.ngc_events.proofs.ReadLaws.{read_begins, read_ends}
use Rattle.ngc_events.proofs.read.read_events.Goals as goal

empty_length : (n : ℕ) → (n == 0) ≡ true → n ≡ 0
empty_length n h = grind (arith, nat_tests)

pub loop-left-init : goal.loop-left-init
loop-left-init g c =
    read_begins c.args.text.now c.new-events.result.items (vec_len c.new-events.result + 1) c.new-events.ensures.items (omega (arith, c.new-events.ensures.len))

pub returns : goal.returns
returns g c = read_ends (parsed_events c.args.text.now) c.loop-left.events.items (vec_len c.loop-left.events + 1) c.loop-left.left.now c.loop-left.invariant
    (nil_from_length c.loop-left.left.now (empty_length _ (sym c.is_empty.ensures ∙ c.loop-left-test.false)))
