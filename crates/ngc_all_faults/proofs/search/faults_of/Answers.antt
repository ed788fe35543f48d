use Rattle.std.proofs.Common.{◌≡◌, ◌-◌, List, ℕ, Option, Some, inl, inr, ap, refl, subst, sym, ◌∙◌, arith}
use Rattle.std.specs.Prelude.{option_map}
use Rattle.ngc_canonical.specs.Interpreter.{setup_of}
use Rattle.ngc_all_faults.specs.Emptied.{emptied}
use Rattle.ngc_all_faults.specs.Faults.{HasFirst, IsFirst, after, line_of}
use Rattle.ngc_all_faults.specs.declared.text_fault.TextFault.{TextFault}
use Rattle.ngc_all_faults.proofs.NextFault.{ends, more, last}
use Rattle.ngc_all_faults.proofs.search.faults_of.Goals as goal

pub returns-in-Ok-None : goal.returns-in-Ok-None
returns-in-Ok-None g c =
    let setup = setup_of c.args.machine.now c.args.tools.now in
    let none = subst (λ (o : Option TextFault). IsFirst setup c.args.block_delete c.loop-round.rest.items o) c.in-Ok-None.field-0-is
    (subst (λ (bytes : List ℕ). IsFirst setup c.args.block_delete bytes c.in-Ok-None.field-0) c.as_slice.ensures.value c.in-Ok-None.ensures) in
    ends setup c.args.block_delete c.args.text.now (100 - c.loop-round.round) c.loop-round.rest.items c.loop-round.found.items c.loop-round.invariant (inr none)

pub loop-round-preserved : goal.loop-round-preserved
loop-round-preserved g c =
    let setup = setup_of c.args.machine.now c.args.tools.now in
    let rest = c.loop-round.rest.items in
    let has = subst (λ (o : Option TextFault). IsFirst setup c.args.block_delete rest o) c.in-Ok-Some.field-0-is
    (subst (λ (bytes : List ℕ). IsFirst setup c.args.block_delete bytes c.in-Ok-Some.field-0) c.as_slice.ensures.value c.in-Ok-Some.ensures) in
    let is_line = sym c.line.ensures ∙ c.in-Some.is in
    let is_rest = c.in-Ok-emptied.ensures ∙ ap (emptied c.in-Some.line) c.as_slice-in-loop-round.ensures.value in
    more setup c.args.block_delete c.args.text.now c.loop-round.round rest c.loop-round.found.items c.in-Ok-Some.fault c.push.new.self.items
    c.in-Ok-emptied.rest.items c.loop-round-test.true c.loop-round.invariant has
    (ap (option_map (λ (n : ℕ). emptied n rest)) is_line ∙ ap Some (sym is_rest)) c.in-Ok-push.ensures.items

pub returns : goal.returns
returns g c =
    ends (setup_of c.args.machine.now c.args.tools.now) c.args.block_delete c.args.text.now (100 - c.loop-round.round) c.loop-round.rest.items
    c.loop-round.found.items c.loop-round.invariant (inl (omega (arith, c.loop-round-test.false)))
