use Rattle.std.proofs.Common.{◌+◌, ◌-◌, ◌∙◌, ap, arith, length, sym}
use Rattle.std.specs.Option.{option_copied}
use Rattle.ngc_controller.proofs.RecentLaws.{IsTold, at_quiet, at_told, further}
use Rattle.ngc_controller.proofs.recent.reported_before.Goals as goal

pub returns-then-left-eq0 : goal.returns-then-left-eq0
returns-then-left-eq0 g c =
    let told = c.args.told.now.items in
    let place = c.loop-place.place in
    let k = length told - place - 1 in
    let is_told : IsTold place k told c.in-Some.last.now =
    record { within = omega arith; found = ap (λ x. option_copied x) (sym c.in-Some.is) ∙ c.nth_back.ensures; first = omega arith } in
    sym (c.loop-place.invariant ∙ at_told c.loop-place.left place k told c.in-Some.last.now is_told c.if-left-eq0.true)

pub returns-then-left-last : goal.returns-then-left-last
returns-then-left-last g c =
    let told = c.args.told.now.items in
    let place = c.loop-place.place in
    let k = length told - place - 1 in
    let is_told : IsTold place k told c.in-Some.last.now =
    record { within = omega arith; found = ap (λ x. option_copied x) (sym c.in-Some.is) ∙ c.nth_back.ensures; first = omega arith } in
    sym (c.loop-place.invariant ∙ at_quiet c.loop-place.left place k told c.in-Some.last.now is_told (omega arith) (omega arith))

pub loop-place-preserved : goal.loop-place-preserved
loop-place-preserved g c =
    let told = c.args.told.now.items in
    let place = c.loop-place.place in
    let k = length told - (place + 1) in
    let is_told : IsTold place k told c.in-Some.last.now =
    record { within = omega arith; found = ap (λ x. option_copied x) (sym c.in-Some.is) ∙ c.nth_back.ensures; first = omega arith } in
    c.loop-place.invariant ∙ further c.loop-place.left place k told c.in-Some.last.now is_told (omega arith) (omega arith)
