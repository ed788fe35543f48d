use Rattle.std.proofs.Common.{◌≡◌, ◌∙◌, sym}
use Rattle.ngc_dialect_arcs.specs.Centre.{start_square}
use Rattle.ngc_dialect_arcs.proofs.Taken.{start_limit, end_limit, apart, settled_refused, settled_kept, settled_evened}
use Rattle.ngc_dialect_arcs.proofs.centre.settled.Goals as goal

pub may_differ-requires-clause-start : goal.may_differ-requires-clause-start
may_differ-requires-clause-start c =
    let start : c.squared-at_start.result ≡ start_square c.in_ok-centre.centre = rw c.here.ensures at c.squared-at_start.ensures.value in
    rw start (start_limit c.least_radius.result c.args.end.now c.args.given.now c.in_ok-centre.centre (sym c.in_ok-centre.ensures))

pub may_differ-requires-clause-end : goal.may_differ-requires-clause-end
may_differ-requires-clause-end c =
    rw c.squared-at_end.ensures.value (end_limit c.least_radius.result c.args.end.now c.args.given.now c.in_ok-centre.centre (sym c.in_ok-centre.ensures))

pub is_even-requires-clause-start : goal.is_even-requires-clause-start
is_even-requires-clause-start c =
    let start : c.squared-at_start.result ≡ start_square c.in_ok-centre.centre = rw c.here.ensures at c.squared-at_start.ensures.value in
    rw start (start_limit c.least_radius.result c.args.end.now c.args.given.now c.in_ok-centre.centre (sym c.in_ok-centre.ensures))

pub is_even-requires-clause-end : goal.is_even-requires-clause-end
is_even-requires-clause-end c =
    rw c.squared-at_end.ensures.value (end_limit c.least_radius.result c.args.end.now c.args.given.now c.in_ok-centre.centre (sym c.in_ok-centre.ensures))

pub evened-requires : goal.evened-requires
evened-requires c = apart c.args.end.now _ (sym c.is_even.ensures ∙ c.if-is_even.false)

pub returns-then-not-may_differ : goal.returns-then-not-may_differ
returns-then-not-may_differ c =
    let start : c.squared-at_start.result ≡ start_square c.in_ok-centre.centre = rw c.here.ensures at c.squared-at_start.ensures.value in
    let range = rw c.least_radius.ensures.value at (sym c.in_ok-centre.ensures) in
    let differ = rw (start, c.squared-at_end.ensures.value) at (sym c.may_differ.ensures ∙ c.if-not-may_differ.true) in
    sym (settled_refused _ _ _ _ _ _ range differ)

pub returns-then-is_even : goal.returns-then-is_even
returns-then-is_even c =
    let start : c.squared-at_start.result ≡ start_square c.in_ok-centre.centre = rw c.here.ensures at c.squared-at_start.ensures.value in
    let range = rw c.least_radius.ensures.value at (sym c.in_ok-centre.ensures) in
    let differ = rw (start, c.squared-at_end.ensures.value) at (sym c.may_differ.ensures ∙ c.if-not-may_differ.false) in
    let even = rw (start, c.squared-at_end.ensures.value) at (sym c.is_even.ensures ∙ c.if-is_even.true) in
    sym (settled_kept _ _ _ _ _ _ range differ even)

pub returns-else-is_even : goal.returns-else-is_even
returns-else-is_even c =
    let start : c.squared-at_start.result ≡ start_square c.in_ok-centre.centre = rw c.here.ensures at c.squared-at_start.ensures.value in
    let range = rw c.least_radius.ensures.value at (sym c.in_ok-centre.ensures) in
    let differ = rw (start, c.squared-at_end.ensures.value) at (sym c.may_differ.ensures ∙ c.if-not-may_differ.false) in
    let even = rw (start, c.squared-at_end.ensures.value) at (sym c.is_even.ensures ∙ c.if-is_even.false) in
    c.evened.ensures ∙ sym (settled_evened _ _ _ _ _ _ range differ even)
