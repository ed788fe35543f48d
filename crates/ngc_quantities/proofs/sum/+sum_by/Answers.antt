use Rattle.std.proofs.Common.{◌∙◌, sym, ◌+◌, ◌-◌, Ok, Err, arith}
use Rattle.ngc_quantities.proofs.Operators.{one_term, no_more, two_terms, exits, read_from, last_refused, first_refused, joined_read}
use Rattle.ngc_quantities.proofs.sum.+sum_by.Goals as goal
use Rattle.ngc_quantities.proofs.sum.+sum_by.Goals.{then-more-eq0-via-then-more-eq0, then-more-eq0-via-else-more-eq0+then-index-eq0}

pub returns-then-more-eq0-clause-value : goal.returns-then-more-eq0-clause-value
returns-then-more-eq0-clause-value t c =
    elim c.then-more-eq0.branch [
      | then-more-eq0-via-then-more-eq0 w ↦ c.term_in.ensures.value ∙ sym (no_more c.args.more c.args.otherwise c.args.at c.args.text.now (omega arith))
      | then-more-eq0-via-else-more-eq0+then-index-eq0 w ↦ c.term_in.ensures.value ∙ sym (one_term c.args.more c.args.otherwise c.args.at c.args.text.now (omega arith))
    ]

pub returns-in_err-last-clause-value : goal.returns-in_err-last-clause-value
returns-in_err-last-clause-value t c =
    let i = c.last_operator-index.result in
    let n = c.args.more - 1 in
    let o = c.args.otherwise in
    let s = c.args.text.now in
    let fault = c.in_err-last.field-0.0 in
    exits c.from_residual.result fault c.from_residual.ensures.1
    ∙ sym (last_refused n i o c.args.at s fault (read_from o (c.args.at + (i + 1)) s (i + 1) (Err fault) c.in_err-last.ensures.value))
    ∙ sym (two_terms c.args.more n i o c.args.at s (omega arith) c.last_operator-index.ensures.value (omega arith))

pub returns-in_err-first-clause-value : goal.returns-in_err-first-clause-value
returns-in_err-first-clause-value t c =
    let i = c.last_operator-index.result in
    let n = c.args.more - 1 in
    let o = c.args.otherwise in
    let s = c.args.text.now in
    let last = c.in_ok-last.last in
    let fault = c.in_err-first.field-0.0 in
    exits c.from_residual-in_err-first.result fault c.from_residual-in_err-first.ensures.1
    ∙ sym (first_refused n i o c.args.at s last fault (read_from o (c.args.at + (i + 1)) s (i + 1) (Ok last) c.in_ok-last.ensures.value) (sym c.in_err-first.ensures.value))
    ∙ sym (two_terms c.args.more n i o c.args.at s (omega arith) c.last_operator-index.ensures.value (omega arith))

pub returns-clause-value : goal.returns-clause-value
returns-clause-value t c =
    let i = c.last_operator-index.result in
    let n = c.args.more - 1 in
    let o = c.args.otherwise in
    let s = c.args.text.now in
    let last = c.in_ok-last.last in
    let first = c.in_ok-first.first in
    joined_read c.joined.result c.is_minus_at.result n i o c.args.at s last first c.joined.ensures.value c.is_minus_at.ensures
    (read_from o (c.args.at + (i + 1)) s (i + 1) (Ok last) c.in_ok-last.ensures.value) (sym c.in_ok-first.ensures.value)
    ∙ sym (two_terms c.args.more n i o c.args.at s (omega arith) c.last_operator-index.ensures.value (omega arith))
