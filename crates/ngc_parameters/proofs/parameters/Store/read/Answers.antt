use Rattle.std.proofs.Common.{ℤ, List, subst}
use Rattle.ngc_line_reader.specs.Scan.{Gives}
use Rattle.ngc_line_reader.specs.Shown.{view_parts}
use Rattle.ngc_parameters.specs.EvaluateView.{held}
use Rattle.ngc_parameters.specs.Stored.{parameters_of, values_in, values_on}
use Rattle.ngc_parameters.proofs.StoredLaws.{line_is}
use Rattle.ngc_parameters.proofs.parameters.Store.read.Goals as goal

pub returns-clause-value : goal.returns-clause-value
returns-clause-value g c =
    let found = subst (λ (vs : List ℤ). Gives (λ _. values_in c.line_of.new.values) c.line_of.result (values_on (held vs) (view_parts c.args.line)))
    c.as_slice.ensures.value c.line_of.ensures.value in
    line_is (parameters_of c.args.self.now) (view_parts c.args.line) (λ _. values_in c.line_of.new.values) c.line_of.result found
