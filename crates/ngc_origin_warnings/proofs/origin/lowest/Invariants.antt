use Rattle.std.proofs.Common.{◌≡◌, ℤ, drop}
use Rattle.std.specs.Prelude.{fold}
use Rattle.std.specs.Int.{int_min}
use Rattle.ngc_machine_files.specs.declared.tools.Tool.{Tool}
use Rattle.ngc_origin_warnings.specs.Origins.{lowest}
use Rattle.ngc_origin_warnings.proofs.origin.lowest.Given as goal

abbrev pub invariant-loop-tool : goal.invariant-loop-tool
invariant-loop-tool l = fold (λ (low : ℤ) (t : Tool). int_min low t.bottom) l.low (drop l.tool-index l.tools) ≡ lowest l.tools
