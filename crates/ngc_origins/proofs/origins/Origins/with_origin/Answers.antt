use Rattle.std.proofs.Common.{◌∙◌, Some, IfSome}
use Rattle.std.proofs.lemmas.List.Elements.{All-set}
use Rattle.std.proofs.lemmas.List.{length-set}
use Rattle.ngc_machine_files.specs.Ranges.{IsSized, NEAR_LIMIT}
use Rattle.ngc_origins.proofs.origins.Origins.with_origin.Goals as goal

pub invariant_of-result : goal.invariant_of-result
invariant_of-result c = record {
  nine = length-set c.self.inside.systems c.args.system (Some c.args.place) ∙ c.self.invariant.nine;
  sized = All-set (λ o. IfSome o (IsSized NEAR_LIMIT)) c.self.inside.systems c.args.system (Some c.args.place) c.requires.place c.self.invariant.sized;
}
