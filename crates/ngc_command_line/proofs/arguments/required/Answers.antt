use Rattle.std.proofs.Common.{◌≡◌, ◌∙◌, true, false, ap, is_some}
use Rattle.clap.specs.Words.{found_of}
use Rattle.clap.proofs.WalkLemmas.{first_value-rows}
use Rattle.ngc_command_line.proofs.arguments.required.Goals as goal

pub unreachable-requires : goal.unreachable-requires
unreachable-requires c =
    let none = c.in-None.ensures ∙ first_value-rows (found_of c.args.found.now) c.args.name.now in
    let bad : false ≡ true = ap is_some none ∙ c.requires in
    cc

pub returns : goal.returns
returns c = c.in-Some.ensures ∙ first_value-rows (found_of c.args.found.now) c.args.name.now
