use Rattle.std.proofs.Common.{rules, ◌∙◌}
use Rattle.clap.specs.Words.{found_of}
use Rattle.clap.proofs.WalkLemmas.{first_value-rows}
use Rattle.ngc_command_line.proofs.arguments.flag_is_set.Goals as goal

pub returns-in-Some : goal.returns-in-Some
returns-in-Some c =
    let found = c.in-Some.ensures ∙ first_value-rows (found_of c.args.found.now) c.args.name.now in
    rw (← found) (search rules)

pub returns-in-None : goal.returns-in-None
returns-in-None c =
    let found = c.in-None.ensures ∙ first_value-rows (found_of c.args.found.now) c.args.name.now in
    rw (← found)
