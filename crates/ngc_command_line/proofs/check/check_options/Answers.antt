use Rattle.std.proofs.Common.{◌∙◌, codes}
use Rattle.clap.specs.Words.{found_of}
use Rattle.clap.proofs.WalkLemmas.{first_value-rows}
use Rattle.ngc_command_line.proofs.check.check_options.Goals as goal

pub returns : goal.returns
returns c = record {
  machine = c.required.ensures;
  tools = c.required-2.ensures;
  certificate = c.required-3.ensures;
  program = c.get_str.ensures ∙ first_value-rows (found_of c.args.found.now) (codes "program");
  dialect = c.get_str-2.ensures ∙ first_value-rows (found_of c.args.found.now) (codes "dialect");
  changes = c.requires.changes;
}
