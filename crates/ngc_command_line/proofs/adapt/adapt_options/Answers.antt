use Rattle.std.proofs.Common.{◌∙◌, codes}
use Rattle.clap.specs.Words.{found_of}
use Rattle.clap.proofs.WalkLemmas.{first_value-rows}
use Rattle.ngc_command_line.proofs.adapt.adapt_options.Goals as goal

pub returns : goal.returns
returns c = record {
  from = c.required.ensures;
  machine = c.get_str.ensures ∙ first_value-rows (found_of c.args.found.now) (codes "machine");
  tools = c.get_str-2.ensures ∙ first_value-rows (found_of c.args.found.now) (codes "tools");
  program = c.get_str-3.ensures ∙ first_value-rows (found_of c.args.found.now) (codes "program");
  delete = c.flag_is_set.ensures;
}
