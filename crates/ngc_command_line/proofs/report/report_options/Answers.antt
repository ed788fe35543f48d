use Rattle.std.proofs.Common.{◌∙◌, codes}
use Rattle.clap.specs.Words.{found_of}
use Rattle.clap.proofs.WalkLemmas.{first_value-rows}
use Rattle.ngc_command_line.proofs.report.report_options.Goals as goal

pub returns : goal.returns
returns c = record {
  machine = c.required.ensures;
  tools = c.required-2.ensures;
  program = c.get_str.ensures ∙ first_value-rows (found_of c.args.found.now) (codes "program");
  cuts = c.cuts_of.ensures;
  all = c.flag_is_set.ensures;
  json = c.flag_is_set-2.ensures;
  changes = c.requires.changes;
  cells = c.cells_of.ensures;
  dialect = c.get_str-2.ensures ∙ first_value-rows (found_of c.args.found.now) (codes "dialect");
}
