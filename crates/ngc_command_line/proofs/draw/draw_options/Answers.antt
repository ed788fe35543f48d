use Rattle.std.proofs.Common.{◌∙◌, codes}
use Rattle.clap.specs.Words.{found_of}
use Rattle.clap.proofs.WalkLemmas.{first_value-rows}
use Rattle.ngc_command_line.proofs.draw.draw_options.Goals as goal

pub returns : goal.returns
returns c = record {
  machine = c.required.ensures;
  tools = c.required-2.ensures;
  certificate = c.get_str.ensures ∙ first_value-rows (found_of c.args.found.now) (codes "certificate");
  program = c.get_str-2.ensures ∙ first_value-rows (found_of c.args.found.now) (codes "program");
  view = c.get_str-3.ensures ∙ first_value-rows (found_of c.args.found.now) (codes "view");
  delete = c.flag_is_set.ensures;
  bodies = c.flag_is_set-2.ensures;
  whole = c.flag_is_set-3.ensures;
  map = c.flag_is_set-4.ensures;
  cells = c.cells_of.ensures;
  changes = c.requires.changes;
  dialect = c.get_str-4.ensures ∙ first_value-rows (found_of c.args.found.now) (codes "dialect");
}
