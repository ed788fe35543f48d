use Rattle.std.proofs.Common.{◌∙◌, codes}
use Rattle.clap.specs.Words.{found_of}
use Rattle.clap.proofs.WalkLemmas.{first_value-rows}
use Rattle.ngc_command_line.proofs.machine.machine_options.Goals as goal

pub returns : goal.returns
returns c = record {
  grbl = c.get_str.ensures ∙ first_value-rows (found_of c.args.found.now) (codes "grbl");
  steps = c.get_str-2.ensures ∙ first_value-rows (found_of c.args.found.now) (codes "steps-per-mm");
  travel = c.get_str-3.ensures ∙ first_value-rows (found_of c.args.found.now) (codes "travel");
  feed = c.get_str-4.ensures ∙ first_value-rows (found_of c.args.found.now) (codes "feed");
  acceleration = c.get_str-5.ensures ∙ first_value-rows (found_of c.args.found.now) (codes "acceleration");
  corner = c.get_str-6.ensures ∙ first_value-rows (found_of c.args.found.now) (codes "corner");
  ticks = c.get_str-7.ensures ∙ first_value-rows (found_of c.args.found.now) (codes "ticks");
  frame = c.get_str-8.ensures ∙ first_value-rows (found_of c.args.found.now) (codes "frame");
  jump = c.get_str-9.ensures ∙ first_value-rows (found_of c.args.found.now) (codes "jump");
  turn = c.get_str-10.ensures ∙ first_value-rows (found_of c.args.found.now) (codes "turn");
  start = c.get_str-11.ensures ∙ first_value-rows (found_of c.args.found.now) (codes "start");
  home28 = c.get_str-12.ensures ∙ first_value-rows (found_of c.args.found.now) (codes "home28");
  home30 = c.get_str-13.ensures ∙ first_value-rows (found_of c.args.found.now) (codes "home30");
  ring = c.get_str-14.ensures ∙ first_value-rows (found_of c.args.found.now) (codes "ring");
  arc_feed = c.flag_is_set.ensures;
  rates = c.flag_is_set-2.ensures;
}
