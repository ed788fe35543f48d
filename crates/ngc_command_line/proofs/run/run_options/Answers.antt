use Rattle.std.proofs.Common.{◌∙◌, ap, codes, refl, sym}
use Rattle.std.specs.Prelude.{option_map}
use Rattle.clap.specs.Words.{found_of}
use Rattle.clap.proofs.WalkLemmas.{first_value-rows}
use Rattle.ngc_command_line.proofs.run.run_options.Goals as goal

pub returns-in-Some : goal.returns-in-Some
returns-in-Some c = (
  refl,
  record {
    machine = c.required-machine.ensures;
    tools = c.required-tools.ensures;
    certificate = c.required-certificate.ensures;
    events = sym (ap (option_map (λ name. name.now)) c.in-Some.is) ∙ c.get_str.ensures ∙ first_value-rows (found_of c.args.found.now) (codes "events");
    program = c.get_str-program.ensures ∙ first_value-rows (found_of c.args.found.now) (codes "program");
    delete = c.flag_is_set-delete.ensures;
    output = c.get_str-output.ensures ∙ first_value-rows (found_of c.args.found.now) (codes "output");
    inverted = c.mask_of-inverted.ensures;
    changes = c.requires.changes;
    dialect = c.get_str-dialect.ensures ∙ first_value-rows (found_of c.args.found.now) (codes "dialect");
  },
)

pub returns-in-None : goal.returns-in-None
returns-in-None c = (
  refl,
  record {
    machine = c.required-machine.ensures;
    tools = c.required-tools.ensures;
    certificate = c.required-certificate.ensures;
    events = sym (ap (option_map (λ name. name.now)) c.in-None.is) ∙ c.get_str.ensures ∙ first_value-rows (found_of c.args.found.now) (codes "events");
    program = c.get_str-program.ensures ∙ first_value-rows (found_of c.args.found.now) (codes "program");
    delete = c.flag_is_set-delete.ensures;
    output = c.get_str-output.ensures ∙ first_value-rows (found_of c.args.found.now) (codes "output");
    inverted = c.mask_of-inverted.ensures;
    changes = c.requires.changes;
    dialect = c.get_str-dialect.ensures ∙ first_value-rows (found_of c.args.found.now) (codes "dialect");
  },
)
