use Rattle.std.proofs.Common.{◌∙◌, ap, sym, Err, string_bytes, option_map}
use Rattle.ngc_machine_figures.specs.Found.{known_in, none_unknown, unknown}
use Rattle.ngc_machine_figures.proofs.UnknownKeys.{first_unknown-find}
use Rattle.ngc_machine_figures.proofs.found.known_in.Goals as goal

pub returns-in-Some : goal.returns-in-Some
unfolding known_in
returns-in-Some c =
    ap Err (c.unknown.ensures ∙ ap (unknown c.args.key c.args.keys.now) c.as_str.ensures.value)
    ∙ ap (none_unknown c.args.key c.args.keys.now) (ap (option_map string_bytes) c.in-Some.ensures ∙ sym (first_unknown-find c.args.keys.now c.args.table.now.entries))

pub returns-in-None : goal.returns-in-None
unfolding known_in
returns-in-None c =
    ap (none_unknown c.args.key c.args.keys.now) (ap (option_map string_bytes) c.in-None.ensures ∙ sym (first_unknown-find c.args.keys.now c.args.table.now.entries))
