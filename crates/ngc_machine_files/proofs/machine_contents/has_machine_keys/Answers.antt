use Rattle.std.proofs.Common.{◌≡◌, ◌∙◌, true, false, ap, sym, rules}
use Rattle.toml.specs.View.{view}
use Rattle.ngc_machine_files.specs.Tree.{has_only}
use Rattle.ngc_machine_files.specs.MachineText.{has_axis_rates}
use Rattle.ngc_machine_files.proofs.Contents.{keys_two, keys_one}
use Rattle.ngc_machine_files.proofs.machine_contents.has_machine_keys.Goals as goal

pub returns-then-has_axis_rates : goal.returns-then-has_axis_rates
returns-then-has_axis_rates c =
    let two : has_axis_rates c.args.numbers.now.version ≡ true = search rules in
    c.has_only.ensures ∙ ap (λ keys. has_only keys (view c.args.tree.now)) (sym (keys_two c.args.numbers.now.version two))

pub returns-else-has_axis_rates : goal.returns-else-has_axis_rates
returns-else-has_axis_rates c =
    let one : has_axis_rates c.args.numbers.now.version ≡ false = search rules in
    c.has_only-else-has_axis_rates.ensures ∙ ap (λ keys. has_only keys (view c.args.tree.now)) (sym (keys_one c.args.numbers.now.version one))
