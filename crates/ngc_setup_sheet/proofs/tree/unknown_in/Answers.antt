use Rattle.std.proofs.Common.{◌∙◌, ap, sym, map, Some, take, option_map, string_bytes}
use Rattle.ngc_setup_sheet.proofs.Values.{unknown_key-find}
use Rattle.ngc_setup_sheet.proofs.tree.unknown_in.Goals as goal

pub returns-in-Some : goal.returns-in-Some
returns-in-Some c =
    ap Some (c.of.ensures ∙ ap (take 64) c.as_str.ensures.value)
    ∙ ap (option_map (λ k. take 64 (string_bytes k))) c.in-Some.ensures
    ∙ sym (unknown_key-find (map (λ k. k.now) c.args.keys.now) c.args.table.now.entries)

pub returns-in-None : goal.returns-in-None
returns-in-None c =
    ap (option_map (λ k. take 64 (string_bytes k))) c.in-None.ensures
    ∙ sym (unknown_key-find (map (λ k. k.now) c.args.keys.now) c.args.table.now.entries)
