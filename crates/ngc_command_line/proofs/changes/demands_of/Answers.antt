use Rattle.std.proofs.Common.{◌≡◌, ◌∙◌, Option, ap, ap₂, codes}
use Rattle.clap.specs.Words.{Text, found_of}
use Rattle.clap.proofs.WalkLemmas.{first_value-rows}
use Rattle.ngc_margins.specs.Texts.{parsed_demands}
use Rattle.ngc_command_line.proofs.changes.demands_of.Goals as goal

same_texts : (a b c x y z : Option Text) → a ≡ x → b ≡ y → c ≡ z → parsed_demands a b c ≡ parsed_demands x y z
same_texts a b c x y z first second third =
    ap (λ (t : Option Text). parsed_demands t b c) first ∙ ap₂ (λ (t u : Option Text). parsed_demands x t u) second third

pub returns : goal.returns
returns c =
    let found = found_of c.args.found.now in
    c.read_demands.ensures ∙ same_texts _ _ _ _ _ _ (c.get_str.ensures ∙ first_value-rows found (codes "margin"))
    (c.get_str-2.ensures ∙ first_value-rows found (codes "travel-margin")) (c.get_str-3.ensures ∙ first_value-rows found (codes "rapids"))
