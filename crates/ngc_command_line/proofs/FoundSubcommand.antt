-- The subcommand that was found, by its name and its values.
use Rattle.std.proofs.Common.{◌≡◌, ◌∙◌, List, Option, Some, None, ap₂, sym, option_map}
use Rattle.std.proofs.lemmas.Option.{same_Some}
use Rattle.clap.specs.Words.{Row, Text}

-- what was found, from its parts
pub found_from_parts : {X : Type 0} (s : Option X) (f : X → Text) (g : X → List Row) (name : Text) (rows : List Row) (S : Option (Text × List Row))
    → Some name ≡ option_map f s → Some rows ≡ option_map (λ (p : Text × List Row). p.1) (option_map (λ b. (f b, g b)) s)
    → option_map (λ b. (f b, g b)) s ≡ S → S ≡ Some (name, rows)
found_from_parts None f g name rows S named valued is = let bad : Some name ≡ None = named in cc
found_from_parts (Some x) f g name rows S named valued is =
    let pair : Text → List Row → Option (Text × List Row) = λ n rs. Some (n, rs) in
    sym is ∙ ap₂ pair (sym (same_Some _ _ named)) (sym (same_Some _ _ valued))
