-- The boxes of the parts of a tool.
use Rattle.std.proofs.Common.{◌≡◌, ◌+◌, ◌<◌, ◌++◌, ℕ, ℤ, ◌+ℤ◌, List, [], ◌∷◌, map, drop, length, get_or, refl, ap, sym, ◌∙◌}
use Rattle.std.proofs.lemmas.List.{drop_more}
use Rattle.ngc_machine_files.specs.declared.parts.Part.{Part}
use Rattle.ngc_collision.specs.Body as bodies
use Rattle.ngc_collision.specs.Body.{filled, stacked}
use Rattle.ngc_collision.specs.Inside.{solid_of}
use Rattle.ngc_collision.specs.declared.solid.Solid.{Solid}

one_more : (solids : List Solid) (s : Solid) (rest : List bodies.Solid) → map solid_of (solids ++ s ∷ []) ++ rest ≡ map solid_of solids ++ (solid_of s ∷ rest)
one_more [] s rest = refl
one_more (t ∷ ts) s rest = ap (λ l. solid_of t ∷ l) (one_more ts s rest)

-- one more part on top
pub stacked-more : (whole : List bodies.Solid) (parts : List Part) (i : ℕ) (part : Part) (foot top : ℤ) (b : bodies.Solid) (solids more : List Solid)
    (s : Solid) →
    i < length parts → part ≡ get_or parts i part → top ≡ foot +ℤ part.length → solid_of s ≡ filled part foot b → more ≡ solids ++ s ∷ [] →
    whole ≡ map solid_of solids ++ stacked foot (drop i parts) b → whole ≡ map solid_of more ++ stacked top (drop (i + 1) parts) b
stacked-more whole parts i part foot top b solids more s lt at top_is solid_is more_is h =
    let next : drop i parts ≡ part ∷ drop (i + 1) parts = drop_more parts i part lt ∙ ap (λ p. p ∷ drop (i + 1) parts) (sym at) in
    let rest : List bodies.Solid = stacked (foot +ℤ part.length) (drop (i + 1) parts) b in
    h
    ∙ ap (λ ps. map solid_of solids ++ stacked foot ps b) next
    ∙ ap (λ x. map solid_of solids ++ (x ∷ rest)) (sym solid_is)
    ∙ sym (one_more solids s rest)
    ∙ ap (λ l. map solid_of l ++ rest) (sym more_is)
    ∙ ap (λ z. map solid_of more ++ stacked z (drop (i + 1) parts) b) (sym top_is)
