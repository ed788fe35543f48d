-- Origins that are replaced one at a time, in the order of the systems, and their range.
use Rattle.std.proofs.Common.{◌≡◌, ◌∙◌, ℕ, ◌+◌, ◌<◌, List, [], ◌∷◌, ◌++◌, Option, Some, None, IfSome, length, take, drop, set, get_or, ap, ap₂, sym, arith}
use Rattle.std.specs.Prelude.{unwrap_or}
use Rattle.std.specs.List.{All}
use Rattle.std.proofs.lemmas.List.{append_assoc, drop_more, drop-set-lt, take_more, take_more_set}
use Rattle.std.proofs.lemmas.List.Elements.{All-cons, All-head, All-nil, All-tail}
use Rattle.ngc_fixed_length.specs.declared.points.Point3.{Point3}
use Rattle.ngc_machine_files.specs.Ranges.{IsSized, NEAR_LIMIT, PLACE_LIMIT}
use Rattle.ngc_origins.specs.Placed.{replaced}
use Rattle.ngc_origins.specs.Texts.{OriginList}

-- the places that are done, and the others as they will be
abbrev pub with_rest : OriginList → ℕ → List Point3 → List Point3
with_rest origins i places = take i places ++ replaced (drop i origins) (drop i places)

pub one_given : (origins : OriginList) (places now : List Point3) (i : ℕ) (o : Option Point3) (p : Point3) → i < length origins → i < length places
    → o ≡ get_or origins i o → o ≡ Some p → now ≡ set places i p → with_rest origins (i + 1) now ≡ with_rest origins i places
one_given origins places now i o p within inside is given stored =
    let origin : drop i origins ≡ Some p ∷ drop (i + 1) origins =
    drop_more origins i o within ∙ ap (λ (x : Option Point3). x ∷ drop (i + 1) origins) (sym is ∙ given) in
    let rest = replaced (drop (i + 1) origins) (drop (i + 1) places) in
    ap (with_rest origins (i + 1)) stored
    ∙ ap₂ (λ (t d : List Point3). t ++ replaced (drop (i + 1) origins) d) (take_more_set places i p inside) (drop-set-lt (i + 1) places i p (omega arith))
    ∙ append_assoc (take i places) (p ∷ []) rest
    ∙ ap (λ (r : List Point3). take i places ++ r) (sym (ap₂ replaced origin (drop_more places i p inside)))

pub one_kept : (origins : OriginList) (places now : List Point3) (i : ℕ) (o : Option Point3) (d : Point3) → i < length origins → i < length places
    → o ≡ get_or origins i o → o ≡ None → now ≡ places → with_rest origins (i + 1) now ≡ with_rest origins i places
one_kept origins places now i o d within inside is given stored =
    let origin : drop i origins ≡ None ∷ drop (i + 1) origins =
    drop_more origins i o within ∙ ap (λ (x : Option Point3). x ∷ drop (i + 1) origins) (sym is ∙ given) in
    let place = get_or places i d in
    let rest = replaced (drop (i + 1) origins) (drop (i + 1) places) in
    ap (with_rest origins (i + 1)) stored
    ∙ ap (λ (t : List Point3). t ++ rest) (take_more places i d inside)
    ∙ append_assoc (take i places) (place ∷ []) rest
    ∙ ap (λ (r : List Point3). take i places ++ r) (sym (ap₂ replaced origin (drop_more places i d inside)))

-- a place at most a metre from zero is in the range of a machine's origins
farther : (p : Point3) → IsSized NEAR_LIMIT p → IsSized PLACE_LIMIT p
farther p near = record { x = omega (arith, near.x); y = omega (arith, near.y); z = omega (arith, near.z) }

in_range : (o : Option Point3) (p : Point3) → IfSome o (IsSized NEAR_LIMIT) → IsSized PLACE_LIMIT p → IsSized PLACE_LIMIT (unwrap_or o p)
in_range None p given sized = sized
in_range (Some q) p given sized = farther q given

pub replaced_sized : (origins : OriginList) (own : List Point3) → All (λ o. IfSome o (IsSized NEAR_LIMIT)) origins → All (IsSized PLACE_LIMIT) own
    → All (IsSized PLACE_LIMIT) (replaced origins own)
replaced_sized [] own given sized = sized
replaced_sized (o ∷ origins) [] given sized = All-nil (IsSized PLACE_LIMIT)
replaced_sized (o ∷ origins) (p ∷ own) given sized =
    All-cons (IsSized PLACE_LIMIT) _ _
    (in_range o p (All-head (λ o. IfSome o (IsSized NEAR_LIMIT)) o origins given) (All-head (IsSized PLACE_LIMIT) p own sized))
    (replaced_sized origins own (All-tail (λ o. IfSome o (IsSized NEAR_LIMIT)) o origins given) (All-tail (IsSized PLACE_LIMIT) p own sized))
