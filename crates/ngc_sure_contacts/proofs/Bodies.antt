-- The parts of a tool, one after another.
use Rattle.std.proofs.Common.{◌≡◌, ℕ, ◌+◌, ◌<◌, ◌≤◌, ℤ, unsigned_abs, List, [], ◌∷◌, ◌++◌, length, get_or, drop, ap, ap₂, sym, ◌∙◌, append_assoc, append-nil}
use Rattle.std.proofs.Math.ListN.{drop_of_length-le}
use Rattle.std.proofs.lemmas.List.{drop_more}
use Rattle.ngc_machine_files.specs.declared.parts.Part.{Part}
use Rattle.ngc_stock.specs.declared.cylinder.Cylinder.{Cylinder}
use Rattle.ngc_sure_contacts.specs.Swept.{stacked, foot_over}

-- one part more
pub next_part : (ps : List Part) (i : ℕ) (p : Part) (foot next : ℤ) (r up : ℕ) (before later all : List Cylinder) → i < length ps → p ≡ get_or ps i p →
    r ≡ unsigned_abs p.radius → up ≡ unsigned_abs p.length → next ≡ foot_over foot up → later ≡ before ++ record { bottom = foot; radius = r } ∷ [] →
    before ++ stacked foot (drop i ps) ≡ all → later ++ stacked next (drop (i + 1) ps) ≡ all
next_part ps i p foot next r up before later all inside found wide high above push so_far =
    let rest = stacked (foot_over foot (unsigned_abs p.length)) (drop (i + 1) ps) in
    ap₂ (λ (cs : List Cylinder) (z : ℤ). cs ++ stacked z (drop (i + 1) ps)) push (above ∙ ap (λ (n : ℕ). foot_over foot n) high)
    ∙ append_assoc before (record { bottom = foot; radius = r } ∷ []) rest
    ∙ ap (λ (x : ℕ). before ++ record { bottom = foot; radius = x } ∷ rest) wide
    ∙ ap (λ (x : Part). before ++ stacked foot (x ∷ drop (i + 1) ps)) found
    ∙ ap (λ (xs : List Part). before ++ stacked foot xs) (sym (drop_more ps i p inside))
    ∙ so_far

-- all of them
pub all_parts : (ps : List Part) (i : ℕ) (foot : ℤ) (cs all : List Cylinder) → length ps ≤ i → cs ++ stacked foot (drop i ps) ≡ all → cs ≡ all
all_parts ps i foot cs all ends h =
    sym (append-nil cs) ∙ ap (λ (xs : List Part). cs ++ stacked foot xs) (sym (drop_of_length-le ps ends)) ∙ h
