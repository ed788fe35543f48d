-- One more word or setting.
use Rattle.std.proofs.Common.{◌≡◌, ℕ, ℤ, pos, ◌+◌, ◌<◌, ◌≤◌, suc, Bool, true, false, List, [], ◌∷◌, ◌++◌, length, map, drop, get_or, ap, refl, sym, ◌∙◌, arith}
use Rattle.std.specs.Prelude.{if◌then◌else◌, ◌==◌}
use Rattle.std.proofs.Math.ListN.{set}
use Rattle.std.proofs.lemmas.List.{get_or-set_other}
use Rattle.std.proofs.lemmas.Grind.{get_or-set_at}
use Rattle.std.proofs.lemmas.Bool.{eqb-true}
use Rattle.std.proofs.lemmas.Bool.Decides.{nat_tests}
use Rattle.ngc_parameters.specs.declared.change.Change.{Change}
use Rattle.ngc_parameters.specs.Meaning.{Parameters, after_settings}
use Rattle.ngc_parameters.specs.EvaluateView.{held}
use Rattle.ngc_parameters.specs.Stored.{change_pairs}
use Rattle.std.proofs.Math.Seq.{drop-cons}

pub map-push : {X Y : Type 0} (f : X → Y) (xs : List X) (x : X) → map f (xs ++ (x ∷ [])) ≡ map f xs ++ (f x ∷ [])
map-push f [] x = refl
map-push f (y ∷ xs) x = ap (λ l. f y ∷ l) (map-push f xs x)

pub ruleset mapped = map-push

-- a later value counts
pub after_at : (cs : List (ℕ × ℤ)) (p q : Parameters) (k : ℕ) → p k ≡ q k → after_settings cs p k ≡ after_settings cs q k
after_at [] p q k e = e
after_at ((i, x) ∷ cs) p q k e = after_at cs _ _ k (ap (λ (y : ℤ). if k == i then x else y) e)

-- the change at an index of the list is made
pub change_made : (cs : List Change) (i : ℕ) (x : Change) (p q : Parameters) (k : ℕ) → i < length cs → x ≡ get_or cs i x →
    q k ≡ (if k == x.index then x.value else p k)
    → after_settings (change_pairs (drop (i + 1) cs)) q k ≡ after_settings (change_pairs (drop i cs)) p k
change_made cs i x p q k h e f =
    let one : i + 1 ≡ suc i = omega arith in
    let parts : drop i cs ≡ x ∷ drop (i + 1) cs = drop-cons cs i x h ∙ ap (λ (y : Change). y ∷ drop (suc i) cs) (sym e)
    ∙ ap (λ (n : ℕ). x ∷ drop n cs) (sym one) in
    after_at (change_pairs (drop (i + 1) cs)) q (λ j. if j == x.index then x.value else p j) k f
    ∙ ap (λ (l : List Change). after_settings (change_pairs l) p k) (sym parts)

-- the list of values after a write
pub written : (vs : List ℤ) (i k : ℕ) (x : ℤ) → i < length vs → held (set vs i x) k ≡ (if k == i then x else held vs k)
written vs i k x h = by_test (k == i) refl where
  by_test : (b : Bool) → (k == i) ≡ b → held (set vs i x) k ≡ (if b then x else held vs k)
  by_test true e = get_or-set_at vs i k x (pos 0) (eqb-true k i e) h
  by_test false e = get_or-set_other vs i k x (pos 0) (λ same. differs k i e same) where
    differs : (k i : ℕ) → (k == i) ≡ false → k ≡ i → ⊥
    differs k i e f = grind (arith, nat_tests)

pub other : (n i k : ℕ) → k ≤ 5160 → n ≡ 5161 → n ≤ i → (k == i) ≡ false
other n i k h e f = grind (arith, nat_tests)

pub ruleset changed = (written, other)
