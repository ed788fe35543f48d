-- Words that are kept, one after another.
use Rattle.std.proofs.Common.{◌≡◌, ◌<◌, ◌+◌, suc, ℕ, Bool, true, false, cond, List, [], ◌∷◌, ◌++◌, length, drop, get_or, refl, sym, ◌∙◌, ap, arith}
use Rattle.std.proofs.Math.Seq.{drop-cons}
use Rattle.std.proofs.lemmas.List.{append_assoc}
use Rattle.ngc_dialect_parameters.specs.declared.statement.Word.{Word}
use Rattle.ngc_dialect_repeats.specs.declared.kept.Kept.{Kept}
use Rattle.ngc_dialect_repeats.specs.Kept.{keeps, kept_words}

kept_first : (k : Kept) (w : Word) (rest : List Word) → kept_words k (w ∷ rest) ≡ kept_words k (w ∷ []) ++ kept_words k rest
kept_first k w rest = by (keeps k w.letter) where
  by : (b : Bool) → cond b (w ∷ kept_words k rest) (kept_words k rest) ≡ cond b (w ∷ []) [] ++ kept_words k rest
  by true = refl
  by false = refl

pub one_more_kept : (k : Kept) (ws : List Word) (i : ℕ) (x e : Word) (before after all : List Word) → i < length ws → x ≡ get_or ws i e
    → after ≡ before ++ kept_words k (x ∷ []) → before ++ kept_words k (drop i ws) ≡ all → after ++ kept_words k (drop (i + 1) ws) ≡ all
one_more_kept k ws i x e before after all within is added whole =
    let one : i + 1 ≡ suc i = omega arith in
    let here : drop i ws ≡ x ∷ drop (i + 1) ws =
    drop-cons ws i e within ∙ ap (λ (y : Word). y ∷ drop (suc i) ws) (sym is) ∙ ap (λ (n : ℕ). x ∷ drop n ws) (sym one) in
    ap (λ (vs : List Word). vs ++ kept_words k (drop (i + 1) ws)) added
    ∙ append_assoc before (kept_words k (x ∷ [])) (kept_words k (drop (i + 1) ws))
    ∙ ap (λ (vs : List Word). before ++ vs) (sym (kept_first k x (drop (i + 1) ws)))
    ∙ ap (λ (vs : List Word). before ++ kept_words k vs) (sym here) ∙ whole
