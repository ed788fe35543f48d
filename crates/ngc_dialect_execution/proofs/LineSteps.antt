-- The words of a line's statements.
use Rattle.std.proofs.Common.{◌≡◌, ◌<◌, ◌+◌, suc, ℕ, Bool, true, false, not, cond, List, [], ◌∷◌, ◌++◌, length, drop, get_or, refl, sym, ◌∙◌, ap, arith}
use Rattle.std.proofs.Math.Seq.{drop-cons}
use Rattle.std.proofs.lemmas.List.{append_assoc}
use Rattle.ngc_dialect_parameters.specs.declared.statement.Statement.{Statement}
use Rattle.ngc_dialect_parameters.specs.declared.statement.Statement.TheVariants as statements
use Rattle.ngc_dialect_parameters.specs.declared.statement.Word.{Word}
use Rattle.ngc_dialect_execution.specs.Flow.{is_flow_word, others_in}
use Rattle.ngc_dialect_execution.specs.Taken.{words_of}

-- the words of a list of statements are those of the first one and of the rest
words_first : (s : Statement) (rest : List Statement) → words_of (s ∷ rest) ≡ words_of (s ∷ []) ++ words_of rest
words_first (statements.Word w) rest = refl
words_first (statements.Delete level) rest = refl
words_first (statements.LineNumber z) rest = refl
words_first statements.Percent rest = refl
words_first statements.Home rest = refl
words_first (statements.Set n v) rest = refl
words_first (statements.SetNamed name z) rest = refl
words_first (statements.Label z) rest = refl
words_first (statements.LabelNamed name) rest = refl
words_first (statements.Flow k n) rest = refl
words_first (statements.GoTo z) rest = refl
words_first (statements.Loop holds z) rest = refl
words_first (statements.EndLoop z) rest = refl

pub one_more_word : (ss : List Statement) (i : ℕ) (x e : Statement) (before after all : List Word) → i < length ss → x ≡ get_or ss i e
    → after ≡ before ++ words_of (x ∷ []) → before ++ words_of (drop i ss) ≡ all → after ++ words_of (drop (i + 1) ss) ≡ all
one_more_word ss i x e before after all within is added whole =
    let one : i + 1 ≡ suc i = omega arith in
    let here : drop i ss ≡ x ∷ drop (i + 1) ss =
    drop-cons ss i e within ∙ ap (λ (y : Statement). y ∷ drop (suc i) ss) (sym is) ∙ ap (λ (n : ℕ). x ∷ drop n ss) (sym one) in
    ap (λ (ws : List Word). ws ++ words_of (drop (i + 1) ss)) added
    ∙ append_assoc before (words_of (x ∷ [])) (words_of (drop (i + 1) ss))
    ∙ ap (λ (ws : List Word). before ++ ws) (sym (words_first x (drop (i + 1) ss)))
    ∙ ap (λ (ts : List Statement). before ++ words_of ts) (sym here) ∙ whole

-- ---- the words that the flow leaves

others_first : (calls : Bool) (w : Word) (rest : List Word) → others_in calls (w ∷ rest) ≡ others_in calls (w ∷ []) ++ others_in calls rest
others_first calls w rest = by (not (is_flow_word calls w)) where
  by : (b : Bool) → cond b (w ∷ others_in calls rest) (others_in calls rest) ≡ cond b (w ∷ []) [] ++ others_in calls rest
  by true = refl
  by false = refl

pub one_more_other : (calls : Bool) (ws : List Word) (i : ℕ) (x e : Word) (before after all : List Word) → i < length ws → x ≡ get_or ws i e
    → after ≡ before ++ others_in calls (x ∷ []) → before ++ others_in calls (drop i ws) ≡ all → after ++ others_in calls (drop (i + 1) ws) ≡ all
one_more_other calls ws i x e before after all within is added whole =
    let one : i + 1 ≡ suc i = omega arith in
    let here : drop i ws ≡ x ∷ drop (i + 1) ws =
    drop-cons ws i e within ∙ ap (λ (y : Word). y ∷ drop (suc i) ws) (sym is) ∙ ap (λ (n : ℕ). x ∷ drop n ws) (sym one) in
    ap (λ (vs : List Word). vs ++ others_in calls (drop (i + 1) ws)) added
    ∙ append_assoc before (others_in calls (x ∷ [])) (others_in calls (drop (i + 1) ws))
    ∙ ap (λ (vs : List Word). before ++ vs) (sym (others_first calls x (drop (i + 1) ws)))
    ∙ ap (λ (vs : List Word). before ++ others_in calls vs) (sym here) ∙ whole
