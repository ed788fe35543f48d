-- How far a text is written.
use Rattle.std.proofs.Common.{◌≡◌, ℕ, List, [], ◌∷◌, ◌++◌, Option, Some, None, ap, sym, codes, subst, refl, ◌∙◌}
use Rattle.std.proofs.lemmas.List.{append_assoc, append-nil}
use Rattle.std.specs.Io.KnownBytes.{Appends}
use Rattle.ngc_text.specs.Written.{AppendsPrefix}
use Rattle.ngc_fault_texts.specs.Explanations.{joined}
use Rattle.ngc_text.proofs.AppendedTexts.{appends_both, begins_after}

-- some bytes are written, and then the rest
abbrev pub Reached : Option (List ℕ) → Option (List ℕ) → List ℕ → List ℕ → Type 0
Reached old now rest whole = (bs : List ℕ) × Appends old now bs × (whole ≡ bs ++ rest)

pub nothing_written : (old : Option (List ℕ)) → Appends old old []
nothing_written None = tt
nothing_written (Some xs) = sym (append-nil xs)

pub begun : (old : Option (List ℕ)) (whole : List ℕ) → Reached old old whole whole
begun old whole = ([], nothing_written old, refl)

pub went_on : (old mid new : Option (List ℕ)) (a rest left whole : List ℕ) → left ≡ a ++ rest → Reached old mid left whole → Appends mid new a →
    Reached old new rest whole
went_on old mid new a rest left whole is done more =
    (done.0 ++ a, appends_both old mid new done.0 a done.1 more, done.2 ∙ ap (λ l. done.0 ++ l) is ∙ sym (append_assoc done.0 a rest))

pub left : (old now : Option (List ℕ)) (rest before whole : List ℕ) → before ≡ rest → Reached old now before whole → Reached old now rest whole
left old now rest before whole is done = (done.0, done.1, done.2 ∙ ap (λ l. done.0 ++ l) is)

pub stopped : (old mid new : Option (List ℕ)) (a rest left whole : List ℕ) → left ≡ a ++ rest → Reached old mid left whole → AppendsPrefix mid new a →
    AppendsPrefix old new whole
stopped old mid new a rest left whole is done part =
    let P : List ℕ → Type 0 = λ text. AppendsPrefix old new text in
    subst P (sym (done.2 ∙ ap (λ l. done.0 ++ l) is)) (begins_after old mid new done.0 a rest done.1 part)

pub finished : (old now : Option (List ℕ)) (rest whole : List ℕ) → rest ≡ [] → Reached old now rest whole → Appends old now whole
finished old now rest whole none done =
    let P : List ℕ → Type 0 = λ text. Appends old now text in
    subst P (sym (done.2 ∙ ap (λ l. done.0 ++ l) none ∙ append-nil done.0)) done.1

-- three texts in order
pub three_written : (old a b new : Option (List ℕ)) (x y z : List ℕ) → Appends old a x → Appends a b y → Appends b new z → Appends old new (x ++ (y ++ z))
three_written old a b new x y z first second third = appends_both old a new x (y ++ z) first (appends_both a b new y z second third)

pub first_broken : (old new : Option (List ℕ)) (x more : List ℕ) → AppendsPrefix old new x → AppendsPrefix old new (x ++ more)
first_broken old new x more part = (part.0, part.1 ++ more, ap (λ l. l ++ more) part.2 ∙ append_assoc part.0 part.1 more, part.3)

broken_behind : (old mid new : Option (List ℕ)) (x text : List ℕ) → Appends old mid x → AppendsPrefix mid new text → AppendsPrefix old new (x ++ text)
broken_behind old mid new x text done part =
    (x ++ part.0, part.1, ap (λ l. x ++ l) part.2 ∙ sym (append_assoc x part.0 part.1), appends_both old mid new x part.0 done part.3)

pub second_broken : (old a new : Option (List ℕ)) (x y z : List ℕ) → Appends old a x → AppendsPrefix a new y → AppendsPrefix old new (x ++ (y ++ z))
second_broken old a new x y z first part = begins_after old a new x y z first part

pub third_broken : (old a b new : Option (List ℕ)) (x y z : List ℕ) → Appends old a x → Appends a b y → AppendsPrefix b new z →
    AppendsPrefix old new (x ++ (y ++ z))
third_broken old a b new x y z first second part = broken_behind old a new x (y ++ z) first (broken_behind a b new y z second part)

-- the texts of a row's beginning, by what they are
abbrev beginning : List ℕ → List ℕ → List ℕ → List ℕ → List ℕ → List ℕ
beginning number title rule example answer = joined (codes "Fault " ∷ number ∷ codes " (" ∷ title ∷ codes ")\n\n"
    ∷ rule ∷ codes "\n\nExample: " ∷ example ∷ codes "\nMessage: " ∷ answer ∷ codes "\n" ∷ [])

pub beginning_same : (number title rule example answer a b c d e : List ℕ) → a ≡ number → b ≡ title → c ≡ rule → d ≡ example → e ≡ answer
    → beginning a b c d e ≡ beginning number title rule example answer
beginning_same number title rule example answer a b c d e ha hb hc hd he = rw (ha, hb, hc, hd, he) refl

pub column_same : (column place a b : List ℕ) → a ≡ column → b ≡ place
    → joined (a ∷ codes ": " ∷ b ∷ codes "\n" ∷ []) ≡ joined (column ∷ codes ": " ∷ place ∷ codes "\n" ∷ [])
column_same column place a b ha hb = rw (ha, hb) refl
