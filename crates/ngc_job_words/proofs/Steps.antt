-- The words before a place, and one word more.
use Rattle.std.proofs.Common.{◌≡◌, ◌<◌, ◌≤◌, ℕ, zero, suc, ◌+◌, List, [], ◌∷◌, ◌++◌, take, drop, length, codes, Bool, true, false, not, ◌&&◌, ◌==◌, cond, map, get_or, Option, Some, None, ap, sym, ◌∙◌, refl, arith, add-one}
use Rattle.std.specs.Prelude.{option_and_then}
use Rattle.std.proofs.lemmas.List.{append-nil, get_or-map, length-map, take-append-drop}
use Rattle.std.proofs.lemmas.Slice.Eq.{bytes_eq-Decides}
use Rattle.std.specs.Str.{bytes_eq}
use Rattle.ngc_job_words.specs.Commands.{Text}
use Rattle.ngc_job_words.specs.Places.{is_file, is_value, word_at}
use Rattle.ngc_job_words.specs.Seen.{Words, seen_before, seen_of, with_word}
use Rattle.ngc_job_words.specs.Words.{after, begins_with, is_plain, takes_value, value_in}

same_word : (word name : Text) → bytes_eq word name ≡ true → word ≡ name
same_word word name h = (bytes_eq-Decides word name).0 h

-- ---- --job

job_takes : (word : Text) → bytes_eq word (codes "--job") ≡ true → takes_value word ≡ true
job_takes word h = rw (same_word word (codes "--job") h) refl

job_no_file : (word : Text) → bytes_eq word (codes "--job") ≡ true → value_in (codes "--job") word ≡ None
job_no_file word h = rw (same_word word (codes "--job") h) refl

job_not_plain : (word : Text) → bytes_eq word (codes "--job") ≡ true → is_plain word ≡ false
job_not_plain word h = rw (same_word word (codes "--job") h) refl

-- its file is a value
value_by : (rest : List Text) (i : ℕ) (v j : Bool) → is_value rest i ≡ v
    → bytes_eq (word_at rest i) (codes "--job") ≡ j → (not v && j) ≡ true → is_value rest (suc i) ≡ true
value_by rest i false true ev ej h = simp (job_takes (word_at rest i) ej, ev) refl
value_by rest i true j ev ej h = absurd (cc h)
value_by rest i false false ev ej h = absurd (cc h)

file_is_value : (rest : List Text) (n : ℕ) → is_file rest n ≡ true → is_value rest n ≡ true
file_is_value rest zero h = absurd (cc h)
file_is_value rest (suc i) h =
    value_by rest i (is_value rest i) (bytes_eq (word_at rest i) (codes "--job")) refl refl h

-- ---- --job=FILE

begun_with : (p word : Text) → begins_with p word ≡ true → word ≡ p ++ drop (length p) word
begun_with p word h =
    sym (take-append-drop (length p) word)
    ∙ ap (λ t. t ++ drop (length p) word) (same_word (take (length p) word) p h)

after_by : (p word rest : Text) (b : Bool) → begins_with p word ≡ b
    → cond b (Some (drop (length p) word)) None ≡ Some rest → word ≡ p ++ rest
after_by p word rest true e h =
    let same : drop (length p) word ≡ rest = cc h in
    begun_with p word e ∙ ap (λ t. p ++ t) same
after_by p word rest false e h = absurd (cc h)

found_after : (p word rest : Text) → after p word ≡ Some rest → word ≡ p ++ rest
found_after p word rest h = after_by p word rest (begins_with p word) refl h

joined_by : (word file : Text) (o : Option Text) → after (codes "--job") word ≡ o
    → option_and_then (after (codes "=")) o ≡ Some file → word ≡ codes "--job" ++ (codes "=" ++ file)
joined_by word file (Some rest) e h =
    found_after (codes "--job") word rest e ∙ ap (λ t. codes "--job" ++ t) (found_after (codes "=") rest file h)
joined_by word file None e h = absurd (cc h)

joined : (word file : Text) → value_in (codes "--job") word ≡ Some file
    → word ≡ codes "--job" ++ (codes "=" ++ file)
joined word file h = joined_by word file (after (codes "--job") word) refl h

joined_takes : (word file : Text) → value_in (codes "--job") word ≡ Some file → takes_value word ≡ false
joined_takes word file h = rw (joined word file h) refl

joined_not_plain : (word file : Text) → value_in (codes "--job") word ≡ Some file → is_plain word ≡ false
joined_not_plain word file h = rw (joined word file h) refl

-- ---- a plain word

plain_by : (b : ℕ) (rest : Text) (e : Bool) → (b == 45) ≡ e → not e ≡ true → takes_value (b ∷ rest) ≡ false
plain_by b rest false h n = simp h refl
plain_by b rest true h n = absurd (cc n)

plain_takes : (word : Text) → is_plain word ≡ true → takes_value word ≡ false
plain_takes [] h = absurd (cc h)
plain_takes (b ∷ rest) h = plain_by b rest (b == 45) refl h

-- ---- a word more

step_file : (command : Text) (rest : List Text) (n : ℕ) → is_file rest n ≡ true → is_value rest n ≡ true
    → with_word (seen_before command rest n) (word_at rest n) ≡ seen_before command rest (suc n)
step_file command rest n ef ev = simp (ef, ev, append-nil) refl

step_value : (command : Text) (rest : List Text) (n : ℕ) → is_file rest n ≡ false → is_value rest n ≡ true
    → with_word (seen_before command rest n) (word_at rest n) ≡ seen_before command rest (suc n)
step_value command rest n ef ev = simp (ef, ev, append-nil) refl

step_job : (command : Text) (rest : List Text) (n : ℕ) → is_file rest n ≡ false → is_value rest n ≡ false
    → bytes_eq (word_at rest n) (codes "--job") ≡ true
    → with_word (seen_before command rest n) (word_at rest n) ≡ seen_before command rest (suc n)
step_job command rest n ef ev ej =
    simp (ef, ev, ej, job_takes (word_at rest n) ej, job_no_file (word_at rest n) ej, job_not_plain (word_at rest n) ej, append-nil) refl

step_joined : (command : Text) (rest : List Text) (n : ℕ) (file : Text) → is_file rest n ≡ false
    → is_value rest n ≡ false → bytes_eq (word_at rest n) (codes "--job") ≡ false
    → value_in (codes "--job") (word_at rest n) ≡ Some file
    → with_word (seen_before command rest n) (word_at rest n) ≡ seen_before command rest (suc n)
step_joined command rest n file ef ev ej eo =
    simp (ef, ev, ej, eo, joined_takes (word_at rest n) file eo, joined_not_plain (word_at rest n) file eo, append-nil) refl

step_plain : (command : Text) (rest : List Text) (n : ℕ) → is_file rest n ≡ false
    → is_value rest n ≡ false → bytes_eq (word_at rest n) (codes "--job") ≡ false
    → value_in (codes "--job") (word_at rest n) ≡ None → is_plain (word_at rest n) ≡ true
    → with_word (seen_before command rest n) (word_at rest n) ≡ seen_before command rest (suc n)
step_plain command rest n ef ev ej eo ep =
    simp (ef, ev, ej, eo, ep, plain_takes (word_at rest n) ep, append-nil) refl

step_other : (command : Text) (rest : List Text) (n : ℕ) → is_file rest n ≡ false
    → is_value rest n ≡ false → bytes_eq (word_at rest n) (codes "--job") ≡ false
    → value_in (codes "--job") (word_at rest n) ≡ None → is_plain (word_at rest n) ≡ false
    → with_word (seen_before command rest n) (word_at rest n) ≡ seen_before command rest (suc n)
step_other command rest n ef ev ej eo ep = simp (ef, ev, ej, eo, ep, append-nil) refl

step_by : (command : Text) (rest : List Text) (n : ℕ) (f v j p : Bool) (o : Option Text)
    → is_file rest n ≡ f → is_value rest n ≡ v → bytes_eq (word_at rest n) (codes "--job") ≡ j
    → value_in (codes "--job") (word_at rest n) ≡ o → is_plain (word_at rest n) ≡ p
    → with_word (seen_before command rest n) (word_at rest n) ≡ seen_before command rest (suc n)
step_by command rest n true v j p o ef ev ej eo ep = step_file command rest n ef (file_is_value rest n ef)
step_by command rest n false true j p o ef ev ej eo ep = step_value command rest n ef ev
step_by command rest n false false true p o ef ev ej eo ep = step_job command rest n ef ev ej
step_by command rest n false false false p (Some file) ef ev ej eo ep = step_joined command rest n file ef ev ej eo
step_by command rest n false false false true None ef ev ej eo ep = step_plain command rest n ef ev ej eo ep
step_by command rest n false false false false None ef ev ej eo ep = step_other command rest n ef ev ej eo ep

step : (command : Text) (rest : List Text) (n : ℕ)
    → with_word (seen_before command rest n) (word_at rest n) ≡ seen_before command rest (n + 1)
step command rest n = rw add-one (step_by command rest n _ _ _ _ _ refl refl refl refl refl)

pub one_more : {X : Type 0} (command : Text) (f : X → Text) (xs : List X) (n : ℕ) (d : X) (old new : Words)
    → n < length xs → old ≡ seen_before command (map f xs) n → new ≡ with_word old (f (get_or xs n d))
    → new ≡ seen_before command (map f xs) (n + 1)
one_more command f xs n d old new less is next =
    next
    ∙ ap (λ s. with_word s (f (get_or xs n d))) is
    ∙ ap (with_word (seen_before command (map f xs) n)) (sym (get_or-map f xs n d [] less))
    ∙ step command (map f xs) n

pub all_seen : {X : Type 0} (command : Text) (f : X → Text) (xs : List X) (n : ℕ) (seen : Words)
    → n ≤ length xs → length xs ≤ n → seen ≡ seen_before command (map f xs) n → seen ≡ seen_of command (map f xs)
all_seen command f xs n seen below above is =
    let same : n ≡ length (map f xs) = omega (arith, below, above, length-map xs f) in
    is ∙ ap (seen_before command (map f xs)) same
