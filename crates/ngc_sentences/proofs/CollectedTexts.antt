-- Text that is collected and written from the front, one text at a time.
use Rattle.std.proofs.Common.{◌≡◌, ◌+◌, ◌<◌, ℕ, List, ◌∷◌, [], ◌++◌, length, get_or, take, drop, flat_map, Option, Result, Ok, Err, ap, sym, subst, ◌∙◌}
use Rattle.std.proofs.lemmas.List.{append_assoc, append-nil, get_or_default, flat_map_more, take_more, take-append-drop}
use Rattle.std.proofs.lemmas.List.Concat.{flat_map-append}
use Rattle.std.specs.Io.KnownBytes.{Appends}
use Rattle.ngc_text.specs.Written.{AppendsPrefix}
use Rattle.ngc_text.proofs.AppendedTexts.{appends_both, begins_after}
use Rattle.ngc_text.specs.declared.writing.WriteFault.{WriteFault}
use Rattle.ngc_text.specs.Collected.{WritesPrefix}
use Rattle.ngc_sentences.specs.Saying.{Collects}

-- one text and then another
pub front_more : (old mid new : Option (List ℕ)) (before between after text : List ℕ)
    → WritesPrefix old mid before between → WritesPrefix mid new (between ++ text) after → WritesPrefix old new (before ++ text) after
front_more old mid new before between after text h k = (
  h.0 ++ k.0,
  appends_both old mid new h.0 k.0 h.1 k.1,
  ap (λ l. l ++ text) h.2 ∙ append_assoc h.0 between text ∙ ap (λ l. h.0 ++ l) k.2 ∙ sym (append_assoc h.0 k.0 after),
)

-- more of it is written, and a text is added to the rest
pub front_moved : (old mid new : Option (List ℕ)) (before between made text : List ℕ)
    → WritesPrefix old mid before between → WritesPrefix mid new between made → WritesPrefix old new (before ++ text) (made ++ text)
front_moved old mid new before between made text h k = (
  h.0 ++ k.0,
  appends_both old mid new h.0 k.0 h.1 k.1,
  ap (λ l. l ++ text) (h.2 ∙ ap (λ l. h.0 ++ l) k.2 ∙ sym (append_assoc h.0 k.0 made)) ∙ append_assoc (h.0 ++ k.0) made text,
)

-- one text and then a prefix of another
pub front_stopped : (old mid new : Option (List ℕ)) (before between text : List ℕ)
    → WritesPrefix old mid before between → AppendsPrefix mid new (between ++ text) → AppendsPrefix old new (before ++ text)
front_stopped old mid new before between text h k =
    let whole : before ++ text ≡ h.0 ++ ((between ++ text) ++ []) =
    ap (λ l. l ++ text) h.2 ∙ append_assoc h.0 between text ∙ ap (λ l. h.0 ++ l) (sym (append-nil (between ++ text))) in
    subst (λ (l : List ℕ). AppendsPrefix old new l) (sym whole) (begins_after old mid new h.0 (between ++ text) [] h.1 k)

-- more text would follow
pub longer : (old new : Option (List ℕ)) (text more : List ℕ) → AppendsPrefix old new text → AppendsPrefix old new (text ++ more)
longer old new text more k = (k.0, k.1 ++ more, ap (λ l. l ++ more) k.2 ∙ append_assoc k.0 k.1 more, k.3)

-- the collected text is written too
pub all_written : (old mid new : Option (List ℕ)) (text after : List ℕ) → WritesPrefix old mid text after → Appends mid new after → Appends old new text
all_written old mid new text after h k = subst (λ (l : List ℕ). Appends old new l) (sym h.2) (appends_both old mid new h.0 after h.1 k)

pub beginning_written : (old mid new : Option (List ℕ)) (text after : List ℕ) → WritesPrefix old mid text after → AppendsPrefix mid new after →
    AppendsPrefix old new text
beginning_written old mid new text after h k =
    subst (λ (l : List ℕ). AppendsPrefix old new l) (append-nil text)
    (front_stopped old mid new text after [] h (subst (λ (l : List ℕ). AppendsPrefix mid new l) (sym (append-nil after)) k))

-- ---- a line that is collected, and the texts after it

rest_after_line : (line rest made lined : List ℕ) → lined ≡ made ++ line → lined ++ rest ≡ made ++ (line ++ rest)
rest_after_line line rest made lined is = ap (λ l. l ++ rest) is ∙ append_assoc made line rest

line_and_rest : (old mid new : Option (List ℕ)) (before made lined after line rest : List ℕ) → WritesPrefix old mid before made → lined ≡ made ++ line
    → WritesPrefix mid new (lined ++ rest) after → WritesPrefix old new (before ++ (line ++ rest)) after
line_and_rest old mid new before made lined after line rest h is k =
    front_more old mid new before made after (line ++ rest) h (subst (λ (l : List ℕ). WritesPrefix mid new l after) (rest_after_line line rest made lined is) k)

stopped_in_rest : (old mid new : Option (List ℕ)) (before made lined line rest : List ℕ) → WritesPrefix old mid before made → lined ≡ made ++ line
    → AppendsPrefix mid new (lined ++ rest) → AppendsPrefix old new (before ++ (line ++ rest))
stopped_in_rest old mid new before made lined line rest h is k =
    front_stopped old mid new before made (line ++ rest) h (subst (λ (l : List ℕ). AppendsPrefix mid new l) (rest_after_line line rest made lined is) k)

pub rest_collected : (r : Result (Unit {0}) WriteFault) (old mid new : Option (List ℕ)) (before made lined after line rest : List ℕ) →
    WritesPrefix old mid before made → lined ≡ made ++ line
    → Collects mid new lined after r rest → Collects old new before after r (line ++ rest)
rest_collected (Ok u) old mid new before made lined after line rest h is k = line_and_rest old mid new before made lined after line rest h is k
rest_collected (Err e) old mid new before made lined after line rest h is k = stopped_in_rest old mid new before made lined line rest h is k

-- ---- the texts of a list's elements

text_to : {X : Type 0} (f : X → List ℕ) (xs : List X) (i : ℕ) (x : X) (before : List ℕ) → i < length xs → x ≡ get_or xs i x
    → (before ++ flat_map f (take i xs)) ++ f x ≡ before ++ flat_map f (take (i + 1) xs)
text_to f xs i x before inside found =
    flat_map_more f before (take i xs) x ∙ ap (λ l. before ++ flat_map f l) (ap (λ y. take i xs ++ y ∷ []) found ∙ sym (take_more xs i x inside))

text_all : {X : Type 0} (f : X → List ℕ) (xs : List X) (i : ℕ) (before : List ℕ) →
    (before ++ flat_map f (take i xs)) ++ flat_map f (drop i xs) ≡ before ++ flat_map f xs
text_all f xs i before =
    append_assoc before (flat_map f (take i xs)) (flat_map f (drop i xs))
    ∙ ap (λ l. before ++ l) (sym (flat_map-append f (take i xs) (drop i xs)) ∙ ap (flat_map f) (take-append-drop i xs))

pub one_more : {X : Type 0} (f : X → List ℕ) (xs : List X) (i : ℕ) (x : X) (old mid new : Option (List ℕ)) (before between after : List ℕ) → i < length xs →
    x ≡ get_or xs i x
    → WritesPrefix old mid (before ++ flat_map f (take i xs)) between → WritesPrefix mid new (between ++ f x) after →
    WritesPrefix old new (before ++ flat_map f (take (i + 1) xs)) after
one_more f xs i x old mid new before between after inside found h k =
    subst (λ (l : List ℕ). WritesPrefix old new l after) (text_to f xs i x before inside found)
    (front_more old mid new (before ++ flat_map f (take i xs)) between after (f x) h k)

pub stopped_at : {X : Type 0} (f : X → List ℕ) (xs : List X) (i : ℕ) (x : X) (old mid new : Option (List ℕ)) (before between : List ℕ) → i < length xs →
    x ≡ get_or xs i x
    → WritesPrefix old mid (before ++ flat_map f (take i xs)) between → AppendsPrefix mid new (between ++ f x) →
    AppendsPrefix old new (before ++ flat_map f xs)
stopped_at f xs i x old mid new before between inside found h k =
    let so_far : AppendsPrefix old new (before ++ flat_map f (take (i + 1) xs)) =
    subst (λ (l : List ℕ). AppendsPrefix old new l) (text_to f xs i x before inside found)
    (front_stopped old mid new (before ++ flat_map f (take i xs)) between (f x) h k) in
    subst (λ (l : List ℕ). AppendsPrefix old new l) (text_all f xs (i + 1) before)
    (longer old new (before ++ flat_map f (take (i + 1) xs)) (flat_map f (drop (i + 1) xs)) so_far)

-- ---- the same where an element is read at a default

pub one_more_at : {X : Type 0} (d : X) (f : X → List ℕ) (xs : List X) (i : ℕ) (old mid new : Option (List ℕ)) (before between after : List ℕ) → i < length xs
    → WritesPrefix old mid (before ++ flat_map f (take i xs)) between → WritesPrefix mid new (between ++ f (get_or xs i d)) after →
    WritesPrefix old new (before ++ flat_map f (take (i + 1) xs)) after
one_more_at d f xs i old mid new before between after inside h k =
    one_more f xs i (get_or xs i d) old mid new before between after inside (get_or_default xs i d (get_or xs i d) inside) h k

pub stopped_at_one : {X : Type 0} (d : X) (f : X → List ℕ) (xs : List X) (i : ℕ) (old mid new : Option (List ℕ)) (before between : List ℕ) → i < length xs
    → WritesPrefix old mid (before ++ flat_map f (take i xs)) between → AppendsPrefix mid new (between ++ f (get_or xs i d)) →
    AppendsPrefix old new (before ++ flat_map f xs)
stopped_at_one d f xs i old mid new before between inside h k =
    stopped_at f xs i (get_or xs i d) old mid new before between inside (get_or_default xs i d (get_or xs i d) inside) h k
