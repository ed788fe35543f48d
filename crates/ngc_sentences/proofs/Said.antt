-- Texts that a page says in order.
use Rattle.std.proofs.Common.{◌≡◌, ◌+◌, ◌<◌, ℕ, List, [], ◌∷◌, ◌++◌, length, get_or, take, flat_map, Option, Result, Ok, Err, Bool, true, false, ◌≤◌}
use Rattle.std.proofs.Common.{OnOk, OnErr, ap, sym, subst, refl, ◌∙◌}
use Rattle.std.proofs.KnownBytes.{Appends-nil}
use Rattle.std.proofs.lemmas.List.{append_assoc, append-nil, flat_map_more, take_more, take_all}
use Rattle.std.specs.Result.{is_err}
use Rattle.std.specs.Io.KnownBytes.{Appends}
use Rattle.ngc_text.specs.Written.{AppendsPrefix}
use Rattle.ngc_text.specs.Failures.{CountsFailure, Rises}
use Rattle.ngc_text.specs.Collected.{WritesPrefix}
use Rattle.ngc_text.proofs.AppendedTexts.{appends_both, begins_after}
use Rattle.ngc_text.specs.declared.writing.WriteFault.{WriteFault}
use Rattle.ngc_sentences.specs.Parts.{part_text, continued, parts_text}
use Rattle.ngc_sentences.specs.declared.part.Part.{Part}
use Rattle.ngc_sentences.specs.declared.page.Page.{Page}
use Rattle.ngc_sentences.specs.Saying.{Collects, SaysBy, Says, IsFresh, FinishesBy, Finishes}
use Rattle.ngc_sentences.proofs.CollectedTexts.{front_more, front_stopped, longer, all_written, beginning_written}

-- ---- how a page says a text

true_false : true ≡ false → ⊥
true_false e = cc

-- the collected text is written, and the text after it
pub through : (r : Result (Unit {0}) WriteFault) (old mid new : Option (List ℕ)) (before after text : List ℕ) → Appends old mid before → after ≡ [] →
    OnOk r (Appends mid new text) → OnErr r (AppendsPrefix mid new text) → Collects old new before after r text
through (Ok u) old mid new before after text h empty ok fault =
    (before ++ text, appends_both old mid new before text h ok, sym (ap (λ l. (before ++ text) ++ l) empty ∙ append-nil (before ++ text)))
through (Err e) old mid new before after text h empty ok fault =
    subst (λ (l : List ℕ). AppendsPrefix old new (before ++ l)) (append-nil text) (begins_after old mid new before text [] h fault)

pub said_by : (r : Result (Unit {0}) WriteFault) (f g : Bool) (old new : Option (List ℕ)) (n m : ℕ) (before after text : List ℕ) → f ≡ false → g ≡ is_err r
    → Collects old new before after r text → CountsFailure n m r → SaysBy f g old new n m before after text
said_by (Ok u) false false old new n m before after text working failed text_said counted = (text_said, counted)
said_by (Ok u) false true old new n m before after text working failed text_said counted = absurd (true_false failed)
said_by (Err e) false false old new n m before after text working failed text_said counted = absurd (true_false (sym failed))
said_by (Err e) false true old new n m before after text working failed text_said counted = (text_said, counted)
said_by r true g old new n m before after text working failed text_said counted = absurd (true_false working)

pub nothing_by : (f : Bool) (old : Option (List ℕ)) (n : ℕ) (before text : List ℕ) → f ≡ true → SaysBy f f old old n n before before text
nothing_by true old n before text failed = (refl, refl)
nothing_by false old n before text failed = absurd (true_false (sym failed))

pub finishes_by : (r : Result (Unit {0}) WriteFault) (f : Bool) (old new : Option (List ℕ)) (n m : ℕ) (text : List ℕ) → f ≡ false → OnOk r (Appends old new text)
    → OnErr r (AppendsPrefix old new text) → CountsFailure n m r → FinishesBy f old new n m text r
finishes_by (Ok u) false old new n m text working ok fault counted = (ok, counted)
finishes_by (Err e) false old new n m text working ok fault counted = (fault, counted)
finishes_by r true old new n m text working ok fault counted = absurd (true_false working)

pub fails_by : (f : Bool) (old : Option (List ℕ)) (n : ℕ) (text : List ℕ) (e : WriteFault) → f ≡ true → FinishesBy f old old n n text (Err e)
fails_by true old n text e failed = (refl, refl)
fails_by false old n text e failed = absurd (true_false (sym failed))

-- ---- the text of parts

continued_flat : (text : List ℕ) (parts : List Part) → text ++ flat_map part_text parts ≡ continued text parts
continued_flat text [] = append-nil text
continued_flat text (part ∷ parts) = sym (append_assoc text (part_text part) (flat_map part_text parts)) ∙ continued_flat (text ++ part_text part) parts

pub parts_flat : (parts : List Part) → flat_map part_text parts ≡ parts_text parts
parts_flat [] = refl
parts_flat (part ∷ parts) = continued_flat (part_text part) parts

-- ---- texts in order

no_text_by : (f : Bool) (old : Option (List ℕ)) (n : ℕ) (before : List ℕ) → SaysBy f f old old n n before before []
no_text_by true old n before = (refl, refl)
no_text_by false old n before = (([], Appends-nil old, append-nil before), refl)

-- nothing
pub no_text : (old : Option (List ℕ)) (n : ℕ) (p : Page) → Says old old n n p p []
no_text old n p = record { by = no_text_by p.failed old n p.chunk }

then_by : (f g h : Bool) (old mid new : Option (List ℕ)) (n m k : ℕ) (before between after a b : List ℕ) → SaysBy f g old mid n m before between a
    → SaysBy g h mid new m k between after b → SaysBy f h old new n k before after (a ++ b)
then_by false false false old mid new n m k before between after a b h i = (
  subst (λ (l : List ℕ). WritesPrefix old new l after) (append_assoc before a b) (front_more old mid new (before ++ a) between after b h.0 i.0),
  i.1 ∙ h.1,
)
then_by false false true old mid new n m k before between after a b h i = (
  subst (λ (l : List ℕ). AppendsPrefix old new l) (append_assoc before a b) (front_stopped old mid new (before ++ a) between b h.0 i.0),
  subst (λ (c : ℕ). Rises c k) h.1 i.1,
)
then_by false true true old mid new n m k before between after a b h i = (
  subst (λ (l : List ℕ). AppendsPrefix old new l) (append_assoc before a b)
      (longer old new (before ++ a) b (subst (λ (s : Option (List ℕ)). AppendsPrefix old s (before ++ a)) (sym i.0) h.0)),
  subst (λ (c : ℕ). Rises n c) (sym i.1) h.1,
)
then_by true true true old mid new n m k before between after a b h i = (i.0 ∙ h.0, i.1 ∙ h.1)
then_by false true false old mid new n m k before between after a b h i = absurd i
then_by true true false old mid new n m k before between after a b h i = absurd i
then_by true false h old mid new n m k before between after a b i j = absurd i

-- one text and then another
pub then : {old mid new : Option (List ℕ)} {n m k : ℕ} {p q r : Page} {a b : List ℕ} → Says old mid n m p q a → Says mid new m k q r b →
    Says old new n k p r (a ++ b)
then {old} {mid} {new} {n} {m} {k} {p} {q} {r} {a} {b} h i =
    record { by = then_by p.failed q.failed r.failed old mid new n m k p.chunk q.chunk r.chunk a b h.by i.by }

-- an equal text
pub says_as : {old new : Option (List ℕ)} {n m : ℕ} {p q : Page} {a b : List ℕ} → Says old new n m p q a → a ≡ b → Says old new n m p q b
says_as {old} {new} {n} {m} {p} {q} {a} {b} h is = subst (λ (l : List ℕ). Says old new n m p q l) is h

-- the texts of a list's elements: one more
pub one_more : {X : Type 0} {old mid new : Option (List ℕ)} {n m k : ℕ} {p q r : Page} (f : X → List ℕ) (xs : List X) (i : ℕ) (x : X) → i < length xs →
    x ≡ get_or xs i x
    → Says old mid n m p q (flat_map f (take i xs)) → Says mid new m k q r (f x) → Says old new n k p r (flat_map f (take (i + 1) xs))
one_more f xs i x inside found h k =
    says_as (then h k)
    (flat_map_more f [] (take i xs) x ∙ ap (λ l. flat_map f l) (ap (λ y. take i xs ++ y ∷ []) found ∙ sym (take_more xs i x inside)))

-- and all
pub all_said : {X : Type 0} {old new : Option (List ℕ)} {n m : ℕ} {p q : Page} (f : X → List ℕ) (xs : List X) (i : ℕ) → length xs ≤ i →
    Says old new n m p q (flat_map f (take i xs)) → Says old new n m p q (flat_map f xs)
all_said f xs i ends h = says_as h (ap (flat_map f) (take_all i xs ends))

-- ---- a whole text

pub record IsWritten (old new : Option (List ℕ)) (n m : ℕ) (r : Result (Unit {0}) WriteFault) (text : List ℕ) : Type 0 where
  pub ok : OnOk r (Appends old new text)
  pub fault : OnErr r (AppendsPrefix old new text)
  pub counts : CountsFailure n m r

whole_by : (r : Result (Unit {0}) WriteFault) (f g : Bool) (old mid new : Option (List ℕ)) (n m k : ℕ) (before after text : List ℕ) → before ≡ [] → f ≡ false
    → SaysBy f g old mid n m before after text → FinishesBy g mid new m k after r → IsWritten old new n k r text
whole_by (Ok u) false false old mid new n m k before after text empty works h i = record {
  ok = subst (λ (l : List ℕ). Appends old new (l ++ text)) empty (all_written old mid new (before ++ text) after h.0 i.0);
  fault = tt;
  counts = i.1 ∙ h.1;
}
whole_by (Err e) false false old mid new n m k before after text empty works h i = record {
  ok = tt;
  fault = subst (λ (l : List ℕ). AppendsPrefix old new (l ++ text)) empty (beginning_written old mid new (before ++ text) after h.0 i.0);
  counts = subst (λ (c : ℕ). Rises c k) h.1 i.1;
}
whole_by (Err e) false true old mid new n m k before after text empty works h i = record {
  ok = tt;
  fault = subst (λ (l : List ℕ). AppendsPrefix old new (l ++ text)) empty
      (subst (λ (s : Option (List ℕ)). AppendsPrefix old s (before ++ text)) (sym i.0) h.0);
  counts = subst (λ (c : ℕ). Rises n c) (sym i.1) h.1;
}
whole_by (Ok u) false true old mid new n m k before after text empty works h i = absurd i
whole_by r true g old mid new n m k before after text empty works h i = absurd (true_false works)

-- a fresh page says a text and is finished
pub whole : {old mid new : Option (List ℕ)} {n m k : ℕ} {p q : Page} {r : Result (Unit {0}) WriteFault} {text : List ℕ} → IsFresh p →
    Says old mid n m p q text → Finishes mid new m k q r → IsWritten old new n k r text
whole {old} {mid} {new} {n} {m} {k} {p} {q} {r} {text} fresh h i =
    whole_by r p.failed q.failed old mid new n m k p.chunk q.chunk text fresh.nothing fresh.works h.by i

-- ---- a text that is said in pieces

-- a prefix is said, and the rest remains
pub record IsLeft (old new : Option (List ℕ)) (n m : ℕ) (p q : Page) (left all : List ℕ) : Type 0 where
  pub front : List ℕ
  pub said : Says old new n m p q front
  pub splits : front ++ left ≡ all

pub all_left : (old : Option (List ℕ)) (n : ℕ) (p : Page) {left all : List ℕ} → left ≡ all → IsLeft old old n n p p left all
all_left old n p is = record { front = []; said = no_text old n p; splits = is }

pub less_left : {old mid new : Option (List ℕ)} {n m k : ℕ} {p q r : Page} {left all : List ℕ} (one more : List ℕ) → left ≡ one ++ more →
    IsLeft old mid n m p q left all → Says mid new m k q r one → IsLeft old new n k p r more all
less_left one more is h said = record {
  front = h.front ++ one;
  said = then h.said said;
  splits = append_assoc h.front one more ∙ ap (λ l. h.front ++ l) (sym is) ∙ h.splits;
}

pub none_left : {old new : Option (List ℕ)} {n m : ℕ} {p q : Page} {left all : List ℕ} → left ≡ [] → IsLeft old new n m p q left all →
    Says old new n m p q all
none_left is h = says_as h.said (sym (append-nil h.front) ∙ ap (λ l. h.front ++ l) (sym is) ∙ h.splits)
