-- A text that is written in pieces.
use Rattle.std.proofs.Common.{ℕ, ◌+◌, ◌-◌, ◌≤◌, List, ◌++◌, length, take, drop, Option, Some, None, arith, sym, ◌∙◌, ap, subst}
use Rattle.std.proofs.Math.Seq.{take-add}
use Rattle.std.proofs.lemmas.List.{append_assoc, take_rest, length-drop}
use Rattle.std.specs.Io.KnownBytes.{Appends, Keeps}
use Rattle.ngc_text.specs.Written.{AppendsPrefix}

pub appends_joined : (old mid new : Option (List ℕ)) (text : List ℕ) (d n : ℕ) → Appends old mid (take d text) → Appends mid new (take n (drop d text)) →
    Appends old new (take (d + n) text)
appends_joined None mid new text d n h k = tt
appends_joined (Some xs) None new text d n h k = absurd h
appends_joined (Some xs) (Some ys) None text d n h k = absurd k
appends_joined (Some xs) (Some ys) (Some zs) text d n h k =
    k ∙ ap (λ l. l ++ take n (drop d text)) h ∙ append_assoc xs (take d text) (take n (drop d text)) ∙ ap (λ l. xs ++ l) (sym (take-add d n text))

-- a prefix is written, and then a prefix of the remaining slice
pub appends_more : (old mid new : Option (List ℕ)) (text : List ℕ) (d n : ℕ) → Appends old mid (take d text) →
    Appends mid new (take n (take (length text - d) (drop d text))) → Appends old new (take (d + n) text)
appends_more old mid new text d n h k =
    let P : List ℕ → Type 0 = λ rest. Appends mid new (take n rest) in
    appends_joined old mid new text d n h (subst P (take_rest text d) k)

-- a part of the remaining slice ends within the text
pub within_rest : (text : List ℕ) (d n : ℕ) → d ≤ length text → n ≤ length (take (length text - d) (drop d text)) → d + n ≤ length text
within_rest text d n h k =
    let P : List ℕ → Type 0 = λ rest. n ≤ length rest in
    let short : n ≤ length (drop d text) = subst P (take_rest text d) k in
    omega (arith, length-drop d text, short, h)

-- bytes that stay unchanged
pub appends_kept : (old mid new : Option (List ℕ)) (a : List ℕ) → Appends old mid a → Keeps mid new → Appends old new a
appends_kept None mid new a h k = tt
appends_kept (Some xs) None new a h k = absurd h
appends_kept (Some xs) (Some ys) None a h k = absurd k
appends_kept (Some xs) (Some ys) (Some zs) a h k = k ∙ h

-- one text and then another
pub appends_both : (old mid new : Option (List ℕ)) (a b : List ℕ) → Appends old mid a → Appends mid new b → Appends old new (a ++ b)
appends_both None mid new a b h k = tt
appends_both (Some xs) None new a b h k = absurd h
appends_both (Some xs) (Some ys) None a b h k = absurd k
appends_both (Some xs) (Some ys) (Some zs) a b h k = k ∙ ap (λ l. l ++ b) h ∙ append_assoc xs a b

-- one text, and then a prefix of another, with more text after it
pub begins_after : (old mid new : Option (List ℕ)) (a b more : List ℕ) → Appends old mid a → AppendsPrefix mid new b →
    AppendsPrefix old new (a ++ (b ++ more))
begins_after old mid new a b more h k = (
  a ++ k.0,
  k.1 ++ more,
  ap (λ l. a ++ l) (ap (λ l. l ++ more) k.2 ∙ append_assoc k.0 k.1 more) ∙ sym (append_assoc a k.0 (k.1 ++ more)),
  appends_both old mid new a k.0 h k.3,
)
