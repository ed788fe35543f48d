-- No text has two readings: items, and the whole line.
use Rattle.std.proofs.Common.{◌≡◌, ◌≢◌, ℕ, List, [], ◌∷◌, ◌++◌, Option, Some, None, Bool, true, false, refl, sym, ap, ◌∙◌, append_assoc, arith}
use Rattle.std.specs.Prelude.{if◌then◌else◌}
use Rattle.std.specs.List.{AllByRecursion}
use Rattle.ngc_line_reader.specs.Grammar.{Item, word, setting, comment, Reading, optional_part, real_text, item_text, items_text, IsItem, IsLineNumber, OneReading}
use Rattle.ngc_line_reader.specs.Grammar.{Stops}
use Rattle.ngc_line_reader.proofs.UniqueReading.{NoDigit-Stops, digits_unique, real_unique, heads, tails}
use Rattle.ngc_line_reader.specs.declared.letter.Letter.{Letter}
use Rattle.ngc_line_reader.specs.Letter.{letter_byte}
use Rattle.ngc_line_reader.proofs.LetterLemmas.{letter_unique, letter_bounds, letter_no_digit, NoLetter, low_no_letter, N_no_letter}

comment_unique : (xs ys r s : List ℕ) → AllByRecursion (λ b. (b ≢ 40) × (b ≢ 41)) xs → AllByRecursion (λ b. (b ≢ 40) × (b ≢ 41)) ys →
    xs ++ (41 ∷ r) ≡ ys ++ (41 ∷ s) → (xs ≡ ys) × (r ≡ s)
comment_unique [] [] r s p q e = (refl, tails 41 41 _ _ e)
comment_unique [] (y ∷ ys) r s p q e = absurd (q.0.1 (sym (heads 41 y _ _ e)))
comment_unique (x ∷ xs) [] r s p q e = absurd (p.0.1 (heads x 41 _ _ e))
comment_unique (x ∷ xs) (y ∷ ys) r s p q e =
    let same = comment_unique xs ys r s p.1 q.1 (tails x y _ _ e) in
    let first : x ≡ y = heads x y _ _ e in
    (cc (first, same.0), same.1)

letter_stops : (l : Letter) (bs : List ℕ) → Stops (letter_byte l ∷ bs)
letter_stops l bs = (letter_no_digit l, λ e. omega (arith, letter_bounds l, e))

item_stops : (i : Item) (r : List ℕ) → IsItem i → Stops (item_text i ++ r)
item_stops (word letter v) r h = letter_stops letter (real_text v ++ r)
item_stops (setting i v) r h = (refl, λ e. omega arith)
item_stops (comment bytes) r h = (refl, λ e. omega arith)

item_unique : (i j : Item) (r s : List ℕ) → IsItem i → IsItem j → Stops r → Stops s → item_text i ++ r ≡ item_text j ++ s → (i ≡ j) × (r ≡ s)
item_unique (word a v) (word b w) r s p q j k e =
    let letters : a ≡ b = letter_unique a b (heads (letter_byte a) (letter_byte b) _ _ e) in
    let same = real_unique v w r s p q j k (tails (letter_byte a) (letter_byte b) _ _ e) in
    (cc (letters, same.0), same.1)
item_unique (word a v) (setting i w) r s p q j k e = absurd (low_no_letter 35 (omega arith) a (heads (letter_byte a) 35 _ _ e))
item_unique (word a v) (comment bytes) r s p q j k e = absurd (low_no_letter 40 (omega arith) a (heads (letter_byte a) 40 _ _ e))
item_unique (setting i v) (word a w) r s p q j k e = absurd (low_no_letter 35 (omega arith) a (sym (heads 35 (letter_byte a) _ _ e)))
item_unique (setting i v) (setting j w) r s p q m n e =
    let first = real_unique i j (61 ∷ (real_text v ++ r)) (61 ∷ (real_text w ++ s)) p.0 q.0 (refl, λ e. omega arith) (refl, λ e. omega arith)
    (sym (append_assoc (real_text i) (61 ∷ real_text v) r) ∙ tails 35 35 _ _ e ∙ append_assoc (real_text j) (61 ∷ real_text w) s) in
    let second = real_unique v w r s p.1 q.1 m n (tails 61 61 _ _ first.1) in
    (cc (first.0, second.0), second.1)
item_unique (setting i v) (comment bytes) r s p q j k e = absurd (omega (arith, heads 35 40 _ _ e))
item_unique (comment xs) (word a w) r s p q j k e = absurd (low_no_letter 40 (omega arith) a (sym (heads 40 (letter_byte a) _ _ e)))
item_unique (comment xs) (setting i w) r s p q j k e = absurd (omega (arith, heads 40 35 _ _ e))
item_unique (comment xs) (comment ys) r s p q j k e =
    let same = comment_unique xs ys r s p q
    (sym (append_assoc xs (41 ∷ []) r) ∙ tails 40 40 _ _ e ∙ append_assoc ys (41 ∷ []) s) in
    (ap comment same.0, same.1)

-- items, and the text after a semicolon
abbrev pub end_text : List Item → Option (List ℕ) → List ℕ
end_text items remark = items_text items ++ optional_part 59 remark

-- the bytes with which an item may begin
pub item_not : (c : ℕ) (i : Item) (r s : List ℕ) → NoLetter c → c ≢ 35 → c ≢ 40 → IsItem i → item_text i ++ r ≡ c ∷ s → ⊥
item_not c (word a v) r s letter hash paren h e = letter a (heads (letter_byte a) c _ _ e)
item_not c (setting i v) r s letter hash paren h e = hash (sym (heads 35 c _ _ e))
item_not c (comment bytes) r s letter hash paren h e = paren (sym (heads 40 c _ _ e))

item_some : (i : Item) (r : List ℕ) → item_text i ++ r ≡ [] → ⊥
item_some (word a v) r e = cc
item_some (setting i v) r e = cc
item_some (comment bytes) r e = cc

pub end_stops : (items : List Item) (m : Option (List ℕ)) → AllByRecursion IsItem items → Stops (end_text items m)
end_stops [] None h = tt
end_stops [] (Some bs) h = (refl, λ e. omega arith)
end_stops (i ∷ items) m h = Stops-assoc (item_text i) (items_text items) (optional_part 59 m) (item_stops i (items_text items ++ optional_part 59 m) h.0) where
  Stops-assoc : (xs ys zs : List ℕ) → Stops (xs ++ (ys ++ zs)) → Stops ((xs ++ ys) ++ zs)
  Stops-assoc [] ys zs h = h
  Stops-assoc (x ∷ xs) ys zs h = h

pub end_not : (c : ℕ) (items : List Item) (m : Option (List ℕ)) (s : List ℕ) → NoLetter c → c ≢ 35 → c ≢ 40 → c ≢ 59 → AllByRecursion IsItem items →
    end_text items m ≡ c ∷ s → ⊥
end_not c [] None s letter hash paren semicolon h e = cc
end_not c [] (Some bs) s letter hash paren semicolon h e = semicolon (sym (heads 59 c _ _ e))
end_not c (i ∷ items) m s letter hash paren semicolon h e =
    item_not c i (items_text items ++ optional_part 59 m) s letter hash paren h.0 (sym (append_assoc (item_text i) (items_text items) (optional_part 59 m)) ∙ e)

end_unique : (xs ys : List Item) (m n : Option (List ℕ)) → AllByRecursion IsItem xs → AllByRecursion IsItem ys → end_text xs m ≡ end_text ys n →
    (xs ≡ ys) × (m ≡ n)
end_unique [] [] None None p q e = (refl, refl)
end_unique [] [] None (Some bs) p q e = absurd cc
end_unique [] [] (Some cs) None p q e = absurd cc
end_unique [] [] (Some cs) (Some bs) p q e = (refl, ap Some (tails 59 59 _ _ e))
end_unique [] (j ∷ ys) None n p q e = absurd (item_some j (items_text ys ++ optional_part 59 n) (sym (e ∙ append_assoc (item_text j) (items_text ys) (optional_part 59 n))))
end_unique [] (j ∷ ys) (Some cs) n p q e =
    absurd (item_not 59 j (items_text ys ++ optional_part 59 n) cs (low_no_letter 59 (omega arith)) (λ h. omega arith) (λ h. omega arith) q.0
    (sym (e ∙ append_assoc (item_text j) (items_text ys) (optional_part 59 n))))
end_unique (i ∷ xs) [] m None p q e = absurd (item_some i (items_text xs ++ optional_part 59 m) (sym (append_assoc (item_text i) (items_text xs) (optional_part 59 m)) ∙ e))
end_unique (i ∷ xs) [] m (Some bs) p q e =
    absurd (item_not 59 i (items_text xs ++ optional_part 59 m) bs (low_no_letter 59 (omega arith)) (λ h. omega arith) (λ h. omega arith) p.0
    (sym (append_assoc (item_text i) (items_text xs) (optional_part 59 m)) ∙ e))
end_unique (i ∷ xs) (j ∷ ys) m n p q e =
    let first = item_unique i j (end_text xs m) (end_text ys n) p.0 q.0 (end_stops xs m p.1) (end_stops ys n q.1)
    (sym (append_assoc (item_text i) (items_text xs) (optional_part 59 m)) ∙ e ∙ append_assoc (item_text j) (items_text ys) (optional_part 59 n)) in
    let second = end_unique xs ys m n p.1 q.1 first.1 in
    (cc (first.0, second.0), second.1)

-- a line number, and the rest
number_unique : (a b : Option (List ℕ)) (xs ys : List Item) (m n : Option (List ℕ)) → IsLineNumber a → IsLineNumber b → AllByRecursion IsItem xs →
    AllByRecursion IsItem ys
    → optional_part 78 a ++ end_text xs m ≡ optional_part 78 b ++ end_text ys n → (a ≡ b) × (end_text xs m ≡ end_text ys n)
number_unique None None xs ys m n p q j k e = (refl, e)
number_unique None (Some bs) xs ys m n p q j k e =
    absurd (end_not 78 xs m (bs ++ end_text ys n) N_no_letter (λ h. omega arith) (λ h. omega arith) (λ h. omega arith) j e)
number_unique (Some cs) None xs ys m n p q j k e =
    absurd (end_not 78 ys n (cs ++ end_text xs m) N_no_letter (λ h. omega arith) (λ h. omega arith) (λ h. omega arith) k (sym e))
number_unique (Some cs) (Some bs) xs ys m n p q j k e =
    let same = digits_unique cs bs (end_text xs m) (end_text ys n) p.0 q.0 (NoDigit-Stops _ (end_stops xs m j)) (NoDigit-Stops _ (end_stops ys n k))
    (tails 78 78 _ _ e) in
    (ap Some same.0, same.1)

pub number_not_slash : (a : Option (List ℕ)) (xs : List Item) (m : Option (List ℕ)) (s : List ℕ) → AllByRecursion IsItem xs →
    optional_part 78 a ++ end_text xs m ≡ 47 ∷ s → ⊥
number_not_slash None xs m s h e = end_not 47 xs m s (low_no_letter 47 (omega arith)) (λ h. omega arith) (λ h. omega arith) (λ h. omega arith) h e
number_not_slash (Some cs) xs m s h e = omega (arith, heads 78 47 _ _ e)

abbrev pub slash : Bool → List ℕ
slash b = if b then 47 ∷ [] else []

deleted_unique : (b c : Bool) (x y : Option (List ℕ)) (xs ys : List Item) (m n : Option (List ℕ)) → AllByRecursion IsItem xs → AllByRecursion IsItem ys
    → slash b ++ (optional_part 78 x ++ end_text xs m) ≡ slash c ++ (optional_part 78 y ++ end_text ys n) →
    (b ≡ c) × (optional_part 78 x ++ end_text xs m ≡ optional_part 78 y ++ end_text ys n)
deleted_unique true true x y xs ys m n p q e = (refl, tails 47 47 _ _ e)
deleted_unique true false x y xs ys m n p q e = absurd (number_not_slash y ys n _ q (sym e))
deleted_unique false true x y xs ys m n p q e = absurd (number_not_slash x xs m _ p e)
deleted_unique false false x y xs ys m n p q e = (refl, e)

abbrev made : Bool → Option (List ℕ) → List Item → Option (List ℕ) → Reading
made b x xs m = record { deleted = b; number = x; items = xs; remark = m }

same_reading : (b c : Bool) (x y : Option (List ℕ)) (xs ys : List Item) (m n : Option (List ℕ)) → b ≡ c → x ≡ y → xs ≡ ys → m ≡ n →
    made b x xs m ≡ made c y ys n
same_reading b c x y xs ys m n p q r s = cc

pub one_reading : OneReading
one_reading line r s p q =
    let deleted = deleted_unique r.deleted s.deleted r.number s.number r.items s.items r.remark s.remark p.0.1 q.0.1 (p.1 ∙ sym q.1) in
    let numbers = number_unique r.number s.number r.items s.items r.remark s.remark p.0.0 q.0.0 p.0.1 q.0.1 deleted.1 in
    let ends = end_unique r.items s.items r.remark s.remark p.0.1 q.0.1 numbers.1 in
    same_reading r.deleted s.deleted r.number s.number r.items s.items r.remark s.remark deleted.0 numbers.0 ends.0 ends.1
