-- Reading lines, in both directions.
use Rattle.std.proofs.Common.{◌≡◌, ◌≢◌, ℕ, zero, suc, ◌+◌, ◌-◌, ◌<◌, ◌≤◌, ap, subst, Bool, true, false, Option, None, Some, List, [], ◌∷◌, ◌++◌, length, take}
use Rattle.std.proofs.Common.{drop, Result, Ok, Err, refl, sym, ◌∙◌, append_assoc, length-append, arith, inl, inr}
use Rattle.std.specs.Prelude.{OnOk, IsOk, ◌==◌, nat_le, slice_index}
use Rattle.std.specs.List.{AllByRecursion, prefix_len}
use Rattle.std.specs.Option.{option_map}
use Rattle.std.proofs.lemmas.List.{append-nil, take-append-drop, drop_at}
use Rattle.std.proofs.lemmas.List.Sums.{take_while-cons}
use Rattle.std.proofs.lemmas.Bool.Decides.{nat_tests}
use Rattle.ngc_line_reader.specs.declared.token.Token.{Token}
use Rattle.ngc_line_reader.specs.declared.fault.FaultKind.TheVariants.{BadNumber, BadLineNumber, CommentNested, CommentNotClosed, TooManyWords}
use Rattle.ngc_line_reader.specs.declared.fault.LineFault.{LineFault}
use Rattle.ngc_line_reader.specs.declared.fault.ItemRefusal.{ItemRefusal}
use Rattle.ngc_line_reader.specs.declared.fault.ItemRefusal.TheVariants.{OfItem}
use Rattle.ngc_line_reader.specs.declared.line.RawWord.{RawWord}
use Rattle.ngc_line_reader.specs.declared.line.RawSetting.{RawSetting}
use Rattle.ngc_line_reader.specs.declared.line.Line.{Line}
use Rattle.ngc_line_reader.specs.Text.{text, columns, place_in}
use Rattle.ngc_line_reader.specs.Grammar.{Real, Item, word, setting, comment, Reading, IsReal, IsItem, IsLineNumber, IsReading, optional_part, real_text, item_text}
use Rattle.ngc_line_reader.specs.Grammar.{items_text, spelling, Reads, Stops}
use Rattle.ngc_line_reader.specs.Numbers.{digits_value}
use Rattle.ngc_line_reader.specs.Tokens.{symbols_of, tokens_of, IsWithinLimit}
use Rattle.ngc_line_reader.specs.Held.{all_tokens, token_count, words_from, settings_from, HoldsReading, IsItemWithinLimit, AllWithinLimit, item_words}
use Rattle.ngc_line_reader.specs.Held.{word_count, WithinLimits}
use Rattle.ngc_line_reader.specs.Scan.{◌>>=◌, Gives, begins, refusal, digits_at, after_digits, real_at}
use Rattle.ngc_line_reader.specs.ScanLine.{Parts, no_parts, with_word, with_setting, word_at, value_after, setting_at, is_comment_byte, after_comment}
use Rattle.ngc_line_reader.specs.ScanLine.{comment_at, start_fault, by_letter, other_item_at, item_at, located, items_at, numbered, line_number_at, ParsedLine}
use Rattle.ngc_line_reader.specs.ScanLine.{parsed_line_of, after_slash, text_at}
use Rattle.ngc_line_reader.specs.declared.letter.Letter.{Letter}
use Rattle.ngc_line_reader.specs.Letter.{letter_byte, letter_of}
use Rattle.ngc_line_reader.proofs.LetterLemmas.{letter_again, letter_is, low_no_letter, N_no_letter}
use Rattle.ngc_line_reader.proofs.TokenLemmas.{length-tokens_of}
use Rattle.ngc_line_reader.proofs.UniqueReading.{NoDigit-Stops}
use Rattle.ngc_line_reader.proofs.UniqueLine.{item_not, end_text, end_stops, end_not, slash, number_not_slash}
use Rattle.ngc_line_reader.proofs.ReadsBack.{begins_not, begins_stops, digits_again, real_again}
use Rattle.ngc_line_reader.proofs.ValueTexts.{bind_ok, chosen, done, ok_is, begins_is, digits_are, real_takes}
use Rattle.ngc_line_reader.proofs.LineItems.{items_step}

-- the parts with these items added, before a text
abbrev pub added : (ℕ → ℕ) → Parts → List Item → List ℕ → Parts
added place found items end = record {
  words = found.words ++ words_from place (length found.tokens) items end;
  settings = found.settings ++ settings_from place (length found.tokens) items end;
  tokens = found.tokens ++ all_tokens place items end;
}

-- the parts with one item added, before a text
abbrev pub step : (ℕ → ℕ) → Parts → Item → List ℕ → Parts
step place found (word letter value) end = with_word place found letter (item_text (word letter value) ++ end) (found.tokens ++ tokens_of place value end)
step place found (setting index value) end =
    with_setting place found (item_text (setting index value) ++ end) (found.tokens ++ tokens_of place index (61 ∷ (real_text value ++ end)))
    ((found.tokens ++ tokens_of place index (61 ∷ (real_text value ++ end))) ++ tokens_of place value end)
step place found (comment bytes) end = found

abbrev joined : List RawWord → List RawSetting → List Token → Parts
joined ws ss ts = record { words = ws; settings = ss; tokens = ts }

same_parts : (a b : List RawWord) (c d : List RawSetting) (x y : List Token) → a ≡ b → c ≡ d → x ≡ y → joined a c x ≡ joined b d y
same_parts a b c d x y p q r = cc

added-none : (place : ℕ → ℕ) (found : Parts) (end : List ℕ) → found ≡ added place found [] end
added-none place found end = same_parts found.words (found.words ++ []) found.settings (found.settings ++ []) found.tokens (found.tokens ++ [])
    (sym (append-nil found.words)) (sym (append-nil found.settings)) (sym (append-nil found.tokens))

-- the number of tokens with a value's
longer_by : (place : ℕ → ℕ) (ts : List Token) (v : Real) (end : List ℕ) → length (ts ++ tokens_of place v end) ≡ length ts + length (symbols_of v)
longer_by place ts v end = length-append ts (tokens_of place v end) ∙ ap (λ (n : ℕ). length ts + n) (length-tokens_of place v end)

added-step : (place : ℕ → ℕ) (found : Parts) (i : Item) (items : List Item) (end : List ℕ) →
    added place (step place found i (items_text items ++ end)) items end ≡ added place found (i ∷ items) end
added-step place found (word letter value) items end =
    let behind_it = items_text items ++ end in
    let all = letter_byte letter ∷ (real_text value ++ behind_it) in
    let regrouped : (letter_byte letter ∷ (real_text value ++ items_text items)) ++ end ≡ all =
    ap (λ (t : List ℕ). letter_byte letter ∷ t) (append_assoc (real_text value) (items_text items) end) in
    let longer = longer_by place found.tokens value behind_it in
    same_parts _ _ _ _ _ _
    (append_assoc found.words (record { letter = letter; column = place (length all); first = length found.tokens } ∷ []) _
    ∙ ap (λ (n : ℕ). found.words ++ (record { letter = letter; column = place (length all); first = length found.tokens } ∷ words_from place n items end))
    longer
    ∙ ap (λ (t : List ℕ). found.words
    ++ (record { letter = letter; column = place (length t); first = length found.tokens }
    ∷ words_from place (length found.tokens + token_count (word letter value)) items end)) (sym regrouped))
    (ap (λ (n : ℕ). found.settings ++ settings_from place n items end) longer)
    (append_assoc found.tokens (tokens_of place value behind_it) (all_tokens place items end))
added-step place found (setting index value) items end =
    let behind_it = items_text items ++ end in
    let all = 35 ∷ ((real_text index ++ (61 ∷ real_text value)) ++ behind_it) in
    let regrouped : (35 ∷ ((real_text index ++ (61 ∷ real_text value)) ++ items_text items)) ++ end ≡ all =
    ap (λ (t : List ℕ). 35 ∷ t) (append_assoc (real_text index ++ (61 ∷ real_text value)) (items_text items) end) in
    let ts = tokens_of place index (61 ∷ (real_text value ++ behind_it)) in
    let us = tokens_of place value behind_it in
    let first = longer_by place found.tokens index (61 ∷ (real_text value ++ behind_it)) in
    let longer : length ((found.tokens ++ ts) ++ us) ≡ length found.tokens + token_count (setting index value) =
    omega (arith, first, longer_by place (found.tokens ++ ts) value behind_it) in
    same_parts _ _ _ _ _ _
    (ap (λ (n : ℕ). found.words ++ words_from place n items end) longer)
    (append_assoc found.settings (record { column = place (length all); index = length found.tokens; value = length (found.tokens ++ ts) } ∷ []) _
    ∙ ap (λ (n : ℕ). found.settings
    ++ (record { column = place (length all); index = length found.tokens; value = length (found.tokens ++ ts) } ∷ settings_from place n items end)) longer
    ∙ ap (λ (n : ℕ). found.settings
    ++ (record { column = place (length all); index = length found.tokens; value = n }
    ∷ settings_from place (length found.tokens + token_count (setting index value)) items end)) first
    ∙ ap (λ (t : List ℕ). found.settings
    ++ (record { column = place (length t); index = length found.tokens; value = length found.tokens + length (symbols_of index) }
    ∷ settings_from place (length found.tokens + token_count (setting index value)) items end)) (sym regrouped))
    (append_assoc (found.tokens ++ ts) us (all_tokens place items end)
    ∙ append_assoc found.tokens ts (us ++ all_tokens place items end)
    ∙ ap (λ (w : List Token). found.tokens ++ w) (sym (append_assoc ts us (all_tokens place items end))))
added-step place found (comment bytes) items end = refl

-- a text that is written for a value is read as that value

below_64 : (n : ℕ) → n + 1 ≤ 64 → (n == 64) ≡ false
below_64 n h = grind (arith, nat_tests)

not_zero : (n : ℕ) → (suc n == 0) ≡ false
not_zero n = grind (arith, nat_tests)

word_again : (place : ℕ → ℕ) (room : ℕ) (found : Parts) (letter : Letter) (v : Real) (r : List ℕ) → IsReal v → IsWithinLimit v → Stops r →
    length found.words + 1 ≤ 64
    → length (real_text v ++ r) < room → word_at place room found letter (letter_byte letter ∷ (real_text v ++ r)) ≡ Ok (step place found (word letter v) r, r)
unfolding word_at
word_again place room found letter v r h limit stops few fits =
    rw (below_64 (length found.words) few, real_again place v r room found.tokens h limit stops fits) refl

value_again : (place : ℕ → ℕ) (room : ℕ) (found : Parts) (s : List ℕ) (index : List Token) (v : Real) (r : List ℕ) → IsReal v → IsWithinLimit v → Stops r
    → length (real_text v ++ r) < room → value_after place room found s index (61 ∷ (real_text v ++ r))
    ≡ Ok (with_setting place found s index (index ++ tokens_of place v r), r)
unfolding value_after
value_again place room found s index v r h limit stops fits = rw (real_again place v r room index h limit stops fits) refl

setting_again : (place : ℕ → ℕ) (room : ℕ) (found : Parts) (i v : Real) (r : List ℕ) → IsReal i → IsReal v → IsWithinLimit i → IsWithinLimit v → Stops r
    → length (real_text i ++ (61 ∷ (real_text v ++ r))) < room → setting_at place room found (item_text (setting i v) ++ r)
    ≡ Ok (step place found (setting i v) r, r)
unfolding setting_at
setting_again place room found i v r p q j k stops fits =
    let s = item_text (setting i v) ++ r in
    let parts : drop 1 s ≡ real_text i ++ (61 ∷ (real_text v ++ r)) = append_assoc (real_text i) (61 ∷ real_text v) r in
    let more = length-append (real_text i) (61 ∷ (real_text v ++ r)) in
    let first : real_at place room found.tokens (drop 1 s) ≡ Ok (found.tokens ++ tokens_of place i (61 ∷ (real_text v ++ r)), 61 ∷ (real_text v ++ r)) =
    ap (λ (t : List ℕ). real_at place room found.tokens t) parts ∙ real_again place i (61 ∷ (real_text v ++ r)) room found.tokens p j
    (refl, λ e. omega arith) fits in
    rw first (value_again place room found s (found.tokens ++ tokens_of place i (61 ∷ (real_text v ++ r))) v r q k stops (omega (arith, fits, more)))

plain_byte : (b : ℕ) → b ≢ 40 → b ≢ 41 → is_comment_byte b ≡ true
plain_byte b h k = grind (arith, nat_tests)

prefix_plain : (bs r : List ℕ) → AllByRecursion (λ b. (b ≢ 40) × (b ≢ 41)) bs → prefix_len is_comment_byte (bs ++ (41 ∷ r)) ≡ length bs
prefix_plain [] r h = refl
prefix_plain (b ∷ bs) r h = let plain = plain_byte b h.0.0 h.0.1 in let rest = prefix_plain bs r h.1 in rw plain (omega (arith, rest))

comment_again : (bs r : List ℕ) → AllByRecursion (λ b. (b ≢ 40) × (b ≢ 41)) bs → comment_at (40 ∷ (bs ++ (41 ∷ r))) ≡ Ok r
comment_again bs r h =
    let after : after_comment (bs ++ (41 ∷ r)) ≡ 41 ∷ r = let e = prefix_plain bs r h in rw e (drop_at bs (41 ∷ r) (length bs) refl) in
    rw after refl

abbrev Read : Type 0
Read = Result (Parts × List ℕ) ItemRefusal

item_again : (place : ℕ → ℕ) (room : ℕ) (found : Parts) (i : Item) (r : List ℕ) → IsItem i → IsItemWithinLimit i → Stops r →
    length found.words + item_words i ≤ 64
    → length (item_text i ++ r) ≤ room → item_at place room found (item_text i ++ r) ≡ Ok (step place found i r, r)
unfolding item_at other_item_at letter_of
item_again place room found (word letter v) r h limit stops few fits =
    ap (λ (l : Option Letter). by_letter l (λ letter. word_at place room found letter s) (other_item_at place room found s)) (letter_again letter)
    ∙ word_again place room found letter v r h limit stops few (omega (arith, fits)) where
      s : List ℕ
      s = letter_byte letter ∷ (real_text v ++ r)
item_again place room found (setting i v) r h limit stops few fits =
    let regrouped : (real_text i ++ (61 ∷ real_text v)) ++ r ≡ real_text i ++ (61 ∷ (real_text v ++ r)) = append_assoc (real_text i) (61 ∷ real_text v) r in
    let longer = ap length regrouped in
    setting_again place room found i v r h.0 h.1 limit.0 limit.1 stops (omega (arith, fits, longer))
item_again place room found (comment bs) r h limit stops few fits =
    let regrouped : (bs ++ (41 ∷ [])) ++ r ≡ bs ++ (41 ∷ r) = append_assoc bs (41 ∷ []) r in
    let end : comment_at (40 ∷ ((bs ++ (41 ∷ [])) ++ r)) ≡ Ok r = ap (λ (t : List ℕ). comment_at (40 ∷ t)) regrouped ∙ comment_again bs r h in
    ap (λ (e : Result (List ℕ) ItemRefusal). e >>= λ t. Ok (found, t)) end

item_first : (i : Item) (r : List ℕ) → ((length (item_text i ++ r) == 0) ≡ false) × (0 < length (item_text i))
item_first (word letter v) r = (not_zero (length (real_text v ++ r)), omega arith)
item_first (setting i v) r = (not_zero (length ((real_text i ++ (61 ∷ real_text v)) ++ r)), omega arith)
item_first (comment bs) r = (not_zero (length ((bs ++ (41 ∷ [])) ++ r)), omega arith)

no_remark : (i : Item) (r : List ℕ) → IsItem i → begins 59 (item_text i ++ r) ≡ false
no_remark i r h = begins_not 59 (item_text i ++ r) (λ t e. item_not 59 i r t (low_no_letter 59 (omega arith)) (λ q. omega arith) (λ q. omega arith) h e)

pub step_words : (place : ℕ → ℕ) (found : Parts) (i : Item) (r : List ℕ) → length (step place found i r).words ≡ length found.words + item_words i
step_words place found (word letter v) r =
    length-append found.words (record { letter = letter; column = place (length (item_text (word letter v) ++ r)); first = length found.tokens } ∷ [])
step_words place found (setting i v) r = omega arith
step_words place found (comment bs) r = omega arith

abbrev pub told : {A : Type 0} → A → Result A LineFault
told x = Ok x

told_is : {A : Type 0} (x y : A) → told x ≡ told y → x ≡ y
told_is x y e = cc

items_again : (items : List Item) (m : Option (List ℕ)) (place : ℕ → ℕ) (room : ℕ) (found : Parts) → AllByRecursion IsItem items → AllWithinLimit items →
    length found.words + word_count items ≤ 64
    → length (end_text items m) < room → items_at place room found (end_text items m) ≡ told (added place found items (optional_part 59 m))
items_again [] None place room found h limit few fits =
    let some : 0 < room = omega (arith, fits) in
    items_step place room found [] some ∙ ap told (added-none place found [])
items_again [] (Some bs) place room found h limit few fits =
    let some : 0 < room = omega (arith, fits) in
    rw (items_step place room found (59 ∷ bs) some, not_zero (length bs)) (ap told (added-none place found (59 ∷ bs)))
items_again (i ∷ items) m place room found h limit few fits =
    let some : 0 < room = omega (arith, fits) in
    let r = end_text items m in
    let regrouped : end_text (i ∷ items) m ≡ item_text i ++ r = append_assoc (item_text i) (items_text items) (optional_part 59 m) in
    let longer = ap length regrouped in
    let more = length-append (item_text i) r in
    let size = item_first i r in
    let next = step place found i r in
    let words = step_words place found i r in
    let first = item_again place (room - 1) found i r h.0 limit.0 (end_stops items m h.1) (omega (arith, few)) (omega (arith, fits, longer)) in
    let rest = items_again items m place (room - 1) next h.1 limit.1 (omega (arith, few, words)) (omega (arith, fits, longer, more, size.1)) in
    let one : items_at place room found (item_text i ++ r) ≡ items_at place (room - 1) next r =
    rw (items_step place room found (item_text i ++ r) some, size.0, no_remark i r h.0, first) refl in
    ap (λ (s : List ℕ). items_at place room found s) regrouped ∙ one ∙ rest
    ∙ ap told (added-step place found i items (optional_part 59 m))

few_digits : (n : ℕ) → 0 < n → n ≤ 5 → ((n == 0) ≡ false) × (nat_le 6 n ≡ false)
few_digits n h k = (grind (arith, nat_tests), grind (arith, nat_tests))

number_again : (a : Option (List ℕ)) (r : List ℕ) → IsLineNumber a → Stops r → begins 78 r ≡ false →
    line_number_at (optional_part 78 a ++ r) ≡ Ok (option_map digits_value a, r)
unfolding line_number_at
number_again None r h stops no_n = rw no_n refl
number_again (Some ds) r h stops no_n =
    let digits = digits_again ds r h.0 (NoDigit-Stops r stops) in
    let count = few_digits (length ds) h.1 h.2 in
    rw (digits.0, digits.1, count.0, count.1, begins_stops r stops) refl

slash_again : (b : Bool) (t : List ℕ) → begins 47 t ≡ false → (after_slash (slash b ++ t) ≡ t) × (begins 47 (slash b ++ t) ≡ b)
slash_again true t e = (refl, refl)
slash_again false t e = (rw e refl, e)

abbrev pub said : (ℕ → ℕ) → Reading → ParsedLine
said place r = record { deleted = r.deleted; number = option_map digits_value r.number; parts = added place no_parts r.items (optional_part 59 r.remark) }

text_again : (place : ℕ → ℕ) (r : Reading) → IsReading r → WithinLimits r → text_at place (spelling r) ≡ told (said place r)
unfolding text_at
text_again place r h limits =
    let end = end_text r.items r.remark in
    let t = optional_part 78 r.number ++ end in
    let no_slash : begins 47 t ≡ false = begins_not 47 t (λ s e. number_not_slash r.number r.items r.remark s h.1 e) in
    let slashes = slash_again r.deleted t no_slash in
    let no_n : begins 78 end ≡ false = begins_not 78 end
    (λ s e. end_not 78 r.items r.remark s N_no_letter (λ q. omega arith) (λ q. omega arith) (λ q. omega arith) h.1 e) in
    let first = number_again r.number end h.0 (end_stops r.items r.remark h.1) no_n in
    let longer = length-append (slash r.deleted) t in
    let more = length-append (optional_part 78 r.number) end in
    let rest = items_again r.items r.remark place (length (spelling r) + 1) no_parts h.1 limits.0 (omega (arith, limits.1)) (omega (arith, longer, more)) in
    rw (slashes.0, slashes.1, first, rest) refl

-- a value that is read is written as the text

pub record TakesItem (place : ℕ → ℕ) (found : Parts) (s : List ℕ) (x : Parts × List ℕ) : Type 0 where
  pub i : Item
  pub is : IsItem i
  pub limit : IsItemWithinLimit i
  pub parts_are : x.0 ≡ step place found i x.1
  pub spelled : s ≡ item_text i ++ x.1

pub letter_first : (s : List ℕ) (l : Letter) → letter_of (slice_index s 0) ≡ Some l → s ≡ letter_byte l ∷ drop 1 s
unfolding letter_of
letter_first [] l e = absurd cc
letter_first (b ∷ s) l e = ap (λ (c : ℕ). c ∷ s) (letter_is b l e)

word_takes : (place : ℕ → ℕ) (room : ℕ) (found : Parts) (letter : Letter) (s : List ℕ) (x : Parts × List ℕ) → s ≡ letter_byte letter ∷ drop 1 s →
    word_at place room found letter s ≡ Ok x → TakesItem place found s x
unfolding word_at
word_takes place room found letter s x first e =
    elim (chosen (length found.words == 64) (Err (OfItem TooManyWords)) _ (done x) e) [
      | inl k ↦ absurd (cc k.1)
      | inr k ↦
          let b = bind_ok (real_at place room found.tokens (drop 1 s)) (λ y. Ok (with_word place found letter s y.0, y.1)) x k.1 in
          let t = real_takes place room found.tokens (drop 1 s) b.0 b.1 in
          let pair : Parts × List ℕ = (with_word place found letter s b.0.0, b.0.1) in
          let spelled : s ≡ letter_byte letter ∷ (real_text t.v ++ b.0.1) = first ∙ ap (λ (u : List ℕ). letter_byte letter ∷ u) t.parts in
          let made : TakesItem place found s (with_word place found letter s b.0.0, b.0.1) = record {
            i = word letter t.v;
            is = t.is;
            limit = t.limit;
            parts_are = ap (λ (ts : List Token). with_word place found letter s ts) t.tokens
                ∙ ap (λ (u : List ℕ). with_word place found letter u (found.tokens ++ tokens_of place t.v b.0.1)) spelled;
            spelled = spelled;
          } in
          subst (λ (p : Parts × List ℕ). TakesItem place found s p) (ok_is pair x b.2) made
    ]

record TakesValue (place : ℕ → ℕ) (found : Parts) (s : List ℕ) (index : List Token) (r : List ℕ) (x : Parts × List ℕ) : Type 0 where
  v : Real
  is : IsReal v
  limit : IsWithinLimit v
  parts_are : x.0 ≡ with_setting place found s index (index ++ tokens_of place v x.1)
  spelled : r ≡ 61 ∷ (real_text v ++ x.1)

value_takes : (place : ℕ → ℕ) (room : ℕ) (found : Parts) (s : List ℕ) (index : List Token) (r : List ℕ) (x : Parts × List ℕ) →
    value_after place room found s index r ≡ Ok x → TakesValue place found s index r x
unfolding value_after
value_takes place room found s index r x e =
    elim (chosen (begins 61 r) _ (Err (refusal BadNumber r)) (done x) e) [
      | inl k ↦
          let b = bind_ok (real_at place room index (drop 1 r)) (λ y. Ok (with_setting place found s index y.0, y.1)) x k.1 in
          let t = real_takes place room index (drop 1 r) b.0 b.1 in
          let pair : Parts × List ℕ = (with_setting place found s index b.0.0, b.0.1) in
          let made : TakesValue place found s index r (with_setting place found s index b.0.0, b.0.1) = record {
            v = t.v;
            is = t.is;
            limit = t.limit;
            parts_are = ap (λ (ts : List Token). with_setting place found s index ts) t.tokens;
            spelled = begins_is 61 r k.0 ∙ ap (λ (u : List ℕ). 61 ∷ u) t.parts;
          } in
          subst (λ (p : Parts × List ℕ). TakesValue place found s index r p) (ok_is pair x b.2) made
      | inr k ↦ absurd (cc k.1)
    ]

setting_takes : (place : ℕ → ℕ) (room : ℕ) (found : Parts) (s : List ℕ) (x : Parts × List ℕ) → begins 35 s ≡ true → setting_at place room found s ≡ Ok x →
    TakesItem place found s x
unfolding setting_at
setting_takes place room found s x hash e =
    let b = bind_ok (real_at place room found.tokens (drop 1 s)) (λ y. value_after place room found s y.0 y.1) x e in
    let t = real_takes place room found.tokens (drop 1 s) b.0 b.1 in
    let u = value_takes place room found s b.0.0 b.0.1 x b.2 in
    let spelled : s ≡ item_text (setting t.v u.v) ++ x.1 =
    begins_is 35 s hash ∙ ap (λ (z : List ℕ). 35 ∷ z)
    (t.parts ∙ ap (λ (z : List ℕ). real_text t.v ++ z) u.spelled ∙ sym (append_assoc (real_text t.v) (61 ∷ real_text u.v) x.1)) in
    let index : b.0.0 ≡ found.tokens ++ tokens_of place t.v (61 ∷ (real_text u.v ++ x.1)) =
    t.tokens ∙ ap (λ (z : List ℕ). found.tokens ++ tokens_of place t.v z) u.spelled in
    record {
      i = setting t.v u.v;
      is = (t.is, u.is);
      limit = (t.limit, u.limit);
      parts_are = u.parts_are ∙ ap (λ (ts : List Token). with_setting place found s ts (ts ++ tokens_of place u.v x.1)) index
          ∙ ap (λ (z : List ℕ). with_setting place found z (found.tokens ++ tokens_of place t.v (61 ∷ (real_text u.v ++ x.1)))
          ((found.tokens ++ tokens_of place t.v (61 ∷ (real_text u.v ++ x.1))) ++ tokens_of place u.v x.1)) spelled;
      spelled = spelled;
    }

abbrev IsPlain : List ℕ → Type 0
IsPlain bs = AllByRecursion (λ b. (b ≢ 40) × (b ≢ 41)) bs

plain_is : (b : ℕ) → is_comment_byte b ≡ true → (b ≢ 40) × (b ≢ 41)
plain_is b h = (λ e. grind (arith, nat_tests), λ e. grind (arith, nat_tests))

IsPlain-cons : (b : ℕ) (s : List ℕ) (x : Bool) → is_comment_byte b ≡ x → IsPlain (take (prefix_len is_comment_byte s) s) →
    IsPlain (take (prefix_len is_comment_byte (b ∷ s)) (b ∷ s))
IsPlain-cons b s true e h = rw (take_while-cons is_comment_byte b s, e) (plain_is b e, h)
IsPlain-cons b s false e h = rw (take_while-cons is_comment_byte b s, e) tt

IsPlain-at : (s : List ℕ) → IsPlain (take (prefix_len is_comment_byte s) s)
IsPlain-at [] = tt
IsPlain-at (b ∷ s) = IsPlain-cons b s (is_comment_byte b) refl (IsPlain-at s)

comment_takes : (place : ℕ → ℕ) (found : Parts) (s : List ℕ) (x : Parts × List ℕ) → begins 40 s ≡ true → (comment_at s >>= λ r. Ok (found, r)) ≡ done x →
    TakesItem place found s x
comment_takes place found s x paren e =
    let b = bind_ok (comment_at s) (λ r. Ok (found, r)) x e in
    let u = drop 1 s in
    let end = after_comment u in
    let bs = take (prefix_len is_comment_byte u) u in
    elim (chosen (begins 41 end) (done (drop 1 end)) _ (done b.0) b.1) [
      | inl k ↦
          let pair : Parts × List ℕ = (found, b.0) in
          let rest : drop 1 end ≡ b.0 = ok_is (drop 1 end) b.0 k.1 in
          let parts : u ≡ bs ++ (41 ∷ b.0) = sym (take-append-drop (prefix_len is_comment_byte u) u)
          ∙ ap (λ (z : List ℕ). bs ++ z) (begins_is 41 end k.0 ∙ ap (λ (z : List ℕ). 41 ∷ z) rest) in
          let made : TakesItem place found s (found, b.0) = record {
            i = comment bs;
            is = IsPlain-at u;
            limit = tt;
            parts_are = refl;
            spelled = begins_is 40 s paren ∙ ap (λ (z : List ℕ). 40 ∷ z) (parts ∙ sym (append_assoc bs (41 ∷ []) b.0));
          } in
          subst (λ (p : Parts × List ℕ). TakesItem place found s p) (ok_is pair x b.2) made
      | inr k ↦ elim (chosen (begins 40 end) (Err (OfItem CommentNested)) (Err (OfItem CommentNotClosed)) (done b.0) k.1) [
        | inl j ↦ absurd (cc j.1)
        | inr j ↦ absurd (cc j.1)
      ]
    ]

other_item_takes : (place : ℕ → ℕ) (room : ℕ) (found : Parts) (s : List ℕ) (x : Parts × List ℕ) → other_item_at place room found s ≡ Ok x →
    TakesItem place found s x
unfolding other_item_at
other_item_takes place room found s x e =
    elim (chosen (begins 35 s) (setting_at place room found s) _ (done x) e) [
      | inl h ↦ setting_takes place room found s x h.0 h.1
      | inr h ↦ elim (chosen (begins 40 s) (comment_at s >>= λ r. Ok (found, r)) (Err (OfItem (start_fault (slice_index s 0)))) (done x) h.1) [
        | inl h ↦ comment_takes place found s x h.0 h.1
        | inr h ↦ absurd (cc h.1)
      ]
    ]

pub item_takes : (place : ℕ → ℕ) (room : ℕ) (found : Parts) (s : List ℕ) (x : Parts × List ℕ) → item_at place room found s ≡ Ok x → TakesItem place found s x
unfolding item_at
item_takes place room found s x e = by_first (letter_of (slice_index s 0)) (λ l. letter_first s l) e where
  by_first : (l : Option Letter) → ((letter : Letter) → l ≡ Some letter → s ≡ letter_byte letter ∷ drop 1 s)
      → by_letter l (λ letter. word_at place room found letter s) (other_item_at place room found s) ≡ Ok x → TakesItem place found s x
  by_first None first e = other_item_takes place room found s x e
  by_first (Some letter) first e = word_takes place room found letter s x (first letter refl) e

pub record TakesItems (place : ℕ → ℕ) (found parts : Parts) (s : List ℕ) : Type 0 where
  pub items : List Item
  pub remark : Option (List ℕ)
  pub are : AllByRecursion IsItem items
  pub limit : AllWithinLimit items
  pub parts_are : parts ≡ added place found items (optional_part 59 remark)
  pub spelled : s ≡ end_text items remark

pub located_ok : {A : Type 0} (place : ℕ → ℕ) (s : List ℕ) (r : Result A ItemRefusal) (x : A) → located place s r ≡ Ok x → r ≡ Ok x
located_ok place s (Ok y) x e = ap done (told_is y x e)
located_ok place s (Err y) x e = absurd cc

empty_is : (s : List ℕ) → (length s == 0) ≡ true → s ≡ []
empty_is [] e = refl
empty_is (b ∷ s) e = absurd (grind (arith, nat_tests))

items_take : (place : ℕ → ℕ) (room : ℕ) (found parts : Parts) (s : List ℕ) → items_at place room found s ≡ Ok parts → TakesItems place found parts s
unfolding items_at
items_take place zero found parts s e = absurd cc
items_take place (suc room) found parts s e =
    elim (chosen (length s == 0) (told found) _ (told parts) e) [
      | inl h ↦ record {
        items = [];
        remark = None;
        are = tt;
        limit = tt;
        parts_are = sym (told_is found parts h.1) ∙ added-none place found [];
        spelled = empty_is s h.0;
      }
      | inr h ↦ elim (chosen (begins 59 s) (told found) _ (told parts) h.1) [
        | inl k ↦ record {
          items = [];
          remark = Some (drop 1 s);
          are = tt;
          limit = tt;
          parts_are = sym (told_is found parts k.1) ∙ added-none place found (59 ∷ drop 1 s);
          spelled = begins_is 59 s k.0;
        }
        | inr k ↦
            let b = bind_ok (located place s (item_at place room found s)) (λ x. items_at place room x.0 x.1) parts k.1 in
            let t = item_takes place room found s b.0 (located_ok place s (item_at place room found s) b.0 b.1) in
            let u = items_take place room b.0.0 parts b.0.1 b.2 in
            let all : s ≡ end_text (t.i ∷ u.items) u.remark = t.spelled ∙ ap (λ (z : List ℕ). item_text t.i ++ z) u.spelled
            ∙ sym (append_assoc (item_text t.i) (items_text u.items) (optional_part 59 u.remark)) in
            record {
              items = t.i ∷ u.items;
              remark = u.remark;
              are = (t.is, u.are);
              limit = (t.limit, u.limit);
              parts_are = u.parts_are
                  ∙ ap (λ (p : Parts). added place p u.items (optional_part 59 u.remark)) (t.parts_are ∙ ap (λ (z : List ℕ). step place found t.i z) u.spelled)
                  ∙ added-step place found t.i u.items (optional_part 59 u.remark);
              spelled = all;
            }
      ]
    ]

pub record TakesNumber (s : List ℕ) (x : Option ℕ × List ℕ) : Type 0 where
  pub number : Option (List ℕ)
  pub is : IsLineNumber number
  pub value : x.0 ≡ option_map digits_value number
  pub spelled : s ≡ optional_part 78 number ++ x.1

some_digit : (n : ℕ) → (n == 0) ≡ false → nat_le 6 n ≡ false → (0 < n) × (n ≤ 5)
some_digit n h k = (grind (arith, nat_tests), grind (arith, nat_tests))

pub number_takes : (s : List ℕ) (x : Option ℕ × List ℕ) → line_number_at s ≡ Ok x → TakesNumber s x
unfolding line_number_at
number_takes s x e =
    let ds = digits_at (drop 1 s) in
    let r = after_digits (drop 1 s) in
    elim (chosen (begins 78 s) (numbered ds r) (Ok (None, s)) (done x) e) [
      | inl h ↦ elim (chosen (length ds == 0) (Err (refusal BadLineNumber r)) _ (done x) h.1) [
        | inl k ↦ absurd (cc k.1)
        | inr k ↦ elim (chosen (nat_le 6 (length ds)) (Err (OfItem BadLineNumber)) _ (done x) k.1) [
          | inl j ↦ absurd (cc j.1)
          | inr j ↦ elim (chosen (begins 46 r) (Err (OfItem BadLineNumber)) _ (done x) j.1) [
            | inl i ↦ absurd (cc i.1)
            | inr i ↦
                let pair : Option ℕ × List ℕ = (Some (digits_value ds), r) in
                let count = some_digit (length ds) k.0 j.0 in
                let made : TakesNumber s (Some (digits_value ds), r) = record {
                  number = Some ds;
                  is = (digits_are ds (drop 1 s) refl, count.0, count.1);
                  value = refl;
                  spelled = begins_is 78 s h.0 ∙ ap (λ (z : List ℕ). 78 ∷ z) (split (drop 1 s));
                } in
                subst (λ (p : Option ℕ × List ℕ). TakesNumber s p) (ok_is pair x i.1) made
          ]
        ]
      ]
      | inr h ↦
          let pair : Option ℕ × List ℕ = (None, s) in
          let made : TakesNumber s (None, s) = record { number = None; is = tt; value = refl; spelled = refl } in
          subst (λ (p : Option ℕ × List ℕ). TakesNumber s p) (ok_is pair x h.1) made
    ] where
      split : (t : List ℕ) → t ≡ digits_at t ++ after_digits t
      split t = sym (take-append-drop _ t)

pub slash_takes : (s : List ℕ) → s ≡ slash (begins 47 s) ++ after_slash s
slash_takes s = by_test (begins 47 s) refl where
  by_test : (x : Bool) → begins 47 s ≡ x → s ≡ slash (begins 47 s) ++ after_slash s
  by_test true e = rw e (begins_is 47 s e)
  by_test false e = rw e refl

pub record TakesText (place : ℕ → ℕ) (s : List ℕ) (x : ParsedLine) : Type 0 where
  pub r : Reading
  pub is : IsReading r
  pub limit : AllWithinLimit r.items
  pub says : x ≡ said place r
  pub spelled : spelling r ≡ s

abbrev saying : Bool → Option ℕ → Parts → ParsedLine
saying b n parts = record { deleted = b; number = n; parts = parts }

same_said : (b : Bool) (m n : Option ℕ) (x y : Parts) → m ≡ n → x ≡ y → saying b m x ≡ saying b n y
same_said b m n x y p q = cc

pub text_takes : (place : ℕ → ℕ) (s : List ℕ) (x : ParsedLine) → text_at place s ≡ Ok x → TakesText place s x
unfolding text_at
text_takes place s x e =
    let t = after_slash s in
    let a = bind_ok (located place t (line_number_at t))
    (λ y. items_at place (length s + 1) no_parts y.1 >>= λ parts. Ok (saying (begins 47 s) y.0 parts)) x e in
    let n = number_takes t a.0 (located_ok place t (line_number_at t) a.0 a.1) in
    let b = bind_ok (items_at place (length s + 1) no_parts a.0.1) (λ parts. Ok (saying (begins 47 s) a.0.0 parts)) x a.2 in
    let u = items_take place (length s + 1) no_parts b.0 a.0.1 b.1 in
    let r : Reading = record { deleted = begins 47 s; number = n.number; items = u.items; remark = u.remark } in
    record {
      r = r;
      is = (n.is, u.are);
      limit = u.limit;
      says = sym (told_is (saying (begins 47 s) a.0.0 b.0) x b.2) ∙ same_said (begins 47 s) _ _ _ _ n.value u.parts_are;
      spelled = sym (slash_takes s ∙ ap (λ (z : List ℕ). slash (begins 47 s) ++ z) (n.spelled ∙ ap (λ (z : List ℕ). optional_part 78 n.number ++ z) u.spelled));
    }

-- what was read is a reading
pub gives_reading : (bytes t cs : List ℕ) (line : Line) (result : Result Unit LineFault) → t ≡ text bytes → cs ≡ columns bytes →
    Gives (λ _. parsed_line_of line) result (text_at (place_in cs) t) → OnOk result (HoldsReading bytes line)
gives_reading bytes t cs line (Err e) is at g = tt
gives_reading bytes t cs line (Ok u) is at g =
    let w = text_takes (place_in cs) t (parsed_line_of line) g in
    let says : parsed_line_of line ≡ said (place_in (columns bytes)) w.r = w.says ∙ ap (λ (c : List ℕ). said (place_in c) w.r) at in
    record {
      reading = w.r;
      reads = (w.is, w.spelled ∙ is);
      limit = w.limit;
      holds = record {
        deleted = ap (λ (x : ParsedLine). x.deleted) says;
        number = ap (λ (x : ParsedLine). x.number) says;
        words = ap (λ (x : ParsedLine). x.parts.words) says;
        settings = ap (λ (x : ParsedLine). x.parts.settings) says;
        tokens = ap (λ (x : ParsedLine). x.parts.tokens) says;
      };
    }

-- a reading within the limits is found, if there is one
pub finds_reading : (bytes t cs : List ℕ) (line : Line) (result : Result Unit LineFault) → t ≡ text bytes →
    Gives (λ _. parsed_line_of line) result (text_at (place_in cs) t)
    → (r : Reading) → Reads bytes r → WithinLimits r → IsOk result
finds_reading bytes t cs line (Ok u) is g r reads limits = refl
finds_reading bytes t cs line (Err e) is g r reads limits =
    let found = text_again (place_in cs) r reads.0 limits in
    let other : text_at (place_in cs) (spelling r) ≡ Err e = ap (λ (s : List ℕ). text_at (place_in cs) s) (reads.1 ∙ sym is) ∙ g in
    absurd (cc (found, other))

-- an empty line is a reading of no bytes
pub holds_nothing : (line : Line) → line.deleted ≡ false → line.number ≡ None → line.words.items ≡ [] → line.settings.items ≡ [] → line.tokens.items ≡ [] →
    HoldsReading [] line
holds_nothing line deleted number words settings tokens = record {
  reading = record { deleted = false; number = None; items = []; remark = None };
  reads = ((tt, tt), refl);
  limit = tt;
  holds = record { deleted = deleted; number = number; words = words; settings = settings; tokens = tokens };
}
