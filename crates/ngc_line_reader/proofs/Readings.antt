-- A line that was read has a reading within the limits, and so have the stored lines.
use Rattle.std.proofs.Common.{◌≡◌, ℕ, zero, suc, ◌+◌, ◌≤◌, ap, subst, Bool, true, false, Option, None, Some, List, [], ◌∷◌, length, drop, Result, Ok, Err, refl}
use Rattle.std.proofs.Common.{sym, ◌∙◌, length-append, arith, inl, inr}
use Rattle.std.specs.Prelude.{◌==◌, ◌&&◌, nat_le, is_ok, slice_index}
use Rattle.std.specs.List.{list_all}
use Rattle.std.proofs.lemmas.Bool.Decides.{nat_tests}
use Rattle.ngc_line_reader.specs.declared.fault.FaultKind.TheVariants.{BadNumber, LineTooLong, TooManyWords}
use Rattle.ngc_line_reader.specs.declared.fault.LineFault.{LineFault}
use Rattle.ngc_line_reader.specs.declared.fault.ItemRefusal.TheVariants.{OfItem}
use Rattle.ngc_line_reader.specs.declared.letter.Letter.{Letter}
use Rattle.ngc_line_reader.specs.Letter.{letter_of}
use Rattle.ngc_line_reader.specs.Text.{text, columns, place_in}
use Rattle.ngc_line_reader.specs.Grammar.{Item, word, setting, comment, optional_part}
use Rattle.ngc_line_reader.specs.Held.{token_count, words_from, word_count}
use Rattle.ngc_line_reader.specs.Program.{Line}
use Rattle.ngc_line_reader.specs.Scan.{◌>>=◌, begins, refusal, real_at}
use Rattle.ngc_line_reader.specs.ScanLine.{Parts, no_parts, with_word, with_setting, word_at, value_after, setting_at, comment_at, start_fault, by_letter}
use Rattle.ngc_line_reader.specs.ScanLine.{other_item_at, item_at, fault_at, located, items_at, line_number_at, ParsedLine, after_slash, text_at}
use Rattle.ngc_line_reader.specs.ReadLine.{line_read}
use Rattle.ngc_line_reader.specs.ProgramText.{HasReading, HaveReadings}
use Rattle.ngc_line_reader.specs.Stored.{is_read}
use Rattle.ngc_line_reader.proofs.ValueTexts.{bind_ok, chosen, done, ok_is}
use Rattle.ngc_line_reader.proofs.ReadLines.{located_ok, text_takes}

-- after an item there are at most 64 words

one_more : (n : ℕ) → (n == 64) ≡ false → n ≤ 64 → n + 1 ≤ 64
one_more n e few = grind (arith, nat_tests)

word_few : (place : ℕ → ℕ) (room : ℕ) (found : Parts) (letter : Letter) (s : List ℕ) (x : Parts × List ℕ) → word_at place room found letter s ≡ Ok x →
    length found.words ≤ 64 → length x.0.words ≤ 64
unfolding word_at
word_few place room found letter s x e few =
    elim (chosen (length found.words == 64) (Err (OfItem TooManyWords)) _ (done x) e) [
      | inl k ↦ absurd (cc k.1)
      | inr k ↦
          let b = bind_ok (real_at place room found.tokens (drop 1 s)) (λ y. Ok (with_word place found letter s y.0, y.1)) x k.1 in
          let pair : Parts × List ℕ = (with_word place found letter s b.0.0, b.0.1) in
          let count : length x.0.words ≡ length found.words + 1 =
          ap (λ (p : Parts × List ℕ). length p.0.words) (sym (ok_is pair x b.2))
          ∙ length-append found.words (record { letter = letter; column = place (length s); first = length found.tokens } ∷ []) in
          omega (arith, count, one_more (length found.words) k.0 few)
    ]

setting_few : (place : ℕ → ℕ) (room : ℕ) (found : Parts) (s : List ℕ) (x : Parts × List ℕ) → setting_at place room found s ≡ Ok x →
    length found.words ≡ length x.0.words
unfolding setting_at value_after
setting_few place room found s x e =
    let b = bind_ok (real_at place room found.tokens (drop 1 s)) (λ y. value_after place room found s y.0 y.1) x e in
    elim (chosen (begins 61 b.0.1) _ (Err (refusal BadNumber b.0.1)) (done x) b.2) [
      | inl k ↦
          let v = bind_ok (real_at place room b.0.0 (drop 1 b.0.1)) (λ y. Ok (with_setting place found s b.0.0 y.0, y.1)) x k.1 in
          let pair : Parts × List ℕ = (with_setting place found s b.0.0 v.0.0, v.0.1) in
          ap (λ (p : Parts × List ℕ). length p.0.words) (ok_is pair x v.2)
      | inr k ↦ absurd (cc k.1)
    ]

comment_few : (found : Parts) (s : List ℕ) (x : Parts × List ℕ) → (comment_at s >>= λ r. Ok (found, r)) ≡ done x → length found.words ≡ length x.0.words
comment_few found s x e =
    let b = bind_ok (comment_at s) (λ r. Ok (found, r)) x e in
    let pair : Parts × List ℕ = (found, b.0) in
    ap (λ (p : Parts × List ℕ). length p.0.words) (ok_is pair x b.2)

other_few : (place : ℕ → ℕ) (room : ℕ) (found : Parts) (s : List ℕ) (x : Parts × List ℕ) → other_item_at place room found s ≡ Ok x →
    length found.words ≡ length x.0.words
unfolding other_item_at
other_few place room found s x e =
    elim (chosen (begins 35 s) (setting_at place room found s) _ (done x) e) [
      | inl h ↦ setting_few place room found s x h.1
      | inr h ↦ elim (chosen (begins 40 s) (comment_at s >>= λ r. Ok (found, r)) (Err (OfItem (start_fault (slice_index s 0)))) (done x) h.1) [
        | inl h ↦ comment_few found s x h.1
        | inr h ↦ absurd (cc h.1)
      ]
    ]

item_few : (place : ℕ → ℕ) (room : ℕ) (found : Parts) (s : List ℕ) (x : Parts × List ℕ) → item_at place room found s ≡ Ok x → length found.words ≤ 64 →
    length x.0.words ≤ 64
unfolding item_at
item_few place room found s x e few = by_first (letter_of (slice_index s 0)) e where
  by_first : (l : Option Letter) → by_letter l (λ letter. word_at place room found letter s) (other_item_at place room found s) ≡ Ok x → length x.0.words ≤ 64
  by_first None e = omega (arith, other_few place room found s x e, few)
  by_first (Some letter) e = word_few place room found letter s x e few

abbrev told : {A : Type 0} → A → Result A LineFault
told x = Ok x

told_is : {A : Type 0} (x y : A) → told x ≡ told y → x ≡ y
told_is x y e = cc

items_few : (place : ℕ → ℕ) (room : ℕ) (found parts : Parts) (s : List ℕ) → items_at place room found s ≡ Ok parts → length found.words ≤ 64 →
    length parts.words ≤ 64
unfolding items_at
items_few place zero found parts s e few = absurd cc
items_few place (suc room) found parts s e few =
    elim (chosen (length s == 0) (told found) _ (told parts) e) [
      | inl h ↦ subst (λ (p : Parts). length p.words ≤ 64) (told_is found parts h.1) few
      | inr h ↦ elim (chosen (begins 59 s) (told found) _ (told parts) h.1) [
        | inl k ↦ subst (λ (p : Parts). length p.words ≤ 64) (told_is found parts k.1) few
        | inr k ↦
            let b = bind_ok (located place s (item_at place room found s)) (λ x. items_at place room x.0 x.1) parts k.1 in
            items_few place room b.0.0 parts b.0.1 b.2 (item_few place room found s b.0 (located_ok place s (item_at place room found s) b.0 b.1) few)
      ]
    ]

abbrev saying : Bool → Option ℕ → Parts → ParsedLine
saying b n parts = record { deleted = b; number = n; parts = parts }

text_few : (place : ℕ → ℕ) (s : List ℕ) (x : ParsedLine) → text_at place s ≡ Ok x → length x.parts.words ≤ 64
unfolding text_at
text_few place s x e =
    let t = after_slash s in
    let a = bind_ok (located place t (line_number_at t))
    (λ y. items_at place (length s + 1) no_parts y.1 >>= λ parts. Ok (saying (begins 47 s) y.0 parts)) x e in
    let b = bind_ok (items_at place (length s + 1) no_parts a.0.1) (λ parts. Ok (saying (begins 47 s) a.0.0 parts)) x a.2 in
    let few = items_few place (length s + 1) no_parts b.0 a.0.1 b.1 (omega arith) in
    subst (λ (said : ParsedLine). length said.parts.words ≤ 64) (told_is (saying (begins 47 s) a.0.0 b.0) x b.2) few

words_counted : (place : ℕ → ℕ) (first : ℕ) (items : List Item) (end : List ℕ) → length (words_from place first items end) ≡ word_count items
words_counted place first [] end = refl
words_counted place first (word letter value ∷ items) end = let e = words_counted place (first + token_count (word letter value)) items end in omega (arith, e)
words_counted place first (setting index value ∷ items) end = let e = words_counted place (first + token_count (setting index value)) items end in
    omega (arith, e)
words_counted place first (comment bytes ∷ items) end = let e = words_counted place first items end in omega (arith, e)

-- a line that was read has a reading within the limits
has_reading : (line : Line) (x : ParsedLine) → line_read line.bytes ≡ Ok x → HasReading line
has_reading line x e =
    elim (chosen (nat_le 257 (length line.bytes)) (Err (fault_at LineTooLong 257)) _ (told x) e) [
      | inl h ↦ absurd (cc h.1)
      | inr h ↦
          let place = place_in (columns line.bytes) in
          let w = text_takes place (text line.bytes) x h.1 in
          let counted : length x.parts.words ≡ word_count w.r.items = ap (λ (said : ParsedLine). length said.parts.words) w.says
          ∙ words_counted place 0 w.r.items (optional_part 59 w.r.remark) in
          record { reading = w.r; reads = (w.is, w.spelled); limits = (w.limit, omega (arith, counted, text_few place (text line.bytes) x h.1)) }
    ]

both : (a b : Bool) → (a && b) ≡ true → (a ≡ true) × (b ≡ true)
both true b h = (refl, h)
both false b h = absurd (cc h)

read_said : (r : Result ParsedLine LineFault) → is_ok r ≡ true → (x : ParsedLine) × (r ≡ Ok x)
read_said (Ok x) h = (x, refl)
read_said (Err fault) h = absurd (cc h)

-- and so has each of such lines
pub have_readings : (lines : List Line) → list_all is_read lines ≡ true → HaveReadings lines
have_readings [] h = record { readings = []; are = tt }
have_readings (line ∷ lines) h =
    let w : (is_read line ≡ true) × (list_all is_read lines ≡ true) = both _ _ h in
    let said = read_said (line_read line.bytes) w.0 in
    let first = has_reading line said.0 said.1 in
    let more = have_readings lines w.1 in
    record { readings = first.reading ∷ more.readings; are = (first.reads, first.limits, more.are) }
