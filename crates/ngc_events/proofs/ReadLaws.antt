-- Reading lines in order.
use Rattle.std.proofs.Common.{◌≡◌, ℕ, ◌+◌, ◌<◌, ◌≤◌, ap, true, false, Option, Some, None, Result, Ok, Err, List, [], ◌∷◌, ◌++◌, length, take, drop}
use Rattle.std.proofs.Common.{append_assoc, refl, sym, ◌∙◌, arith}
use Rattle.std.specs.Prelude.{◌==◌, nat_le}
use Rattle.std.specs.List.{join_with_byte}
use Rattle.std.specs.Option.{ok_or}
use Rattle.std.proofs.lemmas.Bool.Decides.{nat_tests}
use Rattle.std.proofs.lemmas.List.{append-nil}
use Rattle.std.proofs.lemmas.List.Splits.{join_with_byte-slice_split}
use Rattle.memchr.specs.Find.{IsFirstByte, is_byte}
use Rattle.ngc_events.specs.declared.event.EventLine.{EventLine}
use Rattle.ngc_events.specs.declared.fault.EventsFault.{EventsFault}
use Rattle.ngc_events.specs.declared.fault.EventsFault.TheVariants.{BadLine, TooManyLines}
use Rattle.ngc_events.specs.Events.{parsed_event, parsed_line, prefixed, parsed_lines, parsed_events}
use Rattle.ngc_events.specs.Reading.{parsed_from, all_prefixed}
use Rattle.ngc_events.proofs.LineFeeds.{lines_of, some_lines, feed_found, no_feed_found}

-- ---- one line

few : (number : ℕ) → number ≤ 1000000 → nat_le number 1000000 ≡ true
few number h = grind (arith, nat_tests)

many : (number : ℕ) → 1000000 < number → nat_le number 1000000 ≡ false
many number h = grind (arith, nat_tests)

pub line_few : (number : ℕ) (said : Option EventLine) → number ≤ 1000000 → parsed_line number said ≡ ok_or said (BadLine number)
line_few number said h = rw (few number h) refl

line_many : (number : ℕ) (said : Option EventLine) → 1000000 < number → parsed_line number said ≡ Err TooManyLines
line_many number said h = rw (many number h) refl

not_empty : (n : ℕ) → 0 < n → (n == 0) ≡ false
not_empty n h = grind (arith, nat_tests)

last_said : (number : ℕ) (last : List ℕ) → 0 < length last → parsed_lines number (last ∷ []) ≡ prefixed (parsed_line number None) (Ok [])
unfolding parsed_lines
last_said number last h = rw (not_empty (length last) h) refl

pub more_said : (number : ℕ) (line : List ℕ) (text : List ℕ)
    → parsed_lines number (line ∷ lines_of text) ≡ prefixed (parsed_line number (parsed_event line)) (parsed_from (number + 1) text)
unfolding parsed_lines
more_said number line text = let s = some_lines text in by_lines number line (lines_of text) s.0 s.1 s.2 where
  by_lines : (number : ℕ) (line : List ℕ) (lines : List (List ℕ)) (x : List ℕ) (xs : List (List ℕ)) → lines ≡ x ∷ xs
      → parsed_lines number (line ∷ lines) ≡ prefixed (parsed_line number (parsed_event line)) (parsed_lines (number + 1) lines)
  by_lines number line lines x xs e = rw e refl

-- the first line, which ends at its line feed
found : (number : ℕ) (text : List ℕ) (k : ℕ) → IsFirstByte (is_byte 10) text (Some k)
    → parsed_from number text ≡ prefixed (parsed_line number (parsed_event (take k text))) (parsed_from (number + 1) (drop (k + 1) text))
found number text k h = ap (parsed_lines number) (feed_found text k h) ∙ more_said number (take k text) (drop (k + 1) text)

pub line_taken : (number : ℕ) (text line afterwards : List ℕ) (k : ℕ) (e : EventLine) → number ≤ 1000000 → IsFirstByte (is_byte 10) text (Some k)
    → line ≡ take k text → afterwards ≡ drop (k + 1) text → Some e ≡ parsed_event line → parsed_from number text ≡ prefixed (Ok e) (parsed_from (number + 1) afterwards)
line_taken number text line afterwards k e small h is_line is_behind said =
    found number text k h
    ∙ ap (λ (r : Result EventLine EventsFault). prefixed r (parsed_from (number + 1) (drop (k + 1) text)))
    (line_few number (parsed_event (take k text)) small ∙ ap (λ (o : Option EventLine). ok_or o (BadLine number)) (ap parsed_event (sym is_line) ∙ sym said))
    ∙ ap (λ (l : List ℕ). prefixed (Ok e) (parsed_from (number + 1) l)) (sym is_behind)

pub line_refused : (number : ℕ) (text line : List ℕ) (k : ℕ) → number ≤ 1000000 → IsFirstByte (is_byte 10) text (Some k)
    → line ≡ take k text → None ≡ parsed_event line → parsed_from number text ≡ Err (BadLine number)
line_refused number text line k small h is_line said =
    found number text k h
    ∙ ap (λ (r : Result EventLine EventsFault). prefixed r (parsed_from (number + 1) (drop (k + 1) text)))
    (line_few number (parsed_event (take k text)) small ∙ ap (λ (o : Option EventLine). ok_or o (BadLine number)) (ap parsed_event (sym is_line) ∙ sym said))

pub line_unended : (number : ℕ) (text : List ℕ) → number ≤ 1000000 → 0 < length text → IsFirstByte (is_byte 10) text None →
    parsed_from number text ≡ Err (BadLine number)
line_unended number text small some h =
    ap (parsed_lines number) (no_feed_found text h) ∙ last_said number text some
    ∙ ap (λ (r : Result EventLine EventsFault). prefixed r (Ok [])) (line_few number None small)

-- if the part after the last line feed is the only part, it is the whole text
only_part : (text last : List ℕ) → lines_of text ≡ last ∷ [] → last ≡ text
only_part text last e = sym (ap (join_with_byte 10) e) ∙ join_with_byte-slice_split 10 text

pub lines_many : (number : ℕ) (text : List ℕ) → 1000000 < number → 0 < length text → parsed_from number text ≡ Err TooManyLines
unfolding parsed_lines
lines_many number text great some = let s = some_lines text in by_lines number text great some s.0 s.1 s.2 where
  by_lines : (number : ℕ) (text : List ℕ) → 1000000 < number → 0 < length text → (x : List ℕ) (xs : List (List ℕ)) → lines_of text ≡ x ∷ xs
      → parsed_from number text ≡ Err TooManyLines
  by_lines number text great some x [] e =
      let whole : length x ≡ length text = ap length (only_part text x e) in
      ap (parsed_lines number) e ∙ last_said number x (omega (arith, whole, some))
      ∙ ap (λ (r : Result EventLine EventsFault). prefixed r (Ok [])) (line_many number None great)
  by_lines number text great some x (y ∷ ys) e =
      ap (parsed_lines number) e ∙ ap (λ (r : Result EventLine EventsFault). prefixed r (parsed_lines (number + 1) (y ∷ ys)))
      (line_many number (parsed_event x) great)

-- ---- all lines

none_in_front : (r : Result (List EventLine) EventsFault) → r ≡ all_prefixed [] r
none_in_front (Ok others) = refl
none_in_front (Err fault) = refl

pub read_begins : (text : List ℕ) (items : List EventLine) (number : ℕ) → items ≡ [] → number ≡ 1 →
    parsed_events text ≡ all_prefixed items (parsed_from number text)
unfolding parsed_events
read_begins text items number e one = none_in_front (parsed_from 1 text) ∙ rw (e, one) refl

one_more : (items : List EventLine) (e : EventLine) (r : Result (List EventLine) EventsFault) →
    all_prefixed items (prefixed (Ok e) r) ≡ all_prefixed (items ++ (e ∷ [])) r
one_more items e (Ok others) = ap (λ (l : List EventLine). ok l) (sym (append_assoc items (e ∷ []) others)) where
  ok : List EventLine → Result (List EventLine) EventsFault
  ok l = Ok l
one_more items e (Err fault) = refl

pub read_more : (says : Result (List EventLine) EventsFault) (items more : List EventLine) (e : EventLine) (number next : ℕ) (text afterwards : List ℕ) →
    says ≡ all_prefixed items (parsed_from number text)
    → parsed_from number text ≡ prefixed (Ok e) (parsed_from (number + 1) afterwards) → more ≡ items ++ (e ∷ []) → next ≡ number + 1 →
    says ≡ all_prefixed more (parsed_from next afterwards)
read_more says items more e number next text afterwards h step is_more is_next =
    h ∙ ap (all_prefixed items) step ∙ one_more items e (parsed_from (number + 1) afterwards) ∙ rw (is_more, is_next) refl

pub read_fails : (says : Result (List EventLine) EventsFault) (items : List EventLine) (number : ℕ) (text : List ℕ) (fault : EventsFault) →
    says ≡ all_prefixed items (parsed_from number text)
    → parsed_from number text ≡ Err fault → says ≡ Err fault
read_fails says items number text fault h e = h ∙ ap (all_prefixed items) e

pub nothing_said : (number : ℕ) → parsed_from number [] ≡ Ok []
unfolding parsed_lines
nothing_said number = refl

pub read_ends : (says : Result (List EventLine) EventsFault) (items : List EventLine) (number : ℕ) (text : List ℕ) →
    says ≡ all_prefixed items (parsed_from number text) → text ≡ [] → says ≡ Ok items
read_ends says items number text h e =
    h ∙ ap (λ (l : List ℕ). all_prefixed items (parsed_from number l)) e ∙ ap (all_prefixed items) (nothing_said number)
    ∙ ap (λ (l : List EventLine). ok l) (append-nil items) where
      ok : List EventLine → Result (List EventLine) EventsFault
      ok l = Ok l
