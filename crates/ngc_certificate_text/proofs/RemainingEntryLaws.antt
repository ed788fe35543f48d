-- The remaining entries, one by one.
use Rattle.std.proofs.Common.{◌≡◌, ℕ, zero, suc, ◌+◌, ◌-◌, ◌≤◌, ap, subst, Bool, true, false, Option, Some, None, Result, Ok, Err, List, [], ◌∷◌, ◌++◌, length}
use Rattle.std.proofs.Common.{refl, sym, ◌∙◌, append_assoc, arith}
use Rattle.std.specs.Prelude.{ℤ, pos, unsigned_abs, codes, decimal, map, ◌==◌, ◌&&◌, ◌||◌, not, nat_le, nat_lt, if◌then◌else◌}
use Rattle.std.specs.Fmt.{signed_decimal}
use Rattle.std.specs.List.{join_with_byte}
use Rattle.std.specs.Str.{bytes_eq}
use Rattle.std.proofs.lemmas.Bool.{and_from, and_parts}
use Rattle.std.proofs.lemmas.Bool.Decides.{nat_tests}
use Rattle.ngc_certificate_text.specs.declared.expected.RemainingEntries.{RemainingEntries}
use Rattle.ngc_certificate_text.specs.declared.expected.Indices.{Indices}
use Rattle.ngc_certificate_text.specs.declared.expected.Indices.TheVariants.{Both, Off, On}
use Rattle.ngc_certificate_text.specs.declared.expected.RemainingMotions.TheVariants.{Joined}
use Rattle.ngc_certificate_text.specs.declared.lines.CountsLine.{CountsLine}
use Rattle.ngc_certificate_text.specs.declared.lines.EntryLine.{EntryLine}
use Rattle.ngc_certificate_text.specs.declared.lines.LineFlaw.{LineFlaw}
use Rattle.ngc_certificate_text.specs.declared.lines.LineFlaw.TheVariants.{Spelling}
use Rattle.ngc_certificate_text.specs.declared.lines.MotionLine.{MotionLine}
use Rattle.ngc_certificate_text.specs.declared.piece.Piece.{Piece}
use Rattle.ngc_certificate_text.specs.Ahead.{go_on}
use Rattle.ngc_certificate_text.specs.Certificate.{INDEX_LIMIT, PIECE_LIMIT, MOTION_LIMIT}
use Rattle.ngc_certificate_text.specs.EntryLines.{motion_counts, parsed_counts, none_left, may_still_follow, remaining_after, three_counts, of_setting, entry_in, parsed_entry}
use Rattle.ngc_certificate_text.specs.Joined.{Item, good_indices}
use Rattle.ngc_certificate_text.specs.Lines.{numbers_in, numbers_in_rest, is_count, ranged, two_counts, parsed_piece}
use Rattle.ngc_certificate_text.specs.Number.{fields}
use Rattle.ngc_certificate_text.specs.ParsedPart.{Place, ParsedPart, then_read, line_at, several, item_at, items_at}
use Rattle.ngc_certificate_text.specs.Spelling.{item_line}
use Rattle.ngc_certificate_text.proofs.Fields.{AreSmall, line_text, line_fields, line_numbers, line_spelled, numbers_in-signed, numbers_spelled, bytes_same}
use Rattle.ngc_certificate_text.proofs.Fields.{joined_split}
use Rattle.ngc_certificate_text.proofs.SpelledLines.{IsLine, AreWords, behind_length, text_is_line, ranged_ok, count_from, counted, two_counts_ok}
use Rattle.ngc_certificate_text.proofs.LinesTaken.{then_ok, line_taken, ok_same, read_to}

abbrev pub total : RemainingEntries → ℕ
total left = left.off + left.on

-- ---- the line of an entry

abbrev pub entry_word : Indices → List ℕ
entry_word (Both i j) = codes "both"
entry_word (Off i) = codes "off"
entry_word (On j) = codes "on"

abbrev pub entry_numbers : Indices → ℕ → List ℤ
entry_numbers (Both i j) n = pos i ∷ pos j ∷ pos n ∷ []
entry_numbers (Off i) n = pos i ∷ pos n ∷ []
entry_numbers (On j) n = pos j ∷ pos n ∷ []

unfoldable pub entry_text : Indices → ℕ → List ℕ
entry_text i n = line_text (entry_word i) [] (entry_numbers i n)

-- an entry of n pieces that may be next, with its numbers in range
pub record IsTaken (left : RemainingEntries) (i : Indices) (n : ℕ) : Type 0 where
  pub may : may_still_follow left i ≡ true
  pub indices : good_indices i ≡ true
  pub some : 1 ≤ n
  pub few : n ≤ PIECE_LIMIT

-- the content of the fields
record EntryFields (left : RemainingEntries) (word : List ℕ) (fs : List (List ℕ)) (i : Indices) (n : ℕ) : Type 0 where
  kind : word ≡ entry_word i
  numbers : numbers_in fs ≡ Some (entry_numbers i n)
  taken : IsTaken left i n

abbrev entry_line : Indices → ℕ → EntryLine
entry_line i n = record { indices = i; pieces = n }

abbrev SaysEntry : RemainingEntries → List ℕ → List (List ℕ) → EntryLine → Type 0
SaysEntry left word fs e = EntryFields left word fs e.indices e.pieces

pub least : (n m : ℕ) → n ≤ m → nat_le n m ≡ true
least n m h = grind (arith, nat_tests)

three_ok : (left : RemainingEntries) (word : List ℕ) (fs : List (List ℕ)) (o : Option (List ℤ)) (e : EntryLine) → numbers_in fs ≡ o → word ≡ codes "both" →
    may_still_follow left (Both 0 0) ≡ true
    → three_counts o ≡ Ok e → SaysEntry left word fs e
three_ok left word fs None e is kind may h = absurd (cc h)
three_ok left word fs (Some []) e is kind may h = absurd (cc h)
three_ok left word fs (Some (x ∷ [])) e is kind may h = absurd (cc h)
three_ok left word fs (Some (x ∷ y ∷ [])) e is kind may h = absurd (cc h)
three_ok left word fs (Some (x ∷ y ∷ z ∷ [])) e is kind may h =
    let r = ranged_ok (is_count 0 INDEX_LIMIT x && (is_count 0 INDEX_LIMIT y && is_count 1 PIECE_LIMIT z))
    (entry_line (Both (unsigned_abs x) (unsigned_abs y)) (unsigned_abs z)) e h in
    let p = and_parts (is_count 0 INDEX_LIMIT x) (is_count 0 INDEX_LIMIT y && is_count 1 PIECE_LIMIT z) r.0 in
    let q = and_parts (is_count 0 INDEX_LIMIT y) (is_count 1 PIECE_LIMIT z) p.1 in
    let cx = counted 0 INDEX_LIMIT x p.0 in
    let cy = counted 0 INDEX_LIMIT y q.0 in
    let cz = counted 1 PIECE_LIMIT z q.1 in
    let all : Some (x ∷ y ∷ z ∷ []) ≡ Some (pos (unsigned_abs x) ∷ pos (unsigned_abs y) ∷ pos (unsigned_abs z) ∷ []) =
    ap (λ (k : ℤ). Some (k ∷ y ∷ z ∷ [])) cx.is ∙ ap (λ (k : ℤ). Some (pos (unsigned_abs x) ∷ k ∷ z ∷ [])) cy.is
    ∙ ap (λ (k : ℤ). Some (pos (unsigned_abs x) ∷ pos (unsigned_abs y) ∷ k ∷ [])) cz.is in
    let says : EntryFields left word fs (Both (unsigned_abs x) (unsigned_abs y)) (unsigned_abs z) = record {
      kind = kind;
      numbers = is ∙ all;
      taken = record {
        may = may;
        indices = and_from _ _ (least (unsigned_abs x) INDEX_LIMIT cx.high) (least (unsigned_abs y) INDEX_LIMIT cy.high);
        some = cz.low;
        few = cz.high;
      };
    } in
    subst (λ (l : EntryLine). SaysEntry left word fs l) r.1 says
three_ok left word fs (Some (x ∷ y ∷ z ∷ a ∷ zs)) e is kind may h = absurd (cc h)

of_one : (f : ℕ → Indices) (r : Result MotionLine LineFlaw) (e : EntryLine) → of_setting f r ≡ Ok e →
    (m : MotionLine) × (r ≡ Ok m) × (entry_line (f m.index) m.pieces ≡ e)
of_one f (Ok m) e h = (m, refl, cc h)
of_one f (Err flaw) e h = absurd (cc h)

off_ok : (left : RemainingEntries) (word : List ℕ) (fs : List (List ℕ)) (e : EntryLine) → word ≡ codes "off" → may_still_follow left (Off 0) ≡ true →
    of_setting Off (two_counts (numbers_in fs)) ≡ Ok e → SaysEntry left word fs e
off_ok left word fs e kind may h =
    let m = of_one Off (two_counts (numbers_in fs)) e h in
    let c = two_counts_ok (numbers_in fs) m.0 m.1 in
    let says : EntryFields left word fs (Off m.0.index) m.0.pieces = record {
      kind = kind;
      numbers = c.is;
      taken = record { may = may; indices = least m.0.index INDEX_LIMIT c.index; some = c.some; few = c.few };
    } in
    subst (λ (l : EntryLine). SaysEntry left word fs l) m.2 says

on_ok : (left : RemainingEntries) (word : List ℕ) (fs : List (List ℕ)) (e : EntryLine) → word ≡ codes "on" → may_still_follow left (On 0) ≡ true →
    of_setting On (two_counts (numbers_in fs)) ≡ Ok e → SaysEntry left word fs e
on_ok left word fs e kind may h =
    let m = of_one On (two_counts (numbers_in fs)) e h in
    let c = two_counts_ok (numbers_in fs) m.0 m.1 in
    let says : EntryFields left word fs (On m.0.index) m.0.pieces = record {
      kind = kind;
      numbers = c.is;
      taken = record { may = may; indices = least m.0.index INDEX_LIMIT c.index; some = c.some; few = c.few };
    } in
    subst (λ (l : EntryLine). SaysEntry left word fs l) m.2 says

by_entry_word : (left : RemainingEntries) (word : List ℕ) (fs : List (List ℕ)) (e : EntryLine) (b c d : Bool)
    → (bytes_eq word (codes "both") && may_still_follow left (Both 0 0)) ≡ b → (bytes_eq word (codes "off") && may_still_follow left (Off 0)) ≡ c →
    (bytes_eq word (codes "on") && may_still_follow left (On 0)) ≡ d
    → (if b then three_counts (numbers_in fs) else if c then of_setting Off (two_counts (numbers_in fs)) else if d
    then of_setting On (two_counts (numbers_in fs)) else Err Spelling) ≡ Ok e
    → SaysEntry left word fs e
by_entry_word left word fs e true c d x y z h =
    let p = and_parts (bytes_eq word (codes "both")) (may_still_follow left (Both 0 0)) x in
    three_ok left word fs (numbers_in fs) e refl (bytes_same word (codes "both") p.0) p.1 h
by_entry_word left word fs e false true d x y z h =
    let p = and_parts (bytes_eq word (codes "off")) (may_still_follow left (Off 0)) y in
    off_ok left word fs e (bytes_same word (codes "off") p.0) p.1 h
by_entry_word left word fs e false false true x y z h =
    let p = and_parts (bytes_eq word (codes "on")) (may_still_follow left (On 0)) z in
    on_ok left word fs e (bytes_same word (codes "on") p.0) p.1 h
by_entry_word left word fs e false false false x y z h = absurd (cc h)

pub record EntrySpelled (left : RemainingEntries) (line : List ℕ) (e : EntryLine) : Type 0 where
  pub is : line ≡ entry_text e.indices e.pieces
  pub taken : IsTaken left e.indices e.pieces

numbers_small : (i : Indices) (n : ℕ) → good_indices i ≡ true → n ≤ PIECE_LIMIT → AreSmall (entry_numbers i n)
numbers_small (Both i j) n good few = let p = and_parts (nat_le i INDEX_LIMIT) (nat_le j INDEX_LIMIT) good in
    (grind (arith, nat_tests, p.0), (grind (arith, nat_tests, p.1), (omega (arith, few), tt)))
numbers_small (Off i) n good few = (grind (arith, nat_tests, good), (omega (arith, few), tt))
numbers_small (On j) n good few = (grind (arith, nat_tests, good), (omega (arith, few), tt))

spelled_entry : (left : RemainingEntries) (line : List ℕ) (all : List (List ℕ)) (e : EntryLine) → fields line ≡ all → entry_in left all ≡ Ok e →
    EntrySpelled left line e
unfolding entry_text
spelled_entry left line [] e is h = absurd (cc h)
spelled_entry left line (word ∷ fs) e is h =
    let f = by_entry_word left word fs e (bytes_eq word (codes "both") && may_still_follow left (Both 0 0)) (bytes_eq word (codes "off") && may_still_follow left (Off 0))
    (bytes_eq word (codes "on") && may_still_follow left (On 0)) refl refl refl h in
    let rest = numbers_spelled fs (entry_numbers e.indices e.pieces) f.numbers (numbers_small e.indices e.pieces f.taken.indices f.taken.few) in
    record {
      is = sym (joined_split 32 line) ∙ ap (join_with_byte 32)
          (is ∙ ap (λ (w : List ℕ). w ∷ fs) f.kind ∙ ap (λ (l : List (List ℕ)). entry_word e.indices ∷ l) rest);
      taken = f.taken;
    }

pub entry_spelled : (left : RemainingEntries) (line : List ℕ) (e : EntryLine) → parsed_entry left line ≡ Ok e → EntrySpelled left line e
unfolding parsed_entry
entry_spelled left line e h = spelled_entry left line (fields line) e refl h

-- ---- its text has this content

entry_words : (i : Indices) → AreWords (entry_word i) []
unfolding behind_length
entry_words (Both i j) = record { whole = refl; feedless = refl; short = omega arith }
entry_words (Off i) = record { whole = refl; feedless = refl; short = omega arith }
entry_words (On j) = record { whole = refl; feedless = refl; short = omega arith }

few_numbers : (i : Indices) (n : ℕ) → length (entry_numbers i n) ≤ 8
few_numbers (Both i j) n = omega arith
few_numbers (Off i) n = omega arith
few_numbers (On j) n = omega arith

pub entry_is_line : (i : Indices) (n : ℕ) → good_indices i ≡ true → n ≤ PIECE_LIMIT → IsLine (entry_text i n)
unfolding entry_text
entry_is_line i n good few = text_is_line (entry_word i) [] (entry_numbers i n) (entry_words i) (numbers_small i n good few) (few_numbers i n)

index_counts : (i : ℕ) → nat_le i INDEX_LIMIT ≡ true → is_count 0 INDEX_LIMIT (pos i) ≡ true
index_counts i h = count_from 0 INDEX_LIMIT i (omega arith) (grind (arith, nat_tests))

pub if_taken : (b : Bool) (x y : Result EntryLine LineFlaw) → b ≡ true → (if b then x else y) ≡ x
if_taken b x y e = rw e refl

entry_fields : (left : RemainingEntries) (i : Indices) (n : ℕ) → IsTaken left i n →
    entry_in left (entry_word i ∷ map signed_decimal (entry_numbers i n)) ≡ Ok (entry_line i n)
entry_fields left (Both i j) n t =
    let p = and_parts (nat_le i INDEX_LIMIT) (nat_le j INDEX_LIMIT) t.indices in
    if_taken (may_still_follow left (Both 0 0)) (three_counts (numbers_in (map signed_decimal (entry_numbers (Both i j) n)))) (Err Spelling) t.may
    ∙ ap three_counts (numbers_in-signed (entry_numbers (Both i j) n) (numbers_small (Both i j) n t.indices t.few))
    ∙ ap (λ (g : Bool). ranged g (entry_line (Both i j) n))
    (and_from _ _ (index_counts i p.0) (and_from _ _ (index_counts j p.1) (count_from 1 PIECE_LIMIT n t.some t.few)))
entry_fields left (Off i) n t =
    if_taken (may_still_follow left (Off 0)) (of_setting Off (two_counts (numbers_in (map signed_decimal (entry_numbers (Off i) n))))) (Err Spelling) t.may
    ∙ ap (λ (o : Option (List ℤ)). of_setting Off (two_counts o)) (numbers_in-signed (entry_numbers (Off i) n) (numbers_small (Off i) n t.indices t.few))
    ∙ ap (λ (g : Bool). of_setting Off (ranged g (record { index = i; pieces = n })))
    (and_from _ _ (index_counts i t.indices) (count_from 1 PIECE_LIMIT n t.some t.few))
entry_fields left (On j) n t =
    if_taken (may_still_follow left (On 0)) (of_setting On (two_counts (numbers_in (map signed_decimal (entry_numbers (On j) n))))) (Err Spelling) t.may
    ∙ ap (λ (o : Option (List ℤ)). of_setting On (two_counts o)) (numbers_in-signed (entry_numbers (On j) n) (numbers_small (On j) n t.indices t.few))
    ∙ ap (λ (g : Bool). of_setting On (ranged g (record { index = j; pieces = n })))
    (and_from _ _ (index_counts j t.indices) (count_from 1 PIECE_LIMIT n t.some t.few))

pub entry_reads : (left : RemainingEntries) (i : Indices) (n : ℕ) → IsTaken left i n → parsed_entry left (entry_text i n) ≡ Ok (record { indices = i; pieces = n })
unfolding entry_text parsed_entry
entry_reads left i n t =
    ap (entry_in left) (line_fields (entry_word i) [] (entry_numbers i n) (entry_words i).whole (numbers_small i n t.indices t.few)) ∙ entry_fields left i n t

flat_two : (w s a b n : List ℕ) → (w ++ s ++ a) ++ s ++ b ++ n ≡ (w ++ (s ++ (a ++ (s ++ b)))) ++ n
flat_two w s a b n = simp append_assoc

flat_three : (w s a b c n : List ℕ) → (w ++ s ++ a ++ s ++ b) ++ s ++ c ++ n ≡ (w ++ (s ++ (a ++ (s ++ (b ++ (s ++ c)))))) ++ n
flat_three w s a b c n = simp append_assoc

pub item_line_is : (i : Indices) (n : ℕ) → item_line i n ≡ entry_text i n ++ (10 ∷ [])
unfolding entry_text
item_line_is (Both i j) n = flat_three (codes "both") (32 ∷ []) (decimal i) (decimal j) (decimal n) (10 ∷ [])
item_line_is (Off i) n = flat_two (codes "off") (32 ∷ []) (decimal i) (decimal n) (10 ∷ [])
item_line_is (On j) n = flat_two (codes "on") (32 ∷ []) (decimal j) (decimal n) (10 ∷ [])

-- ---- the line of the counts

unfoldable pub counts_text : ℕ → ℕ → List ℕ
counts_text m n = line_text (codes "motions") [] (pos m ∷ pos n ∷ [])

counts_words : AreWords (codes "motions") []
unfolding behind_length
counts_words = record { whole = refl; feedless = refl; short = omega arith }

pub counts_is_line : (m n : ℕ) → m ≤ MOTION_LIMIT → n ≤ MOTION_LIMIT → IsLine (counts_text m n)
unfolding counts_text
counts_is_line m n hm hn = text_is_line (codes "motions") [] (pos m ∷ pos n ∷ []) counts_words (omega arith, (omega arith, tt)) (omega arith)

pub counts_reads : (m n : ℕ) → m ≤ MOTION_LIMIT → n ≤ MOTION_LIMIT → parsed_counts (counts_text m n) ≡ Ok (record { off = m; on = n })
unfolding counts_text parsed_counts
counts_reads m n hm hn =
    ap motion_counts (line_numbers (codes "motions") [] (pos m ∷ pos n ∷ []) refl (omega arith, (omega arith, tt)))
    ∙ ap (λ (b : Bool). ranged b (record { off = m; on = n }))
    (and_from _ _ (count_from 0 MOTION_LIMIT m (omega arith) hm) (count_from 0 MOTION_LIMIT n (omega arith) hn))

record MotionCounts (o : Option (List ℤ)) (c : CountsLine) : Type 0 where
  is : o ≡ Some (pos c.off ∷ pos c.on ∷ [])
  off : c.off ≤ MOTION_LIMIT
  on : c.on ≤ MOTION_LIMIT

counts_ok : (o : Option (List ℤ)) (c : CountsLine) → motion_counts o ≡ Ok c → MotionCounts o c
counts_ok None c h = absurd (cc h)
counts_ok (Some []) c h = absurd (cc h)
counts_ok (Some (x ∷ [])) c h = absurd (cc h)
counts_ok (Some (x ∷ y ∷ [])) c h =
    let r = ranged_ok (is_count 0 MOTION_LIMIT x && is_count 0 MOTION_LIMIT y) (record { off = unsigned_abs x; on = unsigned_abs y }) c h in
    let p = and_parts (is_count 0 MOTION_LIMIT x) (is_count 0 MOTION_LIMIT y) r.0 in
    let cx = counted 0 MOTION_LIMIT x p.0 in
    let cy = counted 0 MOTION_LIMIT y p.1 in
    let ex : unsigned_abs x ≡ c.off = ap (λ (k : CountsLine). k.off) r.1 in
    let ey : unsigned_abs y ≡ c.on = ap (λ (k : CountsLine). k.on) r.1 in
    record {
      is = ap (λ (k : ℤ). Some (k ∷ y ∷ [])) (cx.is ∙ ap pos ex) ∙ ap (λ (k : ℤ). Some (pos c.off ∷ k ∷ [])) (cy.is ∙ ap pos ey);
      off = omega (arith, cx.high, ex);
      on = omega (arith, cy.high, ey);
    }
counts_ok (Some (x ∷ y ∷ z ∷ zs)) c h = absurd (cc h)

pub record CountsSpelled (line : List ℕ) (c : CountsLine) : Type 0 where
  pub is : line ≡ counts_text c.off c.on
  pub off : c.off ≤ MOTION_LIMIT
  pub on : c.on ≤ MOTION_LIMIT

pub counts_spelled : (line : List ℕ) (c : CountsLine) → parsed_counts line ≡ Ok c → CountsSpelled line c
unfolding counts_text parsed_counts
counts_spelled line c h =
    let k = counts_ok (numbers_in_rest (codes "motions" ∷ []) (fields line)) c h in
    record {
      is = line_spelled (codes "motions") [] (pos c.off ∷ pos c.on ∷ []) line k.is (omega (arith, k.off), (omega (arith, k.on), tt));
      off = k.off;
      on = k.on;
    }

-- ---- fewer entries remain

-- one of `on` alone may be next if some remain
pub some_on : (left : RemainingEntries) (j : ℕ) → may_still_follow left (On j) ≡ true → 1 ≤ left.on
some_on left j h = grind (arith, nat_tests)

-- ---- no entry may be next

-- after one of `on` alone, motions of `off` remain and none of `on`
pub record IsClosed (left : RemainingEntries) : Type 0 where
  pub after_on : left.after_on ≡ true
  pub off : (left.off == 0) ≡ false
  pub on : nat_lt 0 left.on ≡ false

pub closed_left : (left : RemainingEntries) → go_on (Joined left) ≡ false → IsClosed left
closed_left left h = by_tests left.after_on (left.off == 0) (nat_lt 0 left.on) refl refl refl h where
  by_tests : (b c d : Bool) → left.after_on ≡ b → (left.off == 0) ≡ c → nat_lt 0 left.on ≡ d → (not b || (c || d)) ≡ false → IsClosed left
  by_tests true false false e f g h = record { after_on = e; off = f; on = g }
  by_tests true false true e f g h = absurd (cc h)
  by_tests true true d e f g h = absurd (cc h)
  by_tests false c d e f g h = absurd (cc h)

pub closed_some : (left : RemainingEntries) → IsClosed left → 1 ≤ total left
closed_some left h = let off = h.off in grind (arith, nat_tests, off)

none_tried : (word may : Bool) (says more : Result EntryLine LineFlaw) → may ≡ false → (if word && may then says else more) ≡ more
none_tried true may says more h = rw h refl
none_tried false may says more h = refl

no_entry : (left : RemainingEntries) (fs : List (List ℕ)) → may_still_follow left (Both 0 0) ≡ false → may_still_follow left (Off 0) ≡ false → may_still_follow left (On 0) ≡ false
    → entry_in left fs ≡ Err Spelling
no_entry left [] both off on = refl
no_entry left (word ∷ fs) both off on =
    none_tried (bytes_eq word (codes "both")) (may_still_follow left (Both 0 0)) (three_counts (numbers_in fs)) _ both
    ∙ none_tried (bytes_eq word (codes "off")) (may_still_follow left (Off 0)) (of_setting Off (two_counts (numbers_in fs))) _ off
    ∙ none_tried (bytes_eq word (codes "on")) (may_still_follow left (On 0)) (of_setting On (two_counts (numbers_in fs))) (Err Spelling) on

-- every line is then wrong
pub closed_line : (left : RemainingEntries) (line : List ℕ) → IsClosed left → parsed_entry left line ≡ Err Spelling
unfolding parsed_entry
closed_line left line h =
    no_entry left (fields line) (neither (nat_lt 0 left.off) (nat_lt 0 left.on) h.on)
    (neither (nat_lt 0 left.off) (not left.after_on) (ap not h.after_on)) h.on where
      neither : (a b : Bool) → b ≡ false → (a && b) ≡ false
      neither true b e = e
      neither false b e = refl

pub one_fewer : (left : RemainingEntries) (i : Indices) → may_still_follow left i ≡ true → total (remaining_after left i) + 1 ≤ total left
one_fewer left (Both i j) h = let p = and_parts (nat_lt 0 left.off) (nat_lt 0 left.on) h in grind (arith, nat_tests, p.0, p.1)
one_fewer left (Off i) h = let p = and_parts (nat_lt 0 left.off) (not left.after_on) h in grind (arith, nat_tests, p.0)
one_fewer left (On j) h = let some = some_on left j h in omega (arith, some)

pub takes_one : (left : RemainingEntries) (line : List ℕ) (e : EntryLine) → parsed_entry left line ≡ Ok e → total (remaining_after left e.indices) + 1 ≤ total left
takes_one left line e h = one_fewer left e.indices (entry_spelled left line e h).taken.may

not_zero : (n : ℕ) → (suc n == 0) ≡ false
not_zero n = grind (arith, nat_tests)

pub some_entries : (left : RemainingEntries) → 1 ≤ total left → none_left left ≡ false
some_entries left h = some_of left.off left.on h where
  some_of : (m n : ℕ) → 1 ≤ m + n → ((m == 0) && (n == 0)) ≡ false
  some_of zero zero h = absurd (omega (arith, h))
  some_of zero (suc n) h = not_zero n
  some_of (suc m) n h = rw (not_zero m) refl

pub no_more : (left : RemainingEntries) → total left ≡ 0 → none_left left ≡ true
no_more left h = none_of left.off left.on h where
  none_of : (m n : ℕ) → m + n ≡ 0 → ((m == 0) && (n == 0)) ≡ true
  none_of zero zero h = refl
  none_of zero (suc n) h = absurd (omega (arith, h))
  none_of (suc m) n h = absurd (omega (arith, h))

pub no_entries : (left : RemainingEntries) → none_left left ≡ true → total left ≡ 0
no_entries left h = let p = and_parts (left.off == 0) (left.on == 0) h in grind (arith, nat_tests, p.0, p.1)

-- ---- entries are read until none remains

pub items_none : (n : ℕ) (left : RemainingEntries) (p : Place) → none_left left ≡ true → items_at n left p ≡ Ok ([], p)
unfolding items_at
items_none zero left p h = refl
items_none (suc n) left p h = rw h refl

-- an entry, and those after it
abbrev pub entries_by : ℕ → RemainingEntries → ParsedPart Item → ParsedPart (List Item)
entries_by n left t = then_read t (λ x q. then_read (items_at n (remaining_after left x.indices) q) (λ xs r. Ok (x ∷ xs, r)))

pub items_more : (n : ℕ) (left : RemainingEntries) (p : Place) → total left ≡ suc n → items_at (suc n) left p ≡ entries_by n left (item_at left p)
unfolding items_at
items_more n left p h = rw (some_entries left (omega (arith, h))) refl

pub more_items : (n : ℕ) (left : RemainingEntries) (p : Place) → 1 ≤ total left → items_at (suc n) left p ≡ entries_by n left (item_at left p)
unfolding items_at
more_items n left p h = rw (some_entries left h) refl

-- what follows an entry's line
unfoldable pub pieces_behind : EntryLine → Place → ParsedPart Item
pieces_behind e q = then_read (several (line_at parsed_piece) e.pieces q) (λ pieces r. Ok (record { indices = e.indices; pieces = pieces }, r))

pub item_is : (left : RemainingEntries) (p : Place) → item_at left p ≡ then_read (line_at (parsed_entry left) p) pieces_behind
unfolding item_at pieces_behind
item_is left p = refl

abbrev item_with : Indices → List Piece → Item
item_with i pieces = record { indices = i; pieces = pieces }

item_takes : (left : RemainingEntries) (p : Place) (x : Item) (q : Place) → item_at left p ≡ Ok (x, q) → total (remaining_after left x.indices) + 1 ≤ total left
unfolding pieces_behind
item_takes left p x q h =
    let a = then_ok (line_at (parsed_entry left) p) pieces_behind x q (sym (item_is left p) ∙ h) in
    let b = then_ok (several (line_at parsed_piece) a.0.pieces a.1) (λ pieces r. Ok (item_with a.0.indices pieces, r)) x q a.3 in
    let same = ok_same (read_to (item_with a.0.indices b.0) b.1) (read_to x q) b.3 in
    let t = line_taken (parsed_entry left) p a.0 a.1 a.2 in
    subst (λ (r : Item × Place). total (remaining_after left r.0.indices) + 1 ≤ total left) same (takes_one left t.line a.0 t.says)

fewer_items : (n : ℕ) (left : RemainingEntries) → ((more : RemainingEntries) (q : Place) → total more ≤ n → items_at (suc n) more q ≡ items_at n more q) → (t : ParsedPart Item)
    → ((x : Item) (q : Place) → t ≡ Ok (x, q) → total (remaining_after left x.indices) ≤ n) → entries_by (suc n) left t ≡ entries_by n left t
fewer_items n left same (Ok r) h =
    ap (λ (u : ParsedPart (List Item)). then_read u (λ xs s. Ok (r.0 ∷ xs, s))) (same (remaining_after left r.0.indices) r.1 (h r.0 r.1 refl))
fewer_items n left same (Err fault) h = refl

none_extra : (n : ℕ) (left : RemainingEntries) (p : Place) → total left ≡ 0 → items_at (suc n) left p ≡ items_at n left p
none_extra n left p e = let none = no_more left e in items_none (suc n) left p none ∙ sym (items_none n left p none)

some_extra : (n m : ℕ) (left : RemainingEntries) (p : Place) → ((more : RemainingEntries) (q : Place) → total more ≤ n → items_at (suc n) more q ≡ items_at n more q) →
    total left ≤ suc n → total left ≡ m
    → items_at (suc (suc n)) left p ≡ items_at (suc n) left p
some_extra n zero left p same few e = none_extra (suc n) left p e
some_extra n (suc m) left p same few e =
    let some : 1 ≤ total left = omega (arith, e) in
    more_items (suc n) left p some
    ∙ fewer_items n left same (item_at left p) (λ x q k. let one = item_takes left p x q k in omega (arith, one, few))
    ∙ sym (more_items n left p some)

items_extra : (n : ℕ) (left : RemainingEntries) (p : Place) → total left ≤ n → items_at (suc n) left p ≡ items_at n left p
items_extra zero left p h = none_extra 0 left p (omega (arith, h))
items_extra (suc n) left p h = some_extra n (total left) left p (λ more q k. items_extra n more q k) h refl

enough_by : (d k : ℕ) (left : RemainingEntries) (p : Place) → k ≡ total left + d → items_at k left p ≡ items_at (left.off + left.on) left p
enough_by zero k left p e = ap (λ (n : ℕ). items_at n left p) (omega (arith, e))
enough_by (suc d) k left p e =
    let more : k ≡ suc (total left + d) = omega (arith, e) in
    ap (λ (n : ℕ). items_at n left p) more ∙ items_extra (total left + d) left p (omega arith) ∙ enough_by d (total left + d) left p refl

pub items_enough : (k : ℕ) (left : RemainingEntries) (p : Place) → total left ≤ k → items_at k left p ≡ items_at (left.off + left.on) left p
items_enough k left p h = enough_by (k - total left) k left p (omega (arith, h))
