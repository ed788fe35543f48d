-- The stored contents of lines: the effect of a push, and their meaning.
use Rattle.std.proofs.Common.{◌≡◌, ℕ, zero, suc, ◌<◌, ap, subst, Bool, true, false, Option, Some, None, List, [], ◌∷◌, ◌++◌, length, map, get_or, slice_get}
use Rattle.std.proofs.Common.{Result, Ok, Err, refl, sym, ◌∙◌, arith}
use Rattle.std.specs.Option.{option_map}
use Rattle.std.specs.Prelude.{◌==◌, ◌&&◌, nat_le, IsOk, ℤ, if◌then◌else◌}
use Rattle.std.proofs.lemmas.Bool.Decides.{nat_tests}
use Rattle.std.proofs.lemmas.Option.{slice_get-map, slice_get_read, same_Some}
use Rattle.ngc_line_reader.specs.declared.program.stored.LineEnd.{LineEnd}
use Rattle.ngc_line_reader.specs.declared.fault.LineFault.{LineFault}
use Rattle.ngc_line_reader.specs.Program.{Line}
use Rattle.ngc_line_reader.specs.Text.{text, columns, place_in}
use Rattle.ngc_line_reader.specs.ReadLine.{line_read}
use Rattle.ngc_line_reader.specs.ScanLine.{Parts, ParsedLine, parsed_line_of, parts_of, text_at}
use Rattle.ngc_line_reader.specs.Stored.{line_of}
use Rattle.ngc_line_reader.specs.declared.line.Line.{Line as HeldLine}
use Rattle.ngc_line_reader.specs.Shown.{ShowsReading, items_of}
use Rattle.ngc_line_reader.specs.Tokens.{symbols}
use Rattle.ngc_line_reader.specs.Symbols.{symbols_from}
use Rattle.ngc_line_reader.proofs.KeptSymbols.{loads_back}
use Rattle.ngc_line_reader.specs.Kept.{AllKept, StoredLine, by_numbers, by_symbols, SymbolsKept, symbols_kept_of, is_numbered, numbered_words, stored_contents}
use Rattle.ngc_line_reader.specs.Kept.{LiesWithin, Keeps, AreWithin, AreKept, parts_at, parsed_in, parsed_line, line_kept}
use Rattle.ngc_line_reader.specs.Grammar.{optional_part}
use Rattle.ngc_line_reader.specs.Held.{all_tokens, words_from, settings_from}
use Rattle.ngc_line_reader.specs.Words.{pairs_of, number_words, SaysNumbers, SaysDeleted}
use Rattle.ngc_line_reader.specs.declared.letter.Letter.{Letter}
use Rattle.ngc_line_reader.specs.declared.word.Word.{Word}
use Rattle.ngc_line_reader.proofs.NumberWords.{numbered_are, are_numbered}
use Rattle.ngc_line_reader.proofs.ReadLines.{TakesText, text_takes}

map-push : {X Y : Type 0} (f : X → Y) (xs : List X) (x : X) → map f (xs ++ (x ∷ [])) ≡ map f xs ++ (f x ∷ [])
map-push f [] x = refl
map-push f (y ∷ xs) x = ap (λ l. f y ∷ l) (map-push f xs x)

-- positions within the contents stay within them
pub within_stays : (old new : AllKept) (ends : List LineEnd) → Keeps old new → AreWithin old ends → AreWithin new ends
within_stays old new [] keeps w = tt
within_stays old new (e ∷ ends) keeps w = ((keeps e.parts.kept w.0).0, within_stays old new ends keeps w.1)

within_more : (all : AllKept) (ends : List LineEnd) (e : LineEnd) → AreWithin all ends → LiesWithin all e.parts.kept → AreWithin all (ends ++ (e ∷ []))
within_more all [] e w h = (h, tt)
within_more all (x ∷ ends) e w h = (w.0, within_more all ends e w.1 h)

-- and one more
pub within_after : (all : AllKept) (ends afterwards : List LineEnd) (e : LineEnd) → afterwards ≡ ends ++ (e ∷ []) → AreWithin all ends → LiesWithin all e.parts.kept →
    AreWithin all afterwards
within_after all ends afterwards e is w h = subst (λ (l : List LineEnd). AreWithin all l) (sym is) (within_more all ends e w h)

same_kept : (old new : AllKept) (ends : List LineEnd) → Keeps old new → AreWithin old ends → map (line_kept new) ends ≡ map (line_kept old) ends
same_kept old new [] keeps w = refl
same_kept old new (e ∷ ends) keeps w =
    ap (λ (p : StoredLine). Some (e.parts.deleted, p) ∷ map (line_kept new) ends) (keeps e.parts.kept w.0).1
    ∙ ap (λ l. line_kept old e ∷ l) (same_kept old new ends keeps w.1)

-- the stored contents of the lines stay unchanged
pub kept_stays : (old new : AllKept) (lines : List Line) (ends : List LineEnd) → Keeps old new → AreWithin old ends → AreKept old lines ends →
    AreKept new lines ends
kept_stays old new lines ends keeps w h = h ∙ sym (same_kept old new ends keeps w)

-- and one more line is stored
pub kept_after : (all : AllKept) (lines after : List Line) (ends afterwards : List LineEnd) (line : Line) (e : LineEnd) → after ≡ lines ++ (line ∷ []) →
    afterwards ≡ ends ++ (e ∷ []) → AreKept all lines ends
    → parsed_line line ≡ line_kept all e → AreKept all after afterwards
kept_after all lines after ends afterwards line e a b h same =
    ap (map parsed_line) a
    ∙ map-push parsed_line lines line
    ∙ ap (λ l. l ++ (parsed_line line ∷ [])) h
    ∙ ap (λ x. map (line_kept all) ends ++ (x ∷ [])) same
    ∙ sym (map-push (line_kept all) ends e)
    ∙ sym (ap (map (line_kept all)) b)

-- a line that was read is stored
pub reading_kept : (all : AllKept) (number : ℕ) (bytes : List ℕ) (reading : HeldLine) (e : LineEnd) → line_read bytes ≡ Ok (parsed_line_of reading) →
    parts_at all e.parts.kept ≡ stored_contents (parts_of reading) → e.parts.deleted ≡ reading.deleted
    → parsed_line (line_of number bytes) ≡ line_kept all e
reading_kept all number bytes reading e read parts deleted =
    ap parsed_in read ∙ ap (λ (p : StoredLine). Some (reading.deleted, p)) (sym parts) ∙ ap (λ (d : Bool). Some (d, parts_at all e.parts.kept)) (sym deleted)

within_at : (all : AllKept) (ends : List LineEnd) (i : ℕ) (e : LineEnd) → AreWithin all ends → slice_get ends i ≡ Some e → LiesWithin all e.parts.kept
within_at all [] i e w is = absurd (cc is)
within_at all (x ∷ ends) zero e w is = subst (λ (y : LineEnd). LiesWithin all y.parts.kept) (same_Some _ _ is) w.0
within_at all (x ∷ ends) (suc i) e w is = within_at all ends i e w.1 is

-- the stored contents of the line at an index are within all contents
pub kept_within : (all : AllKept) (ends : List LineEnd) (i : ℕ) (e : LineEnd) → AreWithin all ends → i < length ends → e ≡ get_or ends i e →
    LiesWithin all e.parts.kept
kept_within all ends i e w h is = within_at all ends i e w (slice_get_read ends (length ends) i e refl h is)

-- the line at an index has these stored contents
said_at : (all : AllKept) (lines : List Line) (ends : List LineEnd) (i : ℕ) (l : Line) (e : LineEnd) → AreKept all lines ends → slice_get lines i ≡ Some l →
    slice_get ends i ≡ Some e
    → parsed_line l ≡ line_kept all e
said_at all lines ends i l e kept at end =
    same_Some _ _ (
    sym (slice_get-map parsed_line lines i ∙ ap (option_map parsed_line) at)
    ∙ ap (λ xs. slice_get xs i) kept
    ∙ slice_get-map (line_kept all) ends i
    ∙ ap (option_map (line_kept all)) end)

-- a line that is stored as symbols has words with other values than numbers, or settings
by_test : (b : Bool) (ws : List Word) (k kept : SymbolsKept) → (if b then by_numbers ws else by_symbols k) ≡ by_symbols kept → (b ≡ false) × (k ≡ kept)
by_test true ws k kept is = absurd (cc is)
by_test false ws k kept is = (refl, cc is)

symbols_are : (said : Parts) (kept : SymbolsKept) → stored_contents said ≡ by_symbols kept → (is_numbered said ≡ false) × (symbols_kept_of said ≡ kept)
symbols_are said kept is = by_test (is_numbered said) (numbered_words said.words said.tokens) (symbols_kept_of said) kept is

-- and one that is stored as numbers has none
by_other_test : (b : Bool) (ws kept : List Word) (k : SymbolsKept) → (if b then by_numbers ws else by_symbols k) ≡ by_numbers kept → (b ≡ true) × (ws ≡ kept)
by_other_test true ws kept k is = (refl, cc is)
by_other_test false ws kept k is = absurd (cc is)

numbers_are : (said : Parts) (kept : List Word) → stored_contents said ≡ by_numbers kept → (is_numbered said ≡ true) × (numbered_words said.words said.tokens ≡ kept)
numbers_are said kept is = by_other_test (is_numbered said) (numbered_words said.words said.tokens) kept (symbols_kept_of said) is

-- the loaded contents are those of a reading
items_are : (said : Parts) (kept : SymbolsKept) (parts : Parts) → stored_contents said ≡ by_symbols kept → parts.words ≡ kept.words → parts.settings ≡ kept.settings →
    symbols parts.tokens ≡ symbols_from kept.kinds kept.numbers → items_of parts ≡ items_of said
items_are said kept parts is words settings marks =
    let same : symbols_kept_of said ≡ kept = (symbols_are said kept is).1 in
    let w : parts.words ≡ said.words = words ∙ sym (ap (λ (k : SymbolsKept). k.words) same) in
    let s : parts.settings ≡ said.settings = settings ∙ sym (ap (λ (k : SymbolsKept). k.settings) same) in
    let m : symbols parts.tokens ≡ symbols said.tokens = marks ∙ sym (ap (λ (k : SymbolsKept). symbols_from k.kinds k.numbers) same)
    ∙ loads_back (symbols said.tokens) in
    λ i. record { words = w i; settings = s i; symbols = m i }

-- the contents of a line that is stored
record SaysKept (bytes : List ℕ) (d : Bool) (kept : StoredLine) : Type 0 where
  said : ParsedLine
  takes : TakesText (place_in (columns bytes)) (text bytes) said
  deletes : said.deleted ≡ d
  keeps : stored_contents said.parts ≡ kept

parsed_from : (bytes : List ℕ) (found : Result ParsedLine LineFault) (d : Bool) (kept : StoredLine) → text_at (place_in (columns bytes)) (text bytes) ≡ found
    → parsed_in found ≡ Some (d, kept) → SaysKept bytes d kept
parsed_from bytes (Err fault) d kept is same = absurd (cc same)
parsed_from bytes (Ok s) d kept is same =
    let pair : (s.deleted, stored_contents s.parts) ≡ (d, kept) = same_Some _ _ same in
    record {
      said = s;
      takes = text_takes (place_in (columns bytes)) (text bytes) s is;
      deletes = ap (λ (x : Bool × StoredLine). x.0) pair;
      keeps = ap (λ (x : Bool × StoredLine). x.1) pair;
    }

says_kept : (bytes : List ℕ) (long : Bool) (d : Bool) (kept : StoredLine) → nat_le 257 (length bytes) ≡ long → parsed_in (line_read bytes) ≡ Some (d, kept)
    → SaysKept bytes d kept
says_kept bytes true d kept is same = absurd (cc (is, same))
says_kept bytes false d kept is same = parsed_from bytes (text_at (place_in (columns bytes)) (text bytes)) d kept refl (rw is at same)

pub shown_line : (bytes : List ℕ) (kept : SymbolsKept) (d deleted : Bool) (parts : Parts) → parsed_in (line_read bytes) ≡ Some (d, by_symbols kept)
    → deleted ≡ d → parts.words ≡ kept.words → parts.settings ≡ kept.settings → symbols parts.tokens ≡ symbols_from kept.kinds kept.numbers →
    ShowsReading bytes deleted parts
shown_line bytes kept d deleted parts same out words settings marks =
    let k = says_kept bytes (nat_le 257 (length bytes)) d (by_symbols kept) refl same in
    let w = k.takes in
    record {
      reading = w.r;
      reads = (w.is, w.spelled);
      limit = w.limit;
      shows = record {
        deletes = out ∙ sym k.deletes ∙ ap (λ (x : ParsedLine). x.deleted) w.says;
        says = items_are k.said.parts kept parts k.keeps words settings marks ∙ ap (λ (x : ParsedLine). items_of x.parts) w.says;
      };
    }

-- whether block delete skips a line is stored
pub deleted_line : (bytes : List ℕ) (d : Bool) (kept : StoredLine) → parsed_in (line_read bytes) ≡ Some (d, kept) → SaysDeleted bytes d
deleted_line bytes d kept same =
    let k = says_kept bytes (nat_le 257 (length bytes)) d kept refl same in
    record {
      reading = k.takes.r;
      reads = (k.takes.is, k.takes.spelled);
      says = sym k.deletes ∙ ap (λ (x : ParsedLine). x.deleted) k.takes.says;
    }

both : (a b : Bool) → (a && b) ≡ true → (a ≡ true) × (b ≡ true)
both true b h = (refl, h)
both false b h = absurd (cc h)

same_true : (m n : ℕ) → (m == n) ≡ true → m ≡ n
same_true m n h = grind (arith, nat_tests)

true_same : (m n : ℕ) → m ≡ n → (m == n) ≡ true
true_same m n h = grind (arith, nat_tests)

-- words that are stored with their numbers are a line's words
pub numbered_line : (bytes : List ℕ) (d : Bool) (ws : List Word) → parsed_in (line_read bytes) ≡ Some (d, by_numbers ws) → SaysNumbers bytes (Some (pairs_of ws))
numbered_line bytes d ws same =
    let k = says_kept bytes (nat_le 257 (length bytes)) d (by_numbers ws) refl same in
    let w = k.takes in
    let place = place_in (columns bytes) in
    let end : List ℕ = optional_part 59 w.r.remark in
    let n = numbers_are k.said.parts ws k.keeps in
    let parts = ap (λ (x : ParsedLine). x.parts) w.says in
    let tests : (length (settings_from place 0 w.r.items end) == 0) && (length (all_tokens place w.r.items end) == length (words_from place 0 w.r.items end)) ≡ true =
    sym (ap is_numbered parts) ∙ n.0 in
    let t = both _ _ tests in
    let are = numbered_are place 0 w.r.items end (same_true _ _ t.0) (same_true _ _ t.1) in
    record {
      reading = w.r;
      reads = (w.is, w.spelled);
      limit = w.limit;
      says = sym (are ∙ ap (λ (p : Parts). Some (pairs_of (numbered_words p.words p.tokens))) (sym parts) ∙ ap (λ (l : List Word). Some (pairs_of l)) n.1);
    }

-- a line that is stored as symbols has other values than numbers
pub symbols_line : (bytes : List ℕ) (d : Bool) (kept : SymbolsKept) → parsed_in (line_read bytes) ≡ Some (d, by_symbols kept) → SaysNumbers bytes None
symbols_line bytes d kept same =
    let k = says_kept bytes (nat_le 257 (length bytes)) d (by_symbols kept) refl same in
    let w = k.takes in
    let place = place_in (columns bytes) in
    let end : List ℕ = optional_part 59 w.r.remark in
    let n = symbols_are k.said.parts kept k.keeps in
    let parts = ap (λ (x : ParsedLine). x.parts) w.says in
    let not_all = sym (ap is_numbered parts) ∙ n.0 in
    record { reading = w.r; reads = (w.is, w.spelled); limit = w.limit; says = other (number_words w.r.items) (are_numbered place 0 w.r.items end) not_all } where
      other : {a b c d : ℕ} (x : Option (List (Letter × ℤ))) → ((ws : List (Letter × ℤ)) → x ≡ Some ws → (a ≡ b) × (c ≡ d)) → ((a == b) && (c == d)) ≡ false → None ≡ x
      other None are not_all = refl
      other (Some ws) are not_all = let h = are ws refl in absurd (cc (not_all, true_same _ _ h.0, true_same _ _ h.1))

pub line_kept_is : (all : AllKept) (lines : List Line) (ends : List LineEnd) (i : ℕ) (e : LineEnd) (bytes : List ℕ) → AreKept all lines ends →
    i < length ends → e ≡ get_or ends i e
    → option_map (λ (l : Line). l.bytes) (slice_get lines i) ≡ Some bytes → (line_kept all e ≡ parsed_in (line_read bytes))
line_kept_is all lines ends i e bytes kept h is b = by_line (slice_get lines i) refl b where
  by_line : (x : Option Line) → slice_get lines i ≡ x → option_map (λ (l : Line). l.bytes) x ≡ Some bytes → line_kept all e ≡ parsed_in (line_read bytes)
  by_line None at none = absurd (cc none)
  by_line (Some l) at same =
      sym (said_at all lines ends i l e kept at (slice_get_read ends (length ends) i e refl h is))
      ∙ ap (λ (bs : List ℕ). parsed_in (line_read bs)) (same_Some _ _ same)

pub is_ok_of : {X E : Type 0} (r : Result X E) (x : X) → r ≡ Ok x → IsOk r
is_ok_of (Ok y) x is = refl
is_ok_of (Err e) x is = absurd (cc is)
