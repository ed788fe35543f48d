-- Stored lines: the effect of a push, and the position of a line.
use Rattle.std.proofs.Common.{◌≡◌, ℕ, zero, suc, ◌+◌, ◌-◌, ◌*◌, ◌<◌, ◌≤◌, ap, subst, Bool, true, false, Some, List, [], ◌∷◌, ◌++◌, length, take, drop, get_or}
use Rattle.std.proofs.Common.{slice_get, slice_range, refl, sym, ◌∙◌, length-append, arith}
use Rattle.std.specs.Prelude.{◌==◌, ◌&&◌, nat_le, IsOk}
use Rattle.std.specs.List.{list_all}
use Rattle.std.proofs.lemmas.Bool.Decides.{nat_tests}
use Rattle.std.proofs.lemmas.List.{take-append-le, drop-append-le, length-drop}
use Rattle.std.proofs.Math.Seq.{drop-append_seam}
use Rattle.ngc_line_reader.specs.declared.program.parts.LineParts.{LineParts}
use Rattle.ngc_line_reader.specs.declared.program.stored.LineEnd.{LineEnd}
use Rattle.ngc_line_reader.specs.Program.{Line}
use Rattle.ngc_line_reader.specs.ReadLine.{line_read}
use Rattle.ngc_line_reader.specs.ProgramText.{HaveReadings}
use Rattle.ngc_line_reader.specs.Stored.{line_of, lines_from, start_from, are_ends, is_read, is_stored}
use Rattle.ngc_line_reader.proofs.Readings.{have_readings}

pub length-lines_from : (bytes : List ℕ) (start : ℕ) (ends : List LineEnd) → length (lines_from bytes start ends) ≡ length ends
length-lines_from bytes start [] = refl
length-lines_from bytes start (e ∷ ends) = ap suc (length-lines_from bytes e.end ends)

pub ruleset counting_lines = length-lines_from

both : (a b : Bool) → (a && b) ≡ true → (a ≡ true) × (b ≡ true)
both true b h = (refl, h)
both false b h = absurd (cc h)

le_true : (m n : ℕ) → nat_le m n ≡ true → m ≤ n
le_true m n h = grind (arith, nat_tests)

true_le : (m n : ℕ) → m ≤ n → nat_le m n ≡ true
true_le m n h = grind (arith, nat_tests)

same_true : (m n : ℕ) → (m == n) ≡ true → m ≡ n
same_true m n h = grind (arith, nat_tests)

true_same : (m n : ℕ) → m ≡ n → (m == n) ≡ true
true_same m n h = grind (arith, nat_tests)

at_most : (m n : ℕ) (b : Bool) → (nat_le m n && b) ≡ true → (m ≤ n) × (b ≡ true)
at_most m n b h = let w : (nat_le m n ≡ true) × (b ≡ true) = both (nat_le m n) b h in (le_true m n w.0, w.1)

joined : (a b : Bool) → a ≡ true → b ≡ true → (a && b) ≡ true
joined true b e f = f
joined false b e f = absurd (cc e)

-- the ends are within the bytes
ends_within : (start total : ℕ) (ends : List LineEnd) → are_ends start total ends ≡ true → start ≤ total
ends_within start total [] h = omega (arith, same_true start total h)
ends_within start total (e ∷ ends) h =
    let w : (start ≤ e.end) × (are_ends e.end total ends ≡ true) = at_most start e.end _ h in
    omega (arith, w.0, ends_within e.end total ends w.1)

abbrev pub end_of : ℕ → LineParts → List ℕ → List ℕ → LineEnd
end_of number parts bytes new = record { number = number; end = length bytes + length new; parts = parts }

seam : (bytes new : List ℕ) (start : ℕ) → start ≡ length bytes → slice_range (bytes ++ new) start (length bytes + length new) ≡ new
seam bytes new start e =
    let same : length bytes + length new - start ≡ length new = omega arith in
    rw (same, e, drop-append_seam bytes new) (whole new) where
      whole : (xs : List ℕ) → take (length xs) xs ≡ xs
      whole [] = refl
      whole (x ∷ xs) = ap (λ l. x ∷ l) (whole xs)

range_stays : (bytes new : List ℕ) (start end : ℕ) → start ≤ end → end ≤ length bytes → slice_range (bytes ++ new) start end ≡ slice_range bytes start end
range_stays bytes new start end h k =
    let l : start ≤ length bytes = omega arith in
    let m : end - start ≤ length (drop start bytes) = simp length-drop (omega arith) in
    rw (drop-append-le start bytes new, take-append-le (end - start) (drop start bytes) new) refl

push_from : (number : ℕ) (parts : LineParts) (bytes new : List ℕ) (start : ℕ) (ends : List LineEnd) → are_ends start (length bytes) ends ≡ true
    → lines_from (bytes ++ new) start (ends ++ (end_of number parts bytes new ∷ [])) ≡ lines_from bytes start ends ++ (line_of number new ∷ [])
push_from number parts bytes new start [] h = ap (λ (b : List ℕ). line_of number b ∷ []) (seam bytes new start (same_true start (length bytes) h))
push_from number parts bytes new start (e ∷ ends) h =
    let w : (start ≤ e.end) × (are_ends e.end (length bytes) ends ≡ true) = at_most start e.end _ h in
    rw (range_stays bytes new start e.end w.0 (ends_within e.end (length bytes) ends w.1), push_from number parts bytes new e.end ends w.1) refl

ends_more : (number : ℕ) (parts : LineParts) (bytes new : List ℕ) (start : ℕ) (ends : List LineEnd) → are_ends start (length bytes) ends ≡ true
    → are_ends start (length (bytes ++ new)) (ends ++ (end_of number parts bytes new ∷ [])) ≡ true
ends_more number parts bytes new start [] h =
    joined _ _ (true_le start (length bytes + length new) (omega (arith, same_true start (length bytes) h))) (true_same _ _ (sym (length-append bytes new)))
ends_more number parts bytes new start (e ∷ ends) h =
    let w : (start ≤ e.end) × (are_ends e.end (length bytes) ends ≡ true) = at_most start e.end _ h in
    joined _ _ (true_le start e.end w.0) (ends_more number parts bytes new e.end ends w.1)

-- the parts of what is stored
record Parts (bytes : List ℕ) (ends : List LineEnd) : Type 0 where
  ordered : are_ends 0 (length bytes) ends ≡ true
  few : length bytes ≤ 256 * length ends
  read : list_all is_read (lines_from bytes 0 ends) ≡ true

parts_of : (bytes : List ℕ) (ends : List LineEnd) → is_stored bytes ends ≡ true → Parts bytes ends
parts_of bytes ends h =
    let w : (are_ends 0 (length bytes) ends ≡ true) × ((nat_le (length bytes) (256 * length ends) && list_all is_read (lines_from bytes 0 ends)) ≡ true) =
    both _ _ h in
    let v : (length bytes ≤ 256 * length ends) × (list_all is_read (lines_from bytes 0 ends) ≡ true) = at_most (length bytes) (256 * length ends) _ w.1 in
    record { ordered = w.0; few = v.0; read = v.1 }

-- one more line
pub lines_pushed : (number : ℕ) (parts : LineParts) (bytes new : List ℕ) (ends : List LineEnd) → is_stored bytes ends ≡ true
    → lines_from (bytes ++ new) 0 (ends ++ (end_of number parts bytes new ∷ [])) ≡ lines_from bytes 0 ends ++ (line_of number new ∷ [])
lines_pushed number parts bytes new ends h = push_from number parts bytes new 0 ends (parts_of bytes ends h).ordered

more_room : (number : ℕ) (parts : LineParts) (bytes new : List ℕ) (ends : List LineEnd) → length bytes ≤ 256 * length ends → length new ≤ 256
    → length (bytes ++ new) ≤ 256 * length (ends ++ (end_of number parts bytes new ∷ []))
more_room number parts bytes new ends h k = omega (arith, length-append bytes new, length-append ends (end_of number parts bytes new ∷ []))

read_more : (lines : List Line) (line : Line) → list_all is_read lines ≡ true → IsOk (line_read line.bytes) → list_all is_read (lines ++ (line ∷ [])) ≡ true
read_more [] line h read = joined (is_read line) true read refl
read_more (x ∷ lines) line h read =
    let w : (is_read x ≡ true) × (list_all is_read lines ≡ true) = both _ _ h in
    joined (is_read x) _ w.0 (read_more lines line w.1 read)

pub stored_pushed : (number : ℕ) (parts : LineParts) (bytes new : List ℕ) (ends : List LineEnd) → is_stored bytes ends ≡ true → length new ≤ 256 →
    IsOk (line_read new)
    → is_stored (bytes ++ new) (ends ++ (end_of number parts bytes new ∷ [])) ≡ true
stored_pushed number parts bytes new ends h short read =
    let w = parts_of bytes ends h in
    let all : list_all is_read (lines_from (bytes ++ new) 0 (ends ++ (end_of number parts bytes new ∷ []))) ≡ true =
    ap (list_all is_read) (push_from number parts bytes new 0 ends w.ordered) ∙ read_more (lines_from bytes 0 ends) (line_of number new) w.read read in
    joined (are_ends 0 (length (bytes ++ new)) (ends ++ (end_of number parts bytes new ∷ []))) _ (ends_more number parts bytes new 0 ends w.ordered)
    (joined (nat_le (length (bytes ++ new)) (256 * length (ends ++ (end_of number parts bytes new ∷ [])))) _
    (true_le _ _ (more_room number parts bytes new ends w.few short)) all)

pub stored_size : (bytes : List ℕ) (ends : List LineEnd) → is_stored bytes ends ≡ true → length bytes ≤ 256 * length ends
stored_size bytes ends h = (parts_of bytes ends h).few

-- each stored line has a reading
pub stored_readings : (bytes : List ℕ) (ends : List LineEnd) → is_stored bytes ends ≡ true → HaveReadings (lines_from bytes 0 ends)
stored_readings bytes ends h = have_readings (lines_from bytes 0 ends) (parts_of bytes ends h).read

-- the line at an index
line_at : (bytes : List ℕ) (start : ℕ) (ends : List LineEnd) (i : ℕ) (e : LineEnd) → i < length ends → e ≡ get_or ends i e
    → slice_get (lines_from bytes start ends) i ≡ Some (line_of e.number (slice_range bytes (start_from start ends i) e.end))
line_at bytes start [] i e h is = absurd (omega (arith, h))
line_at bytes start (x ∷ ends) zero e h is = ap (λ (y : LineEnd). Some (line_of y.number (slice_range bytes start y.end))) (sym is)
line_at bytes start (x ∷ ends) (suc i) e h is = line_at bytes x.end ends i e (omega arith) is

pub stored_line : (bytes : List ℕ) (ends : List LineEnd) (i : ℕ) (e : LineEnd) → i < length ends → e ≡ get_or ends i e
    → slice_get (lines_from bytes 0 ends) i ≡ Some (line_of e.number (slice_range bytes (start_from 0 ends i) e.end))
stored_line bytes ends i e h is = line_at bytes 0 ends i e h is

starts_at : (start : ℕ) (ends : List LineEnd) (i : ℕ) (e : LineEnd) → i < length ends → e ≡ get_or ends i e → e.end ≡ start_from start ends (suc i)
starts_at start [] i e h is = absurd (omega (arith, h))
starts_at start (x ∷ []) zero e h is = ap (λ (y : LineEnd). y.end) is
starts_at start (x ∷ (y ∷ ends)) zero e h is = ap (λ (y : LineEnd). y.end) is
starts_at start (x ∷ ends) (suc i) e h is = starts_at x.end ends i e (omega arith) is

pub start_behind : (ends : List LineEnd) (i j : ℕ) (e : LineEnd) → i < length ends → 1 ≤ i → j ≡ i - 1 → e ≡ get_or ends j e → e.end ≡ start_from 0 ends i
start_behind ends zero j e h k l is = absurd (omega arith)
start_behind ends (suc i) j e h k l is =
    let same : j ≡ i = omega arith in
    starts_at 0 ends i e (omega arith) (is ∙ ap (λ n. get_or ends n e) same)

pub start_first : (ends : List LineEnd) (i : ℕ) → i < 1 → 0 ≡ start_from 0 ends i
start_first [] i h = refl
start_first (e ∷ ends) zero h = refl
start_first (e ∷ ends) (suc i) h = absurd (omega arith)

bounds_at : (total start : ℕ) (ends : List LineEnd) (i : ℕ) (e : LineEnd) → are_ends start total ends ≡ true → i < length ends → e ≡ get_or ends i e
    → (start_from start ends i ≤ e.end) × (e.end ≤ total)
bounds_at total start [] i e s h is = absurd (omega (arith, h))
bounds_at total start (x ∷ ends) zero e s h is =
    let w : (start ≤ x.end) × (are_ends x.end total ends ≡ true) = at_most start x.end _ s in
    let same : e.end ≡ x.end = ap (λ (y : LineEnd). y.end) is in
    (omega (arith, same, w.0), omega (arith, same, ends_within x.end total ends w.1))
bounds_at total start (x ∷ ends) (suc i) e s h is =
    let w : (start ≤ x.end) × (are_ends x.end total ends ≡ true) = at_most start x.end _ s in
    bounds_at total x.end ends i e w.1 (omega arith) is

pub stored_bounds : (bytes : List ℕ) (ends : List LineEnd) (i : ℕ) (e : LineEnd) → is_stored bytes ends ≡ true → i < length ends → e ≡ get_or ends i e
    → (start_from 0 ends i ≤ e.end) × (e.end ≤ length bytes)
stored_bounds bytes ends i e s h is = bounds_at (length bytes) 0 ends i e (parts_of bytes ends s).ordered h is

read_at : (lines : List Line) (i : ℕ) (line : Line) → list_all is_read lines ≡ true → slice_get lines i ≡ Some line → is_read line ≡ true
read_at [] i line h e = absurd (cc e)
read_at (x ∷ lines) zero line h e =
    let w : (is_read x ≡ true) × (list_all is_read lines ≡ true) = both _ _ h in
    let same : x ≡ line = cc e in
    subst (λ (y : Line). is_read y ≡ true) same w.0
read_at (x ∷ lines) (suc i) line h e =
    let w : (is_read x ≡ true) × (list_all is_read lines ≡ true) = both _ _ h in
    read_at lines i line w.1 e

pub stored_read : (bytes : List ℕ) (ends : List LineEnd) (i : ℕ) (e : LineEnd) → is_stored bytes ends ≡ true → i < length ends → e ≡ get_or ends i e
    → IsOk (line_read (slice_range bytes (start_from 0 ends i) e.end))
stored_read bytes ends i e s h is =
    read_at (lines_from bytes 0 ends) i _ (parts_of bytes ends s).read (stored_line bytes ends i e h is)

-- the effect of a push
pub record Pushes (number end : ℕ) (parts : LineParts) (bytes new after : List ℕ) (ends afterwards : List LineEnd) : Type 0 where
  pub bytes_are : after ≡ bytes ++ new
  pub end_is : end ≡ length after
  pub ends_are : afterwards ≡ ends ++ (record { number = number; end = end; parts = parts } ∷ [])

pushed_ends : (number end : ℕ) (parts : LineParts) (bytes new after : List ℕ) (ends afterwards : List LineEnd) →
    Pushes number end parts bytes new after ends afterwards → afterwards ≡ ends ++ (end_of number parts bytes new ∷ [])
pushed_ends number end parts bytes new after ends afterwards p =
    let same : end ≡ length bytes + length new = p.end_is ∙ ap length p.bytes_are ∙ length-append bytes new in
    p.ends_are ∙ ap (λ (n : ℕ). ends ++ (record { number = number; end = n; parts = parts } ∷ [])) same

pub push_lines : (number end : ℕ) (parts : LineParts) (bytes new after : List ℕ) (ends afterwards : List LineEnd) →
    Pushes number end parts bytes new after ends afterwards → is_stored bytes ends ≡ true
    → lines_from after 0 afterwards ≡ lines_from bytes 0 ends ++ (line_of number new ∷ [])
push_lines number end parts bytes new after ends afterwards p h =
    ap (λ (b : List ℕ). lines_from b 0 afterwards) p.bytes_are ∙ ap (λ (e : List LineEnd). lines_from (bytes ++ new) 0 e)
    (pushed_ends number end parts bytes new after ends afterwards p)
    ∙ lines_pushed number parts bytes new ends h

pub push_stored : (number end : ℕ) (parts : LineParts) (bytes new after : List ℕ) (ends afterwards : List LineEnd) →
    Pushes number end parts bytes new after ends afterwards → is_stored bytes ends ≡ true
    → length new ≤ 256 → IsOk (line_read new) → is_stored after afterwards ≡ true
push_stored number end parts bytes new after ends afterwards p h short read =
    ap (λ (b : List ℕ). is_stored b afterwards) p.bytes_are ∙ ap (λ (e : List LineEnd). is_stored (bytes ++ new) e)
    (pushed_ends number end parts bytes new after ends afterwards p)
    ∙ stored_pushed number parts bytes new ends h short read
