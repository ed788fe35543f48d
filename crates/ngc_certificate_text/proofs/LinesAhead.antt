-- The result of a line in front of the rest.
use Rattle.std.proofs.Common.{◌≡◌, ℕ, zero, suc, ◌-◌, ◌≤◌, ◌<◌, ap, subst, Bool, true, false, Result, Ok, Err, List, [], ◌∷◌, length, refl, sym, ◌∙◌, arith}
use Rattle.std.specs.Prelude.{nat_le, codes, IfOk, map, Option, Some, None, ◌+◌, ◌++◌, if◌then◌else◌}
use Rattle.std.specs.Str.{bytes_eq}
use Rattle.std.proofs.lemmas.Bool.Decides.{nat_tests}
use Rattle.std.proofs.lemmas.List.{append-nil}
use Rattle.ngc_certificate_text.specs.declared.expected.Expected.{Expected}
use Rattle.ngc_certificate_text.specs.declared.expected.Expected.TheVariants as next
use Rattle.ngc_certificate_text.specs.declared.expected.BegunMotion.{BegunMotion}
use Rattle.ngc_certificate_text.specs.declared.expected.RemainingEntries.{RemainingEntries}
use Rattle.ngc_certificate_text.specs.declared.expected.Indices.{Indices}
use Rattle.ngc_certificate_text.specs.declared.expected.RemainingMotions.{RemainingMotions}
use Rattle.ngc_certificate_text.specs.declared.expected.RemainingMotions.TheVariants.{Parted, Joined}
use Rattle.ngc_certificate_text.specs.declared.fault.CertificateFault.{CertificateFault}
use Rattle.ngc_certificate_text.specs.declared.fault.CertificateFault.TheVariants as faults
use Rattle.ngc_certificate_text.specs.declared.lines.CountsLine.{CountsLine}
use Rattle.ngc_certificate_text.specs.declared.lines.EntryLine.{EntryLine}
use Rattle.ngc_certificate_text.specs.declared.lines.LineFlaw.{LineFlaw}
use Rattle.ngc_certificate_text.specs.declared.lines.LineFlaw.TheVariants.{Spelling}
use Rattle.ngc_certificate_text.specs.declared.lines.MotionLine.{MotionLine}
use Rattle.ngc_certificate_text.specs.declared.piece.Piece.{Piece}
use Rattle.ngc_certificate_text.specs.declared.piece.Setting.{Setting}
use Rattle.ngc_certificate_text.specs.declared.piece.Setting.TheVariants.{Off, On}
use Rattle.ngc_certificate_text.specs.declared.line_content.Version.{Version}
use Rattle.ngc_certificate_text.specs.declared.line_content.Version.TheVariants.{One, Two}
use Rattle.ngc_certificate_text.specs.Ahead.{Rest, nothing_left, certificate_of, form_of_text, of_version, index_at, item_of, with_items, with_motions}
use Rattle.ngc_certificate_text.specs.Ahead.{with_pieces, name_of, end_ahead, afterwards, setting_ahead, motions_ahead, pieces_ahead, counts_ahead, after_header}
use Rattle.ngc_certificate_text.specs.Ahead.{ahead, Left, left_from, next_of_entries, next_of_motions, motions_after, wrong_line, HaveSome, go_on, is_open, IsSound}
use Rattle.ngc_certificate_text.specs.Certificate.{Entry, CertificateData}
use Rattle.ngc_certificate_text.specs.EntryLines.{parsed_version, parsed_counts, parsed_entry, of_setting, all_left, none_left, remaining_after}
use Rattle.ngc_certificate_text.specs.Joined.{Item, expansion, Form, contents, form_by}
use Rattle.ngc_certificate_text.specs.Joined.{Parted as PartedForm, Joined as JoinedForm}
use Rattle.ngc_certificate_text.specs.Lines.{parsed_setting, parsed_motion, parsed_piece, parsed_end}
use Rattle.ngc_certificate_text.specs.ParsedPart.{Place, ParsedPart, then_read, next_number, fault_at, line_at, several, entry_at, setting_at, settings_at, item_at}
use Rattle.ngc_certificate_text.specs.ParsedPart.{items_at, joined_at, parsed_with, made_with, version_is, header_in, form_at, nothing_in, ended, lines_of, parsed_form}
use Rattle.ngc_certificate_text.specs.ParsedPart.{parsed_certificate}
use Rattle.ngc_certificate_text.specs.LineContent.{parsed_motion_or_entry, after_version}
use Rattle.ngc_certificate_text.proofs.RemainingEntryLaws.{total, takes_one, items_more, items_none, items_enough, closed_left, closed_some, closed_line}
use Rattle.ngc_certificate_text.proofs.Fields.{bytes_same}

short_line : (n : ℕ) → n ≤ 256 → nat_le n 256 ≡ true
short_line n h = grind (arith, nat_tests)

too_long : (n : ℕ) → 256 < n → nat_le n 256 ≡ false
too_long n h = grind (arith, nat_tests)

-- a position before these lines
abbrev pub at : ℕ → List (List ℕ) → Place
at number left = record { number = number; left = left }

-- ---- one line

module _ {X : Type 0} (said : List ℕ → Result X LineFlaw) (number : ℕ) (line after : List ℕ) (left : List (List ℕ)) where
  line_read : (x : X) → length line ≤ 256 → said line ≡ Ok x → line_at said (at number (line ∷ after ∷ left)) ≡ Ok (x, at (next_number number) (after ∷ left))
  unfolding line_at
  line_read x short e = rw (short_line (length line) short, e) refl

  line_flawed : (flaw : LineFlaw) → length line ≤ 256 → said line ≡ Err flaw → line_at said (at number (line ∷ after ∷ left)) ≡ Err (fault_at number flaw)
  unfolding line_at
  line_flawed flaw short e = rw (short_line (length line) short, e) refl

-- these lines have no next one with its line feed, or it is too long
abbrev pub HasNoLine : List (List ℕ) → Type 0
HasNoLine [] = Unit {0}
HasNoLine (last ∷ []) = Unit {0}
HasNoLine (line ∷ after ∷ left) = 256 < length line

line_missing : {X : Type 0} (said : List ℕ → Result X LineFlaw) (number : ℕ) (lines : List (List ℕ)) → HasNoLine lines →
    line_at said (at number lines) ≡ Err (faults.BadLine number)
unfolding line_at
line_missing said number [] h = refl
line_missing said number (last ∷ []) h = refl
line_missing said number (line ∷ after ∷ left) h = rw (too_long (length line) h) refl

-- ---- a value made from a part

with_both : {X Y Z : Type 0} (f : Y → Z) (g : X → Y) (t : ParsedPart X) → parsed_with f (parsed_with g t) ≡ parsed_with (λ x. f (g x)) t
with_both f g (Ok r) = refl
with_both f g (Err fault) = refl

first_motion : (s : Setting) (x : Entry) (xs : List Entry) (t : ParsedPart Rest) →
    parsed_with (with_motions s (x ∷ xs)) t ≡ parsed_with (with_motions s (x ∷ [])) (parsed_with (with_motions s xs) t)
first_motion s x xs (Ok r) = refl
first_motion s x xs (Err fault) = refl

-- ---- the line of a setting

pub setting_on : (s : Setting) (number n : ℕ) (line after : List ℕ) (left : List (List ℕ)) → length line ≤ 256 → parsed_setting (name_of s) line ≡ Ok n
    → setting_ahead s (at number (line ∷ after ∷ left)) ≡ motions_ahead (Parted s n) (at (next_number number) (after ∷ left))
unfolding setting_ahead motions_ahead setting_at
setting_on s number n line after left short e =
    ap (λ (r : ParsedPart ℕ). then_read (then_read r (λ n q. several entry_at n q)) (λ more q. parsed_with (with_motions s more) (afterwards s q)))
    (line_read (parsed_setting (name_of s)) number line after left n short e)

setting_stops : (s : Setting) (p : Place) (fault : CertificateFault) → line_at (parsed_setting (name_of s)) p ≡ Err fault → setting_ahead s p ≡ Err fault
unfolding setting_ahead setting_at
setting_stops s p fault e =
    ap (λ (r : ParsedPart ℕ). then_read (then_read r (λ n q. several entry_at n q)) (λ more q. parsed_with (with_motions s more) (afterwards s q))) e

-- ---- the line of a motion

motion_first : (s : Setting) (x : Entry) (t : ParsedPart (List Entry))
    → then_read (then_read t (λ xs r. Ok (x ∷ xs, r))) (λ more q. parsed_with (with_motions s more) (afterwards s q))
    ≡ parsed_with (with_motions s (x ∷ [])) (then_read t (λ more q. parsed_with (with_motions s more) (afterwards s q)))
motion_first s x (Ok r) = first_motion s x r.0 (afterwards s r.1)
motion_first s x (Err fault) = refl

-- a motion that begins with this line, one of those that remain
abbrev pub begun : RemainingMotions → EntryLine → BegunMotion
begun left e = record { indices = e.indices; pieces_left = e.pieces; afterwards = motions_after left e.indices }

-- a motion of a setting with k motions after it
abbrev begun_at : Setting → MotionLine → ℕ → BegunMotion
begun_at s m k = record { indices = index_at s m.index; pieces_left = m.pieces; afterwards = Parted s k }

abbrev pub line_of : Setting → MotionLine → EntryLine
line_of s m = record { indices = index_at s m.index; pieces = m.pieces }

-- the rest is this motion, with the following pieces
abbrev pub with_begun : Indices → Rest → Rest
with_begun i r = with_items (record { indices = i; pieces = r.pieces } ∷ []) r

begun_first : (i : Indices) (pieces : List Piece) (t : ParsedPart Rest)
    → parsed_with (with_items (record { indices = i; pieces = pieces } ∷ [])) t ≡ parsed_with (with_begun i) (parsed_with (with_pieces pieces) t)
begun_first i pieces (Ok r) = refl
begun_first i pieces (Err fault) = refl

motion_begun : (s : Setting) (k : ℕ) (m : MotionLine) (t : ParsedPart (List Piece))
    → then_read (then_read (then_read t (λ pieces r. Ok (record { index = m.index; pieces = pieces }, r)))
    (λ x q. then_read (several entry_at k q) (λ xs r. Ok (x ∷ xs, r)))) (λ more q. parsed_with (with_motions s more) (afterwards s q))
    ≡ parsed_with (with_begun (index_at s m.index)) (then_read t (λ pieces q. parsed_with (with_pieces pieces) (motions_ahead (Parted s k) q)))
unfolding motions_ahead
motion_begun s k m (Ok r) =
    motion_first s (record { index = m.index; pieces = r.0 }) (several entry_at k r.1)
    ∙ begun_first (index_at s m.index) r.0 (then_read (several entry_at k r.1) (λ more q. parsed_with (with_motions s more) (afterwards s q)))
motion_begun s k m (Err fault) = refl

abbrev more_of : Setting → ℕ → ParsedPart MotionLine → ParsedPart Rest
more_of s k r =
    then_read (then_read
    (then_read r (λ m q. then_read (several (line_at parsed_piece) m.pieces q) (λ pieces r. Ok (record { index = m.index; pieces = pieces }, r))))
    (λ x q. then_read (several entry_at k q) (λ xs r. Ok (x ∷ xs, r)))) (λ more q. parsed_with (with_motions s more) (afterwards s q))

motions_are : (s : Setting) (k : ℕ) (p : Place) → motions_ahead (Parted s (suc k)) p ≡ more_of s k (line_at parsed_motion p)
unfolding motions_ahead several entry_at
motions_are s k p = refl

begun_is : (s : Setting) (k : ℕ) (m : MotionLine) (q : Place)
    → more_of s k (Ok (m, q)) ≡ parsed_with (with_begun (index_at s m.index)) (pieces_ahead (begun_at s m k) q)
unfolding pieces_ahead
begun_is s k m q = motion_begun s k m (several (line_at parsed_piece) m.pieces q)

parted_on : (s : Setting) (k number : ℕ) (m : MotionLine) (line after : List ℕ) (left : List (List ℕ)) → length line ≤ 256 → parsed_motion line ≡ Ok m
    → motions_ahead (Parted s (suc k)) (at number (line ∷ after ∷ left))
    ≡ parsed_with (with_begun (index_at s m.index)) (pieces_ahead (begun_at s m k) (at (next_number number) (after ∷ left)))
parted_on s k number m line after left short e =
    motions_are s k (at number (line ∷ after ∷ left)) ∙ ap (more_of s k) (line_read parsed_motion number line after left m short e)
    ∙ begun_is s k m (at (next_number number) (after ∷ left))

parted_stops : (s : Setting) (k : ℕ) (p : Place) (fault : CertificateFault) → line_at parsed_motion p ≡ Err fault → motions_ahead (Parted s (suc k)) p ≡ Err fault
parted_stops s k p fault e = motions_are s k p ∙ ap (more_of s k) e

-- ---- the line of an entry

-- the entries after one
entries_then : ℕ → RemainingEntries → Item → Place → ParsedPart Rest
entries_then k left x q = then_read (then_read (items_at k left q) (λ xs r. Ok (x ∷ xs, r))) (λ more q. parsed_with (with_items more) (end_ahead q))

item_first : (x : Item) (t : ParsedPart (List Item))
    → then_read (then_read t (λ xs r. Ok (x ∷ xs, r))) (λ more q. parsed_with (with_items more) (end_ahead q))
    ≡ parsed_with (with_items (x ∷ [])) (then_read t (λ more q. parsed_with (with_items more) (end_ahead q)))
item_first x (Ok r) = sym (with_both (with_items (x ∷ [])) (with_items r.0) (end_ahead r.1))
item_first x (Err fault) = refl

entries_first : (k : ℕ) (left : RemainingEntries) (x : Item) (q : Place) → total left ≤ k →
    entries_then k left x q ≡ parsed_with (with_items (x ∷ [])) (motions_ahead (Joined left) q)
unfolding entries_then motions_ahead
entries_first k left x q h =
    item_first x (items_at k left q)
    ∙ ap (λ (t : ParsedPart (List Item)). parsed_with (with_items (x ∷ [])) (then_read t (λ more q. parsed_with (with_items more) (end_ahead q))))
    (items_enough k left q h)

-- the pieces of an entry, and the entries after it
pieces_then : ℕ → RemainingEntries → EntryLine → ParsedPart (List Piece) → ParsedPart Rest
pieces_then k left e t =
    then_read (then_read (then_read t (λ pieces r. Ok (record { indices = e.indices; pieces = pieces }, r)))
    (λ x q. then_read (items_at k (remaining_after left x.indices) q) (λ xs r. Ok (x ∷ xs, r))))
    (λ more q. parsed_with (with_items more) (end_ahead q))

entry_begun : (k : ℕ) (left : RemainingEntries) (e : EntryLine) (t : ParsedPart (List Piece)) → total (remaining_after left e.indices) ≤ k
    → pieces_then k left e t ≡ parsed_with (with_begun e.indices)
    (then_read t (λ pieces q. parsed_with (with_pieces pieces) (motions_ahead (Joined (remaining_after left e.indices)) q)))
unfolding pieces_then entries_then
entry_begun k left e (Ok r) h =
    entries_first k (remaining_after left e.indices) (record { indices = e.indices; pieces = r.0 }) r.1 h
    ∙ begun_first e.indices r.0 (motions_ahead (Joined (remaining_after left e.indices)) r.1)
entry_begun k left e (Err fault) h = refl

-- an entry's line, and what follows it
entry_then : ℕ → RemainingEntries → ParsedPart EntryLine → ParsedPart Rest
entry_then k left t =
    then_read (then_read
    (then_read t (λ e q. then_read (several (line_at parsed_piece) e.pieces q) (λ pieces r. Ok (record { indices = e.indices; pieces = pieces }, r))))
    (λ x q. then_read (items_at k (remaining_after left x.indices) q) (λ xs r. Ok (x ∷ xs, r)))) (λ more q. parsed_with (with_items more) (end_ahead q))

entries_are : (k : ℕ) (left : RemainingEntries) (p : Place) → total left ≡ suc k → motions_ahead (Joined left) p ≡ entry_then k left (line_at (parsed_entry left) p)
unfolding motions_ahead entry_then item_at
entries_are k left p h =
    ap (λ (n : ℕ). then_read (items_at n left p) (λ more q. parsed_with (with_items more) (end_ahead q))) h
    ∙ ap (λ (t : ParsedPart (List Item)). then_read t (λ more q. parsed_with (with_items more) (end_ahead q))) (items_more k left p h)

entry_on_is : (k : ℕ) (left : RemainingEntries) (e : EntryLine) (q : Place) → total (remaining_after left e.indices) ≤ k
    → entry_then k left (Ok (e, q)) ≡ parsed_with (with_begun e.indices) (pieces_ahead (begun (Joined left) e) q)
unfolding entry_then pieces_ahead pieces_then
entry_on_is k left e q h = entry_begun k left e (several (line_at parsed_piece) e.pieces q) h

entry_stop_is : (k : ℕ) (left : RemainingEntries) (fault : CertificateFault) → entry_then k left (Err fault) ≡ Err fault
unfolding entry_then
entry_stop_is k left fault = refl

joined_on : (left : RemainingEntries) (k number : ℕ) (e : EntryLine) (line after : List ℕ) (lines : List (List ℕ)) → total left ≡ suc k → length line ≤ 256 →
    parsed_entry left line ≡ Ok e
    → motions_ahead (Joined left) (at number (line ∷ after ∷ lines))
    ≡ parsed_with (with_begun e.indices) (pieces_ahead (begun (Joined left) e) (at (next_number number) (after ∷ lines)))
joined_on left k number e line after lines some short h =
    let one = takes_one left line e h in
    entries_are k left (at number (line ∷ after ∷ lines)) some ∙ ap (entry_then k left) (line_read (parsed_entry left) number line after lines e short h)
    ∙ entry_on_is k left e (at (next_number number) (after ∷ lines)) (omega (arith, one, some))

joined_stops : (left : RemainingEntries) (k : ℕ) (p : Place) (fault : CertificateFault) → total left ≡ suc k → line_at (parsed_entry left) p ≡ Err fault →
    motions_ahead (Joined left) p ≡ Err fault
joined_stops left k p fault some e = entries_are k left p some ∙ ap (entry_then k left) e ∙ entry_stop_is k left fault

-- ---- the line of a motion of either version

pub of_parted : (s : Setting) (r : Result MotionLine LineFlaw) (e : EntryLine) → of_setting (index_at s) r ≡ Ok e →
    (m : MotionLine) × (r ≡ Ok m) × (line_of s m ≡ e)
of_parted s (Ok m) e h = (m, refl, cc h)
of_parted s (Err flaw) e h = absurd (cc h)

of_flaw : (s : Setting) (r : Result MotionLine LineFlaw) (flaw : LineFlaw) → of_setting (index_at s) r ≡ Err flaw → r ≡ Err flaw
of_flaw s (Ok m) flaw h = absurd (cc h)
of_flaw s (Err other) flaw h = let same : other ≡ flaw = cc h in ap (λ (l : LineFlaw). flawed l) same where
  flawed : LineFlaw → Result MotionLine LineFlaw
  flawed l = Err l

motion_on : (left : RemainingMotions) (number : ℕ) (e : EntryLine) (line after : List ℕ) (lines : List (List ℕ)) → HaveSome left → length line ≤ 256 →
    parsed_motion_or_entry left line ≡ Ok e
    → motions_ahead left (at number (line ∷ after ∷ lines)) ≡ parsed_with (with_begun e.indices)
    (pieces_ahead (begun left e) (at (next_number number) (after ∷ lines)))
motion_on (Parted s zero) number e line after lines some short h = absurd (omega (arith, some))
motion_on (Parted s (suc k)) number e line after lines some short h =
    let r = of_parted s (parsed_motion line) e h in
    let P : EntryLine → Type 0 = λ x. motions_ahead (Parted s (suc k)) (at number (line ∷ after ∷ lines))
    ≡ parsed_with (with_begun x.indices) (pieces_ahead (begun (Parted s (suc k)) x) (at (next_number number) (after ∷ lines))) in
    let Q : ℕ → Type 0 = λ n. motions_ahead (Parted s (suc k)) (at number (line ∷ after ∷ lines))
    ≡ parsed_with (with_begun (index_at s r.0.index)) (pieces_ahead (begun_at s r.0 n) (at (next_number number) (after ∷ lines))) in
    let one : k ≡ suc k - 1 = omega arith in
    subst P r.2 (subst Q one (parted_on s k number r.0 line after lines short r.1))
motion_on (Joined left) number e line after lines some short h = joined_on left (total left - 1) number e line after lines (omega (arith, some)) short h

-- no motion's line has any content
abbrev MotionMissing : RemainingMotions → Place → CertificateFault → Type 0
MotionMissing (Parted s n) p fault = line_at parsed_motion p ≡ Err fault
MotionMissing (Joined left) p fault = line_at (parsed_entry left) p ≡ Err fault

motions_stop : (left : RemainingMotions) (p : Place) (fault : CertificateFault) → HaveSome left → MotionMissing left p fault → motions_ahead left p ≡ Err fault
motions_stop (Parted s zero) p fault some e = absurd (omega (arith, some))
motions_stop (Parted s (suc k)) p fault some e = parted_stops s k p fault e
motions_stop (Joined left) p fault some e = joined_stops left (total left - 1) p fault (omega (arith, some)) e

motion_missing : (left : RemainingMotions) (number : ℕ) (lines : List (List ℕ)) → HasNoLine lines → MotionMissing left (at number lines) (faults.BadLine number)
motion_missing (Parted s n) number lines h = line_missing parsed_motion number lines h
motion_missing (Joined left) number lines h = line_missing (parsed_entry left) number lines h

motion_wrong : (left : RemainingMotions) (number : ℕ) (line after : List ℕ) (lines : List (List ℕ)) (flaw : LineFlaw) → length line ≤ 256 →
    parsed_motion_or_entry left line ≡ Err flaw
    → MotionMissing left (at number (line ∷ after ∷ lines)) (fault_at number flaw)
motion_wrong (Parted s n) number line after lines flaw short e =
    line_flawed parsed_motion number line after lines flaw short (of_flaw s (parsed_motion line) flaw e)
motion_wrong (Joined left) number line after lines flaw short e = line_flawed (parsed_entry left) number line after lines flaw short e

-- ---- the counts

counts_then : ParsedPart CountsLine → ParsedPart Rest
counts_then t = then_read t (λ c q. motions_ahead (Joined (all_left c)) q)

counts_are : (p : Place) → counts_ahead p ≡ counts_then (line_at parsed_counts p)
unfolding counts_ahead counts_then
counts_are p = refl

counts_on_is : (c : CountsLine) (q : Place) → counts_then (Ok (c, q)) ≡ motions_ahead (Joined (all_left c)) q
unfolding counts_then
counts_on_is c q = refl

counts_stop_is : (fault : CertificateFault) → counts_then (Err fault) ≡ Err fault
unfolding counts_then
counts_stop_is fault = refl

counts_on : (number : ℕ) (c : CountsLine) (line after : List ℕ) (left : List (List ℕ)) → length line ≤ 256 → parsed_counts line ≡ Ok c
    → counts_ahead (at number (line ∷ after ∷ left)) ≡ motions_ahead (Joined (all_left c)) (at (next_number number) (after ∷ left))
counts_on number c line after left short e =
    counts_are (at number (line ∷ after ∷ left)) ∙ ap counts_then (line_read parsed_counts number line after left c short e)
    ∙ counts_on_is c (at (next_number number) (after ∷ left))

counts_stop : (p : Place) (fault : CertificateFault) → line_at parsed_counts p ≡ Err fault → counts_ahead p ≡ Err fault
counts_stop p fault e = counts_are p ∙ ap counts_then e ∙ counts_stop_is fault

-- ---- the line of a piece

-- the rest is this piece, and what follows
abbrev pub with_piece : Piece → Rest → Rest
with_piece x r = with_pieces (x ∷ r.pieces) r

piece_first : (b : BegunMotion) (x : Piece) (t : ParsedPart (List Piece))
    → then_read (then_read t (λ xs r. Ok (x ∷ xs, r))) (λ pieces q. parsed_with (with_pieces pieces) (motions_ahead b.afterwards q))
    ≡ parsed_with (with_piece x) (then_read t (λ pieces q. parsed_with (with_pieces pieces) (motions_ahead b.afterwards q)))
piece_first b x (Ok r) = sym (with_both (with_piece x) (with_pieces r.0) (motions_ahead b.afterwards r.1))
piece_first b x (Err fault) = refl

abbrev pieces_of : BegunMotion → ℕ → ParsedPart Piece → ParsedPart Rest
pieces_of b k r =
    then_read (then_read r (λ x q. then_read (several (line_at parsed_piece) k q) (λ xs r. Ok (x ∷ xs, r))))
    (λ pieces q. parsed_with (with_pieces pieces) (motions_ahead b.afterwards q))

several_more : (k : ℕ) (p : Place) → several (line_at parsed_piece) (suc k) p
    ≡ then_read (line_at parsed_piece p) (λ x q. then_read (several (line_at parsed_piece) k q) (λ xs r. Ok (x ∷ xs, r)))
unfolding several
several_more k p = refl

pieces_are : (b : BegunMotion) (k : ℕ) (p : Place) → b.pieces_left ≡ suc k → pieces_ahead b p ≡ pieces_of b k (line_at parsed_piece p)
unfolding pieces_ahead
pieces_are b k p e =
    ap (λ (n : ℕ). then_read (several (line_at parsed_piece) n p) (λ pieces q. parsed_with (with_pieces pieces) (motions_ahead b.afterwards q))) e
    ∙ ap (λ (s : ParsedPart (List Piece)). then_read s (λ pieces q. parsed_with (with_pieces pieces) (motions_ahead b.afterwards q))) (several_more k p)

more_is : (b : BegunMotion) (k : ℕ) (x : Piece) (q : Place) → pieces_of b k (Ok (x, q))
    ≡ parsed_with (with_piece x) (pieces_ahead (record b { pieces_left = k }) q)
unfolding pieces_ahead
more_is b k x q = piece_first b x (several (line_at parsed_piece) k q)

piece_on : (b : BegunMotion) (k number : ℕ) (x : Piece) (line after : List ℕ) (left : List (List ℕ)) → b.pieces_left ≡ suc k → length line ≤ 256 →
    parsed_piece line ≡ Ok x
    → pieces_ahead b (at number (line ∷ after ∷ left)) ≡ parsed_with (with_piece x)
    (pieces_ahead (record b { pieces_left = k }) (at (next_number number) (after ∷ left)))
piece_on b k number x line after left some short e =
    pieces_are b k (at number (line ∷ after ∷ left)) some ∙ ap (pieces_of b k) (line_read parsed_piece number line after left x short e)
    ∙ more_is b k x (at (next_number number) (after ∷ left))

pieces_stop : (b : BegunMotion) (k : ℕ) (p : Place) (fault : CertificateFault) → b.pieces_left ≡ suc k → line_at parsed_piece p ≡ Err fault →
    pieces_ahead b p ≡ Err fault
pieces_stop b k p fault some e = pieces_are b k p some ∙ ap (pieces_of b k) e

-- ---- what is read completely

none_begun : (more : List Item) (t : ParsedPart Rest) → parsed_with (with_pieces []) (parsed_with (with_items more) t) ≡ parsed_with (with_items more) t
none_begun more (Ok r) = refl
none_begun more (Err fault) = refl

no_pieces : (left : RemainingMotions) (p : Place) → parsed_with (with_pieces []) (motions_ahead left p) ≡ motions_ahead left p
unfolding motions_ahead
no_pieces (Parted s n) p = by_several (several entry_at n p) where
  by_several : (t : ParsedPart (List Entry)) → parsed_with (with_pieces []) (then_read t (λ more q. parsed_with (with_motions s more) (afterwards s q)))
      ≡ then_read t (λ more q. parsed_with (with_motions s more) (afterwards s q))
  by_several (Ok r) = none_begun (map (item_of s) r.0) (afterwards s r.1)
  by_several (Err fault) = refl
no_pieces (Joined left) p = by_items (items_at (left.off + left.on) left p) where
  by_items : (t : ParsedPart (List Item)) → parsed_with (with_pieces []) (then_read t (λ more q. parsed_with (with_items more) (end_ahead q)))
      ≡ then_read t (λ more q. parsed_with (with_items more) (end_ahead q))
  by_items (Ok r) = none_begun r.0 (end_ahead r.1)
  by_items (Err fault) = refl

pieces_done : (b : BegunMotion) (p : Place) → b.pieces_left ≡ 0 → pieces_ahead b p ≡ motions_ahead b.afterwards p
unfolding pieces_ahead several
pieces_done b p e =
    ap (λ (n : ℕ). then_read (several (line_at parsed_piece) n p) (λ pieces q. parsed_with (with_pieces pieces) (motions_ahead b.afterwards q))) e
    ∙ no_pieces b.afterwards p

no_motions : (more : List Item) (t : ParsedPart Rest) → parsed_with (with_items []) (parsed_with (with_items more) t) ≡ parsed_with (with_items more) t
no_motions more (Ok r) = refl
no_motions more (Err fault) = refl

none_at_end : (t : ParsedPart (Unit {0})) → parsed_with (with_items []) (then_read t (λ _ q. Ok (nothing_left, q))) ≡ then_read t (λ _ q. Ok (nothing_left, q))
none_at_end (Ok r) = refl
none_at_end (Err fault) = refl

parted_done : (s : Setting) (p : Place) → motions_ahead (Parted s 0) p ≡ afterwards s p
unfolding motions_ahead several afterwards end_ahead
parted_done Off p = by_setting (setting_at (codes "on") p) where
  by_setting : (t : ParsedPart (List Entry)) →
      parsed_with (with_motions Off []) (then_read t (λ more q. parsed_with (with_motions On more) (then_read (line_at parsed_end q) (λ _ q. Ok (nothing_left, q)))))
      ≡ then_read t (λ more q. parsed_with (with_motions On more) (then_read (line_at parsed_end q) (λ _ q. Ok (nothing_left, q))))
  by_setting (Ok r) = no_motions (map (item_of On) r.0) (then_read (line_at parsed_end r.1) (λ _ q. Ok (nothing_left, q)))
  by_setting (Err fault) = refl
parted_done On p = none_at_end (line_at parsed_end p)

joined_done : (left : RemainingEntries) (p : Place) → none_left left ≡ true → motions_ahead (Joined left) p ≡ end_ahead p
unfolding motions_ahead end_ahead
joined_done left p none =
    ap (λ (t : ParsedPart (List Item)). then_read t (λ more q. parsed_with (with_items more) (then_read (line_at parsed_end q) (λ _ q. Ok (nothing_left, q)))))
    (items_none (left.off + left.on) left p none)
    ∙ none_at_end (line_at parsed_end p)

entries_ahead : (b : Bool) (left : RemainingEntries) (p : Place) → none_left left ≡ b → ahead (next_of_entries b left) p ≡ motions_ahead (Joined left) p
unfolding ahead
entries_ahead true left p e = sym (joined_done left p e)
entries_ahead false left p e = refl

next_ahead : (left : RemainingMotions) (p : Place) → ahead (next_of_motions left) p ≡ motions_ahead left p
unfolding ahead setting_ahead afterwards
next_ahead (Parted Off zero) p = sym (parted_done Off p)
next_ahead (Parted On zero) p = sym (parted_done On p)
next_ahead (Parted s (suc n)) p = refl
next_ahead (Joined left) p = entries_ahead (none_left left) left p refl

end_on : (number : ℕ) (line after : List ℕ) (left : List (List ℕ)) → length line ≤ 256 → parsed_end line ≡ Ok tt
    → end_ahead (at number (line ∷ after ∷ left)) ≡ Ok (nothing_left, at (next_number number) (after ∷ left))
unfolding end_ahead
end_on number line after left short e =
    ap (λ (r : ParsedPart (Unit {0})). then_read r (λ _ q. Ok (nothing_left, q))) (line_read parsed_end number line after left tt short e)

end_stops : (p : Place) (fault : CertificateFault) → line_at parsed_end p ≡ Err fault → end_ahead p ≡ Err fault
unfolding end_ahead
end_stops p fault e = ap (λ (r : ParsedPart (Unit {0})). then_read r (λ _ q. Ok (nothing_left, q))) e

-- ---- a line that is missing or too long

long_bytes : (line text : List ℕ) (b : Bool) → 256 < length line → length text ≤ 256 → bytes_eq line text ≡ b → b ≡ false
long_bytes line text false h k e = refl
long_bytes line text true h k e = let same = ap length (bytes_same line text e) in absurd (omega (arith, h, k, same))

long_version : (line : List ℕ) → 256 < length line → parsed_version line ≡ Err Spelling
unfolding parsed_version
long_version line h =
    let one = long_bytes line (codes "ngc-certificate 1") (bytes_eq line (codes "ngc-certificate 1")) h (omega arith) refl in
    let two = long_bytes line (codes "ngc-certificate 2") (bytes_eq line (codes "ngc-certificate 2")) h (omega arith) refl in
    rw (one, two) refl

no_header : (lines : List (List ℕ)) → HasNoLine lines → header_in lines ≡ Err faults.WrongHeader
no_header [] h = refl
no_header (last ∷ []) h = refl
no_header (line ∷ after ∷ left) h = ap (λ (r : Result Version LineFlaw). version_is r (after ∷ left)) (long_version line h)

pub two_left : (x y : List ℕ) (xs : List (List ℕ)) → nothing_in (x ∷ y ∷ xs) ≡ false
two_left [] y xs = refl
two_left (b ∷ x) y xs = refl

pub one_left : (x : List ℕ) → 0 < length x → nothing_in (x ∷ []) ≡ false
one_left [] h = absurd (omega (arith, h))
one_left (b ∷ x) h = refl

-- the next line has no line feed, or is too long, or is after the end
pub wrong_said : (e : Expected) (number : ℕ) (lines : List (List ℕ)) → IsSound e number → HasNoLine lines
    → (e ≡ next.Nothing → nothing_in lines ≡ false) → left_from e number lines ≡ Err (wrong_line e number)
unfolding ahead
wrong_said next.Header number lines sound h never =
    ap (λ (r : ParsedPart Version). ended (then_read r (λ v q. parsed_with (of_version v) (after_header v q)))) (no_header lines h)
wrong_said (next.Setting s) number lines sound h never =
    ap ended (setting_stops s (at number lines) (faults.BadLine number) (line_missing (parsed_setting (name_of s)) number lines h))
wrong_said next.Counts number lines sound h never = ap ended (counts_stop (at number lines) (faults.BadLine number) (line_missing parsed_counts number lines h))
wrong_said (next.Motion m) number lines sound h never =
    ap ended (motions_stop m (at number lines) (faults.BadLine number) (sound.motion m refl) (motion_missing m number lines h))
wrong_said (next.Piece b) number lines sound h never =
    let some = sound.piece b refl in
    ap ended (pieces_stop b (b.pieces_left - 1) (at number lines) (faults.BadLine number) (omega (arith, some)) (line_missing parsed_piece number lines h))
wrong_said next.End number lines sound h never = ap ended (end_stops (at number lines) (faults.BadLine number) (line_missing parsed_end number lines h))
wrong_said next.Nothing number lines sound h never = rw (never refl) refl

-- ---- no line may be next

closed_line_in : (entries : RemainingEntries) (number : ℕ) (lines : List (List ℕ)) → go_on (Joined entries) ≡ false →
    MotionMissing (Joined entries) (at number lines) (faults.BadLine number)
closed_line_in entries number [] h = motion_missing (Joined entries) number [] tt
closed_line_in entries number (last ∷ []) h = motion_missing (Joined entries) number (last ∷ []) tt
closed_line_in entries number (line ∷ after ∷ left) h = by_length (nat_le (length line) 256) refl where
  by_length : (short : Bool) → nat_le (length line) 256 ≡ short →
      MotionMissing (Joined entries) (at number (line ∷ after ∷ left)) (faults.BadLine number)
  by_length true e =
      motion_wrong (Joined entries) number line after left Spelling (grind (arith, nat_tests, e)) (closed_line entries line (closed_left entries h))
  by_length false e = motion_missing (Joined entries) number (line ∷ after ∷ left) (grind (arith, nat_tests, e))

closed_motions : (m : RemainingMotions) (number : ℕ) (lines : List (List ℕ)) → go_on m ≡ false → motions_ahead m (at number lines) ≡ Err (faults.BadLine number)
closed_motions (Parted s n) number lines h = absurd (cc h)
closed_motions (Joined entries) number lines h =
    motions_stop (Joined entries) (at number lines) (faults.BadLine number) (closed_some entries (closed_left entries h))
    (closed_line_in entries number lines h)

-- whatever follows, the next line is wrong
pub closed_said : (e : Expected) (number : ℕ) (lines : List (List ℕ)) → is_open e ≡ false → left_from e number lines ≡ Err (wrong_line e number)
unfolding ahead
closed_said next.Header number lines h = absurd (cc h)
closed_said (next.Setting s) number lines h = absurd (cc h)
closed_said next.Counts number lines h = absurd (cc h)
closed_said (next.Motion m) number lines h = ap ended (closed_motions m number lines h)
closed_said (next.Piece b) number lines h = absurd (cc h)
closed_said next.End number lines h = absurd (cc h)
closed_said next.Nothing number lines h = absurd (cc h)

-- ---- a line that is flawed

module _ (number : ℕ) (line after : List ℕ) (left : List (List ℕ)) (flaw : LineFlaw) (short : length line ≤ 256) where
  pub setting_flawed : (s : Setting) → parsed_setting (name_of s) line ≡ Err flaw →
      left_from (next.Setting s) number (line ∷ after ∷ left) ≡ Err (fault_at number flaw)
  unfolding ahead
  setting_flawed s e =
      ap ended (setting_stops s (at number (line ∷ after ∷ left)) (fault_at number flaw)
      (line_flawed (parsed_setting (name_of s)) number line after left flaw short e))

  pub counts_flawed : parsed_counts line ≡ Err flaw → left_from next.Counts number (line ∷ after ∷ left) ≡ Err (fault_at number flaw)
  unfolding ahead
  counts_flawed e =
      ap ended (counts_stop (at number (line ∷ after ∷ left)) (fault_at number flaw) (line_flawed parsed_counts number line after left flaw short e))

  pub motion_flawed : (m : RemainingMotions) → HaveSome m → parsed_motion_or_entry m line ≡ Err flaw →
      left_from (next.Motion m) number (line ∷ after ∷ left) ≡ Err (fault_at number flaw)
  unfolding ahead
  motion_flawed m some e =
      ap ended (motions_stop m (at number (line ∷ after ∷ left)) (fault_at number flaw) some (motion_wrong m number line after left flaw short e))

  pub piece_flawed : (b : BegunMotion) → 1 ≤ b.pieces_left → parsed_piece line ≡ Err flaw →
      left_from (next.Piece b) number (line ∷ after ∷ left) ≡ Err (fault_at number flaw)
  unfolding ahead
  piece_flawed b some e =
      ap ended (pieces_stop b (b.pieces_left - 1) (at number (line ∷ after ∷ left)) (fault_at number flaw) (omega (arith, some))
      (line_flawed parsed_piece number line after left flaw short e))

  pub end_flawed : parsed_end line ≡ Err flaw → left_from next.End number (line ∷ after ∷ left) ≡ Err (fault_at number flaw)
  unfolding ahead
  end_flawed e = ap ended (end_stops (at number (line ∷ after ∷ left)) (fault_at number flaw) (line_flawed parsed_end number line after left flaw short e))

-- ---- a correct line

by_nothing : {X Y : Type 0} (f : X → Y) (x : X) (number : ℕ) (b : Bool) →
    (if b then Ok (f x) else Err (faults.BadLine number)) ≡ made_with f (if b then Ok x else Err (faults.BadLine number))
by_nothing f x number true = refl
by_nothing f x number false = refl

pub ended_with : {X Y : Type 0} (f : X → Y) (t : ParsedPart X) → ended (parsed_with f t) ≡ made_with f (ended t)
ended_with f (Ok r) = by_nothing f r.0 r.1.number (nothing_in r.1.left)
ended_with f (Err fault) = refl

module _ (line after : List ℕ) (left : List (List ℕ)) where
  pub header_read : (number : ℕ) (v : Version) → parsed_version line ≡ Ok v
      → left_from next.Header number (line ∷ after ∷ left) ≡ made_with (of_version v) (ended (after_header v (at 2 (after ∷ left))))
  unfolding ahead
  header_read number v e =
      ap (λ (r : Result Version LineFlaw). ended (then_read (version_is r (after ∷ left)) (λ v q. parsed_with (of_version v) (after_header v q)))) e
      ∙ ended_with (of_version v) (after_header v (at 2 (after ∷ left)))

  pub header_wrong : (number : ℕ) (flaw : LineFlaw) → parsed_version line ≡ Err flaw → left_from next.Header number (line ∷ after ∷ left) ≡ Err faults.WrongHeader
  unfolding ahead
  header_wrong number flaw e =
      ap (λ (r : Result Version LineFlaw). ended (then_read (version_is r (after ∷ left)) (λ v q. parsed_with (of_version v) (after_header v q)))) e

  pub setting_read : (number : ℕ) (s : Setting) (n : ℕ) → length line ≤ 256 → parsed_setting (name_of s) line ≡ Ok n
      → left_from (next.Setting s) number (line ∷ after ∷ left) ≡ left_from (next_of_motions (Parted s n)) (next_number number) (after ∷ left)
  unfolding ahead
  setting_read number s n short e =
      ap ended (setting_on s number n line after left short e) ∙ ap ended (sym (next_ahead (Parted s n) (at (next_number number) (after ∷ left))))

  pub counts_read : (number : ℕ) (c : CountsLine) → length line ≤ 256 → parsed_counts line ≡ Ok c
      → left_from next.Counts number (line ∷ after ∷ left) ≡ left_from (next_of_motions (Joined (all_left c))) (next_number number) (after ∷ left)
  unfolding ahead
  counts_read number c short e =
      ap ended (counts_on number c line after left short e) ∙ ap ended (sym (next_ahead (Joined (all_left c)) (at (next_number number) (after ∷ left))))

  pub motion_read : (number : ℕ) (m : RemainingMotions) (e : EntryLine) → HaveSome m → length line ≤ 256 → parsed_motion_or_entry m line ≡ Ok e
      → left_from (next.Motion m) number (line ∷ after ∷ left) ≡ made_with (with_begun e.indices)
      (left_from (next.Piece (begun m e)) (next_number number) (after ∷ left))
  unfolding ahead
  motion_read number m e some short h =
      ap ended (motion_on m number e line after left some short h)
      ∙ ended_with (with_begun e.indices) (pieces_ahead (begun m e) (at (next_number number) (after ∷ left)))

  pub piece_read : (number : ℕ) (b : BegunMotion) (x : Piece) → 1 ≤ b.pieces_left → length line ≤ 256 → parsed_piece line ≡ Ok x
      → left_from (next.Piece b) number (line ∷ after ∷ left) ≡ made_with (with_piece x)
      (left_from (next.Piece (record b { pieces_left = b.pieces_left - 1 })) (next_number number) (after ∷ left))
  unfolding ahead
  piece_read number b x some short e =
      ap ended (piece_on b (b.pieces_left - 1) number x line after left (omega (arith, some)) short e)
      ∙ ended_with (with_piece x) (pieces_ahead (record b { pieces_left = b.pieces_left - 1 }) (at (next_number number) (after ∷ left)))

  -- a motion without remaining pieces has ended
  pub last_read : (number : ℕ) (b : BegunMotion) → b.pieces_left ≡ 0 → left_from (next.Piece b) number left ≡ left_from (next_of_motions b.afterwards) number left
  unfolding ahead
  last_read number b none = ap ended (pieces_done b (at number left) none) ∙ ap ended (sym (next_ahead b.afterwards (at number left)))

  pub end_read : (number : ℕ) → length line ≤ 256 → parsed_end line ≡ Ok tt →
      left_from next.End number (line ∷ after ∷ left) ≡ left_from next.Nothing (next_number number) (after ∷ left)
  unfolding ahead
  end_read number short e = ap ended (end_on number line after left short e)

-- what follows the first line
pub header_ended : (v : Version) (number : ℕ) (lines : List (List ℕ)) → ended (after_header v (at number lines)) ≡ left_from (after_version v) number lines
unfolding ahead after_header
header_ended One number lines = refl
header_ended Two number lines = refl

-- ---- after the end

pub nothing_said : (e : Expected) (number : ℕ) (lines : List (List ℕ)) → e ≡ next.Nothing → nothing_in lines ≡ false
    → left_from e number lines ≡ Err (wrong_line e number)
unfolding ahead
nothing_said e number lines h more =
    let is : left_from next.Nothing number lines ≡ Err (faults.BadLine number) = rw more refl in
    ap (λ (x : Expected). left_from x number lines) h ∙ is ∙ ap (λ (x : Expected). bad (wrong_line x number)) (sym h) where
      bad : CertificateFault → Left
      bad fault = Err fault

pub ended_said : (e : Expected) (number : ℕ) → e ≡ next.Nothing → left_from e number ([] ∷ []) ≡ Ok nothing_left
unfolding ahead
ended_said e number h = ap (λ (x : Expected). left_from x number ([] ∷ [])) h

-- ---- the rest

several_length : {X : Type 0} (said : Place → ParsedPart X) (n : ℕ) (p : Place) → IfOk (several said n p) (λ y. length y.0 ≡ n)
unfolding several
several_length said zero p = refl
several_length {X} said (suc n) p = by_first (said p) (λ q. several_length said n q) where
  by_more : (x : X) (t : ParsedPart (List X)) → IfOk t (λ y. length y.0 ≡ n) → IfOk (then_read t (λ xs r. Ok (x ∷ xs, r))) (λ y. length y.0 ≡ suc n)
  by_more x (Ok r) h = ap suc h
  by_more x (Err fault) h = tt

  by_first : (t : ParsedPart X) → ((q : Place) → IfOk (several said n q) (λ y. length y.0 ≡ n)) →
      IfOk (then_read t (λ x q. then_read (several said n q) (λ xs r. Ok (x ∷ xs, r)))) (λ y. length y.0 ≡ suc n)
  by_first (Ok r) h = by_more r.0 (several said n r.1) (h r.1)
  by_first (Err fault) h = tt

if_ended : (P : Rest → Type 0) (t : ParsedPart Rest) → IfOk t (λ y. P y.0) → IfOk (ended t) P
if_ended P (Err fault) h = tt
if_ended P (Ok r) h = by_end (nothing_in r.1.left) where
  by_end : (b : Bool) → IfOk (if b then Ok r.0 else Err (faults.BadLine r.1.number)) P
  by_end true = h
  by_end false = tt

pieces_fit : (b : BegunMotion) (p : Place) → IfOk (pieces_ahead b p) (λ y. length y.0.pieces ≡ b.pieces_left)
unfolding pieces_ahead
pieces_fit b p = by_several (several (line_at parsed_piece) b.pieces_left p) (several_length (line_at parsed_piece) b.pieces_left p) where
  by_rest : (pieces : List Piece) (t : ParsedPart Rest) → length pieces ≡ b.pieces_left →
      IfOk (parsed_with (with_pieces pieces) t) (λ y. length y.0.pieces ≡ b.pieces_left)
  by_rest pieces (Ok r) h = h
  by_rest pieces (Err fault) h = tt

  by_several : (t : ParsedPart (List Piece)) → IfOk t (λ y. length y.0 ≡ b.pieces_left) →
      IfOk (then_read t (λ pieces q. parsed_with (with_pieces pieces) (motions_ahead b.afterwards q))) (λ y. length y.0.pieces ≡ b.pieces_left)
  by_several (Ok r) h = by_rest r.0 (motions_ahead b.afterwards r.1) h
  by_several (Err fault) h = tt

-- as many pieces remain as the motion's line declared
pub left_fits : (b : BegunMotion) (number : ℕ) (lines : List (List ℕ)) → IfOk (left_from (next.Piece b) number lines) (λ r. length r.pieces ≡ b.pieces_left)
unfolding ahead
left_fits b number lines = if_ended (λ r. length r.pieces ≡ b.pieces_left) (pieces_ahead b (at number lines)) (pieces_fit b (at number lines))

-- after the last line there is nothing
pub left_none : (number : ℕ) (lines : List (List ℕ)) → IfOk (left_from next.Nothing number lines) (λ r. r.items ≡ [])
unfolding ahead
left_none number lines = if_ended (λ r. r.items ≡ []) (Ok (nothing_left, at number lines)) refl

-- ---- the whole text

-- the content of a text of these lines
abbrev pub parsed_in : List (List ℕ) → Result Form CertificateFault
parsed_in lines = ended (then_read (header_in lines) form_at)

form_is : (text : List ℕ) → parsed_form text ≡ parsed_in (lines_of text)
unfolding parsed_form
form_is text = refl

abbrev data_of : List Entry → List Entry → CertificateData
data_of off on = record { off = off; on = on }

on_items : (on : List Entry) → expansion (map (item_of On) on) ≡ data_of [] on
on_items [] = refl
on_items (e ∷ on) = ap (λ (c : CertificateData). data_of c.off (e ∷ c.on)) (on_items on)

-- the motions of both settings as entries
both_items : (off on : List Entry) → expansion (map (item_of Off) off ++ (map (item_of On) on ++ [])) ≡ data_of off on
both_items [] on = ap expansion (append-nil (map (item_of On) on)) ∙ on_items on
both_items (e ∷ off) on = ap (λ (c : CertificateData). data_of (e ∷ c.off) c.on) (both_items off on)

abbrev first_form : ParsedPart Rest → ParsedPart Form
first_form t = parsed_with form_of_text (parsed_with (of_version One) t)

end_is : (off on : List Entry) (t : ParsedPart (Unit {0}))
    → parsed_with PartedForm (then_read t (λ _ s. Ok (data_of off on, s)))
    ≡ first_form (parsed_with (with_motions Off off) (parsed_with (with_motions On on) (then_read t (λ _ q. Ok (nothing_left, q)))))
end_is off on (Ok r) = ap (λ (c : CertificateData). ok_with c r.1) (sym (both_items off on)) where
  ok_with : CertificateData → Place → ParsedPart Form
  ok_with c q = Ok (PartedForm c, q)
end_is off on (Err fault) = refl

on_is : (off : List Entry) (t : ParsedPart (List Entry)) → parsed_with PartedForm (then_read t (λ on r. then_read (line_at parsed_end r) (λ _ s. Ok (data_of off on, s))))
    ≡ first_form (parsed_with (with_motions Off off)
    (then_read t (λ more q. parsed_with (with_motions On more) (then_read (line_at parsed_end q) (λ _ q. Ok (nothing_left, q))))))
on_is off (Ok r) = end_is off r.0 (line_at parsed_end r.1)
on_is off (Err fault) = refl

settings_are : (p : Place) → parsed_with PartedForm (settings_at p) ≡ first_form (setting_ahead Off p)
unfolding settings_at setting_ahead afterwards end_ahead
settings_are p = by_off (setting_at (codes "off") p) where
  by_off : (t : ParsedPart (List Entry)) →
      parsed_with PartedForm
      (then_read t (λ off q. then_read (setting_at (codes "on") q) (λ on r. then_read (line_at parsed_end r) (λ _ s. Ok (data_of off on, s)))))
      ≡ first_form (then_read t
      (λ more q. parsed_with (with_motions Off more)
      (then_read (setting_at (codes "on") q) (λ more q. parsed_with (with_motions On more) (then_read (line_at parsed_end q) (λ _ q. Ok (nothing_left, q)))))))
  by_off (Ok r) = on_is r.0 (setting_at (codes "on") r.1)
  by_off (Err fault) = refl

abbrev second_form : ParsedPart Rest → ParsedPart Form
second_form t = parsed_with form_of_text (parsed_with (of_version Two) t)

joined_end : (items : List Item) (t : ParsedPart (Unit {0}))
    → parsed_with JoinedForm (then_read t (λ _ s. Ok (items, s))) ≡ second_form (parsed_with (with_items items) (then_read t (λ _ q. Ok (nothing_left, q))))
joined_end items (Ok r) = ap (λ (xs : List Item). ok_with xs r.1) (sym (append-nil items)) where
  ok_with : List Item → Place → ParsedPart Form
  ok_with xs q = Ok (JoinedForm xs, q)
joined_end items (Err fault) = refl

joined_items : (t : ParsedPart (List Item)) → parsed_with JoinedForm (then_read t (λ items r. then_read (line_at parsed_end r) (λ _ s. Ok (items, s))))
    ≡ second_form (then_read t (λ more q. parsed_with (with_items more) (then_read (line_at parsed_end q) (λ _ q. Ok (nothing_left, q)))))
joined_items (Ok r) = joined_end r.0 (line_at parsed_end r.1)
joined_items (Err fault) = refl

joined_is : (p : Place) → parsed_with JoinedForm (joined_at p) ≡ second_form (counts_ahead p)
unfolding joined_at counts_ahead motions_ahead end_ahead
joined_is p = by_counts (line_at parsed_counts p) where
  by_counts : (t : ParsedPart CountsLine) →
      parsed_with JoinedForm
      (then_read t (λ c q. then_read (items_at (c.off + c.on) (all_left c) q) (λ items r. then_read (line_at parsed_end r) (λ _ s. Ok (items, s)))))
      ≡ second_form (then_read t
      (λ c q. then_read (items_at (c.off + c.on) (all_left c) q)
      (λ more q. parsed_with (with_items more) (then_read (line_at parsed_end q) (λ _ q. Ok (nothing_left, q))))))
  by_counts (Ok r) = joined_items (items_at (r.0.off + r.0.on) (all_left r.0) r.1)
  by_counts (Err fault) = refl

version_ahead : (v : Version) (p : Place) → form_at v p ≡ parsed_with form_of_text (parsed_with (of_version v) (after_header v p))
unfolding after_header
version_ahead One p = settings_are p
version_ahead Two p = joined_is p

all_ahead : (t : ParsedPart Version) → then_read t form_at ≡ parsed_with form_of_text (then_read t (λ v q. parsed_with (of_version v) (after_header v q)))
all_ahead (Ok r) = version_ahead r.0 r.1
all_ahead (Err fault) = refl

header_ahead : (number : ℕ) (lines : List (List ℕ)) → ahead next.Header (at number lines)
    ≡ then_read (header_in lines) (λ v q. parsed_with (of_version v) (after_header v q))
unfolding ahead
header_ahead number lines = refl

pub begun_form : (number : ℕ) (text : List ℕ) → parsed_form text ≡ made_with form_of_text (left_from next.Header number (lines_of text))
begun_form number text =
    form_is text ∙ ap ended (all_ahead (header_in (lines_of text)))
    ∙ ended_with form_of_text (then_read (header_in (lines_of text)) (λ v q. parsed_with (of_version v) (after_header v q)))
    ∙ ap (λ (t : ParsedPart Rest). made_with form_of_text (ended t)) (sym (header_ahead number (lines_of text)))

form_contents : (v : Option Version) (items : List Item) → contents (form_by v items) ≡ expansion items
form_contents (Some Two) items = refl
form_contents (Some One) items = refl
form_contents None items = refl

motions_of_form : (t : Left) → made_with contents (made_with form_of_text t) ≡ made_with certificate_of t
motions_of_form (Ok r) = ap (λ (c : CertificateData). ok_said c) (form_contents r.version r.items) where
  ok_said : CertificateData → Result CertificateData CertificateFault
  ok_said c = Ok c
motions_of_form (Err fault) = refl

pub certificate_is : (text : List ℕ) → parsed_certificate text ≡ made_with contents (parsed_form text)
unfolding parsed_certificate
certificate_is text = refl

pub begun_said : (number : ℕ) (text : List ℕ) → parsed_certificate text ≡ made_with certificate_of (left_from next.Header number (lines_of text))
begun_said number text =
    certificate_is text ∙ ap (λ (r : Result Form CertificateFault). made_with contents r) (begun_form number text)
    ∙ motions_of_form (left_from next.Header number (lines_of text))
