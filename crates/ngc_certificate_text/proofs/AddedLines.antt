-- What a line adds to the part read so far.
use Rattle.std.proofs.Common.{◌≡◌, ℕ, zero, suc, ◌+◌, ◌-◌, ◌≤◌, ap, subst, Bool, true, false, Result, Ok, Err, Option, Some, None, List, [], ◌∷◌, ◌++◌, length}
use Rattle.std.proofs.Common.{refl, sym, ◌∙◌, append_assoc, length-append, arith}
use Rattle.std.specs.Prelude.{nat_le, IsTrue}
use Rattle.std.specs.List.{list_all}
use Rattle.std.proofs.lemmas.Bool.{and_from}
use Rattle.std.proofs.lemmas.Bool.Decides.{nat_tests}
use Rattle.std.proofs.lemmas.List.Folds.{list_all-append}
use Rattle.ngc_certificate_text.specs.declared.expected.Expected.{Expected}
use Rattle.ngc_certificate_text.specs.declared.expected.Expected.TheVariants as next
use Rattle.ngc_certificate_text.specs.declared.expected.BegunMotion.{BegunMotion}
use Rattle.ngc_certificate_text.specs.declared.expected.RemainingEntries.{RemainingEntries}
use Rattle.ngc_certificate_text.specs.declared.expected.Indices.{Indices}
use Rattle.ngc_certificate_text.specs.declared.expected.Indices.TheVariants as of
use Rattle.ngc_certificate_text.specs.declared.expected.RemainingMotions.{RemainingMotions}
use Rattle.ngc_certificate_text.specs.declared.expected.RemainingMotions.TheVariants.{Parted, Joined}
use Rattle.ngc_certificate_text.specs.declared.fault.CertificateFault.{CertificateFault}
use Rattle.ngc_certificate_text.specs.declared.piece.Piece.{Piece}
use Rattle.ngc_certificate_text.specs.declared.piece.Setting.{Setting}
use Rattle.ngc_certificate_text.specs.declared.piece.Setting.TheVariants.{Off, On}
use Rattle.ngc_certificate_text.specs.declared.line_content.LineContent.{LineContent}
use Rattle.ngc_certificate_text.specs.declared.line_content.LineContent.TheVariants as content_kind
use Rattle.ngc_certificate_text.specs.declared.line_content.Version.{Version}
use Rattle.ngc_certificate_text.specs.declared.line_content.Version.TheVariants.{One, Two}
use Rattle.ngc_certificate_text.specs.Ahead.{Rest, Left, made_with, of_version, with_items, with_pieces, next_of_entries, next_of_motions, IsSound}
use Rattle.ngc_certificate_text.specs.Certificate.{CertificateData, MOTION_LIMIT, entries_at, good_piece}
use Rattle.ngc_certificate_text.specs.EntryLines.{none_left}
use Rattle.ngc_certificate_text.specs.Found.{ReadSoFar, add_item, with_added_piece, with_line, first_of, joined, begun_of, gathered, may_still_follow, IsBegun, HasSpace, HasSpaceFor}
use Rattle.ngc_certificate_text.specs.Found.{MayExpect, IsPieceTaken, MayTake}
use Rattle.ngc_certificate_text.specs.Joined.{Item, expansion, IsItem, Form, form_by}
use Rattle.ngc_certificate_text.specs.LineContent.{onto, Fits, IsFront, after_version, after_piece, after_content, left_at, taken_at, IsNext}
use Rattle.ngc_certificate_text.proofs.OrderOfEntries.{item, both_expanded}

-- ---- the whole certificate stays the same

none_in : (b : Bool) (left : RemainingEntries) → begun_of (next_of_entries b left) ≡ None
none_in true left = refl
none_in false left = refl

none_next : (left : RemainingMotions) → begun_of (next_of_motions left) ≡ None
none_next (Parted Off zero) = refl
none_next (Parted On zero) = refl
none_next (Parted s (suc n)) = refl
none_next (Joined left) = none_in (none_left left) left

none_second : (v : Version) → begun_of (after_version v) ≡ None
none_second One = refl
none_second Two = refl

by_begun : (a b : Option BegunMotion) (h : ReadSoFar) (r : Rest) → a ≡ b → gathered a h r ≡ gathered b h r
by_begun a b h r e = ap (λ (o : Option BegunMotion). gathered o h r) e

no_piece : (ps : List Piece) → length ps ≡ 0 → ps ≡ []
no_piece [] h = refl
no_piece (p ∷ ps) h = absurd (omega (arith, h))

last_gathers : (b : BegunMotion) (p : Piece) (h : ReadSoFar) (r : Rest) (last : Bool) → nat_le b.pieces_left 1 ≡ last → length r.pieces + 1 ≡ b.pieces_left
    → gathered (Some b) h (with_pieces (p ∷ r.pieces) r) ≡ gathered (begun_of (after_piece last b)) (with_added_piece last b (h.pieces ++ (p ∷ [])) h) r
last_gathers b p h r true e fits =
    let none : length r.pieces ≡ 0 = grind (arith, nat_tests) in
    let ps = h.pieces ++ (p ∷ []) in
    ap (λ (more : List Piece). joined h (with_items (item b.indices (h.pieces ++ (p ∷ more)) ∷ []) r)) (no_piece r.pieces none)
    ∙ ap (form_by (first_of h.version r.version)) (sym (append_assoc h.items (item b.indices ps ∷ []) r.items))
    ∙ sym (by_begun (begun_of (next_of_motions b.afterwards)) None (record { version = h.version; pieces = ps; items = add_item b.indices ps h.items }) r
    (none_next b.afterwards))
last_gathers b p h r false e fits =
    ap (λ (ps : List Piece). joined h (with_items (item b.indices ps ∷ []) r)) (sym (append_assoc h.pieces (p ∷ []) r.pieces))

gathers : (e : Expected) (line_content : LineContent) (h : ReadSoFar) (r : Rest) → IsNext e line_content → MayExpect e h → Fits line_content r
    → gathered (begun_of e) h (onto line_content r) ≡ gathered (begun_of (after_content line_content)) (with_line line_content h) r
gathers e (content_kind.Header v) h r is may fits =
    by_begun (begun_of e) None h (of_version v r) (ap begun_of is)
    ∙ ap (λ (o : Option Version). form_by (first_of o (Some v)) (h.items ++ r.items)) (may.version is)
    ∙ sym (by_begun (begun_of (after_version v)) None (with_line (content_kind.Header v) h) r (none_second v))
gathers e (content_kind.Setting s n) h r is may fits =
    by_begun (begun_of e) None h r (ap begun_of is.0) ∙ sym (by_begun (begun_of (next_of_motions (Parted s n))) None h r (none_next (Parted s n)))
gathers e (content_kind.Counts off on) h r is may fits =
    let left : RemainingMotions = Joined (record { off = off; on = on; after_on = false }) in
    by_begun (begun_of e) None h r (ap begun_of is.0) ∙ sym (by_begun (begun_of (next_of_motions left)) None h r (none_next left))
gathers e (content_kind.Motion b) h r is may fits = by_begun (begun_of e) None h (onto (content_kind.Motion b) r) (ap begun_of is.expected)
gathers e (content_kind.Piece b p) h r is may fits =
    by_begun (begun_of e) (Some b) h (with_pieces (p ∷ r.pieces) r) (ap begun_of is.0) ∙ last_gathers b p h r (nat_le b.pieces_left 1) refl fits
gathers e content_kind.End h r is may fits = by_begun (begun_of e) None h r (ap begun_of is)

-- a line's text in front of the rest
pub front_gathers : (e : Expected) (line_content : LineContent) (h : ReadSoFar) (before after : Left) → IsNext e line_content → MayExpect e h → IsFront line_content before after
    → made_with (gathered (begun_of e) h) before ≡ made_with (gathered (begun_of (after_content line_content)) (with_line line_content h)) after
front_gathers e line_content h before (Ok r) is may f =
    ap (made_with (gathered (begun_of e) h)) f.0 ∙ ap (λ (c : Form). all_said c) (gathers e line_content h r is may f.1) where
      all_said : Form → Result Form CertificateFault
      all_said c = Ok c
front_gathers e line_content h before (Err fault) is may f = ap (made_with (gathered (begun_of e) h)) f

-- ---- there is capacity for the rest

entries_may : (b : Bool) (left : RemainingEntries) (s : Setting) → may_still_follow (next_of_entries b left) s ≤ left_at (Joined left) s
entries_may true left s = omega arith
entries_may false left s = omega arith

next_may : (left : RemainingMotions) (s : Setting) → may_still_follow (next_of_motions left) s ≤ left_at left s
next_may (Parted Off zero) Off = omega arith
next_may (Parted Off zero) On = omega arith
next_may (Parted On zero) s = omega arith
next_may (Parted t (suc n)) s = omega arith
next_may (Joined left) s = entries_may (none_left left) left s

next_room : (left : RemainingMotions) (items : List Item) → HasSpace (next.Motion left) items → HasSpace (next_of_motions left) items
next_room left items h = λ s. omega (arith, h s, next_may left s)

entries_expect : (b : Bool) (left : RemainingEntries) (h : ReadSoFar) → HasSpace (next_of_entries b left) h.items → MayExpect (next_of_entries b left) h
entries_expect true left h room = record { version = λ e. absurd (cc e); room = room; piece = λ b e. absurd (cc e) }
entries_expect false left h room = record { version = λ e. absurd (cc e); room = room; piece = λ b e. absurd (cc e) }

expect_next : (left : RemainingMotions) (h : ReadSoFar) → HasSpace (next_of_motions left) h.items → MayExpect (next_of_motions left) h
expect_next (Parted Off zero) h room = record { version = λ e. absurd (cc e); room = room; piece = λ b e. absurd (cc e) }
expect_next (Parted On zero) h room = record { version = λ e. absurd (cc e); room = room; piece = λ b e. absurd (cc e) }
expect_next (Parted s (suc n)) h room = record { version = λ e. absurd (cc e); room = room; piece = λ b e. absurd (cc e) }
expect_next (Joined left) h room = entries_expect (none_left left) left h room

next_expects : (left : RemainingMotions) (h : ReadSoFar) → HasSpace (next.Motion left) h.items → MayExpect (next_of_motions left) h
next_expects left h room = expect_next left h (next_room left h.items room)

setting_may : (t : Setting) (n : ℕ) (s : Setting) → n ≤ MOTION_LIMIT → left_at (Parted t n) s ≤ may_still_follow (next.Setting t) s
setting_may Off n Off few = omega (arith, few)
setting_may Off n On few = omega arith
setting_may On n Off few = omega arith
setting_may On n On few = omega (arith, few)

setting_room : (t : Setting) (n : ℕ) (items : List Item) → HasSpace (next.Setting t) items → n ≤ MOTION_LIMIT → HasSpace (next.Motion (Parted t n)) items
setting_room t n items h few = λ s. omega (arith, h s, setting_may t n s few)

counts_may : (off on : ℕ) (s : Setting) → off ≤ MOTION_LIMIT → on ≤ MOTION_LIMIT →
    left_at (Joined (record { off = off; on = on; after_on = false })) s ≤ MOTION_LIMIT
counts_may off on Off few fewer = few
counts_may off on On few fewer = fewer

begun_expects : (b : BegunMotion) (h : ReadSoFar) → HasSpace (next.Piece b) h.items → IsBegun b h.pieces → MayExpect (next.Piece b) h
begun_expects b h room is =
    record { version = λ e. absurd (cc e); room = room; piece = λ d e. let same : b ≡ d = cc e in subst (λ (x : BegunMotion). IsBegun x h.pieces) same is }

one_more : (i : Indices) (ps : List Piece) (s : Setting) → length (entries_at s (expansion (item i ps ∷ []))) ≡ taken_at i s
one_more (of.Both i j) ps Off = refl
one_more (of.Both i j) ps On = refl
one_more (of.Off i) ps Off = refl
one_more (of.Off i) ps On = refl
one_more (of.On j) ps Off = refl
one_more (of.On j) ps On = refl

both_lengths : (xs ys : List Item) (s : Setting) → length (entries_at s (expansion (xs ++ ys)))
    ≡ length (entries_at s (expansion xs)) + length (entries_at s (expansion ys))
both_lengths xs ys Off = ap (λ (c : CertificateData). length c.off) (both_expanded xs ys) ∙ length-append ((expansion xs).off) ((expansion ys).off)
both_lengths xs ys On = ap (λ (c : CertificateData). length c.on) (both_expanded xs ys) ∙ length-append ((expansion xs).on) ((expansion ys).on)

added_room : (b : BegunMotion) (ps : List Piece) (items : List Item) → HasSpace (next.Piece b) items →
    HasSpace (next.Motion b.afterwards) (add_item b.indices ps items)
added_room b ps items h = λ s. omega (arith, h s, both_lengths items (item b.indices ps ∷ []) s, one_more b.indices ps s)

good_more : (ps : List Piece) (p : Piece) → IsTrue (list_all good_piece ps) → IsTrue (good_piece p) → IsTrue (list_all good_piece (ps ++ (p ∷ [])))
good_more ps p h k = list_all-append good_piece ps (p ∷ []) ∙ and_from _ _ h (and_from _ _ k refl)

behind_expects : (b : BegunMotion) (p : Piece) (h : ReadSoFar) (last : Bool) → nat_le b.pieces_left 1 ≡ last → IsBegun b h.pieces → HasSpace (next.Piece b) h.items →
    IsTrue (good_piece p)
    → MayExpect (after_piece last b) (with_added_piece last b (h.pieces ++ (p ∷ [])) h)
behind_expects b p h true e is room good =
    let ps = h.pieces ++ (p ∷ []) in
    next_expects b.afterwards (record { version = h.version; pieces = ps; items = add_item b.indices ps h.items }) (added_room b ps h.items room)
behind_expects b p h false e is room good =
    let more : 2 ≤ b.pieces_left = grind (arith, nat_tests) in
    let ps = h.pieces ++ (p ∷ []) in
    begun_expects (record b { pieces_left = b.pieces_left - 1 }) (record { version = h.version; pieces = ps; items = h.items }) room
    (record { indices = is.indices; few = omega (arith, is.few, more, length-append h.pieces (p ∷ [])); good = good_more h.pieces p is.good good })

room_at : (e d : Expected) (items : List Item) → e ≡ d → HasSpace e items → HasSpace d items
room_at e d items is room = subst (λ (x : Expected). HasSpace x items) is room

second_expects : (v : Version) (h : ReadSoFar) → HasSpace next.Header h.items → MayExpect (after_version v) h
second_expects One h room = record { version = λ x. absurd (cc x); room = λ s. omega (arith, room s); piece = λ b x. absurd (cc x) }
second_expects Two h room = record { version = λ x. absurd (cc x); room = λ s. omega (arith, room s); piece = λ b x. absurd (cc x) }

pub expects : (e : Expected) (line_content : LineContent) (h : ReadSoFar) → IsNext e line_content → MayExpect e h → MayExpect (after_content line_content) (with_line line_content h)
expects e (content_kind.Header v) h is may = second_expects v (with_line (content_kind.Header v) h) (room_at e next.Header h.items is may.room)
expects e (content_kind.Setting s n) h is may = next_expects (Parted s n) h (setting_room s n h.items (room_at e (next.Setting s) h.items is.0 may.room) is.1)
expects e (content_kind.Counts off on) h is may =
    let room = room_at e next.Counts h.items is.0 may.room in
    next_expects (Joined (record { off = off; on = on; after_on = false })) h (λ s. omega (arith, room s, counts_may off on s is.1 is.2))
expects e (content_kind.Motion b) h is may =
    let room = room_at e (next.Motion is.left) h.items is.expected may.room in
    begun_expects b (record { version = h.version; pieces = []; items = h.items }) (λ s. omega (arith, room s, is.counted s))
    (record { indices = is.indices; few = omega (arith, is.few); good = refl })
expects e (content_kind.Piece b p) h is may =
    behind_expects b p h (nat_le b.pieces_left 1) refl (may.piece b is.0) (room_at e (next.Piece b) h.items is.0 may.room) is.1
expects e content_kind.End h is may =
    let room = room_at e next.End h.items is may.room in
    record { version = λ x. absurd (cc x); room = λ s. omega (arith, room s); piece = λ b x. absurd (cc x) }

pub takes : (e : Expected) (number : ℕ) (line_content : LineContent) (h : ReadSoFar) → IsSound e number → IsNext e line_content → MayExpect e h → MayTake line_content h
takes e number (content_kind.Header v) h sound is may = tt
takes e number (content_kind.Setting s n) h sound is may = tt
takes e number (content_kind.Counts off on) h sound is may = tt
takes e number (content_kind.Motion b) h sound is may = tt
takes e number (content_kind.Piece b p) h sound is may = record {
  begun = may.piece b is.0;
  some = sound.piece b is.0;
  room = room_at e (next.Piece b) h.items is.0 may.room;
  good = is.1;
}
takes e number content_kind.End h sound is may = tt

-- ---- a motion that has all its pieces

pub taken_room : (b : BegunMotion) (p : Piece) (h : ReadSoFar) → IsPieceTaken b p h → HasSpaceFor b.indices h.items
taken_room b p h is = λ s. omega (arith, is.room s)

pub taken_item : (b : BegunMotion) (p : Piece) (h : ReadSoFar) → IsPieceTaken b p h → IsItem (record { indices = b.indices; pieces = h.pieces ++ (p ∷ []) })
taken_item b p h is = record {
  indices = is.begun.indices;
  some = omega (arith, length-append h.pieces (p ∷ []));
  count = omega (arith, is.begun.few, is.some, length-append h.pieces (p ∷ []));
  pieces = good_more h.pieces p is.begun.good is.good;
}

-- a line that is read leads to the next
pub told_leads : (a b : Expected) (line_content : LineContent) (h more : ReadSoFar) (before after : Left) → IsNext a line_content → MayExpect a h → b ≡ after_content line_content →
    more ≡ with_line line_content h → IsFront line_content before after
    → made_with (gathered (begun_of a) h) before ≡ made_with (gathered (begun_of b) more) after
told_leads a b line_content h more before after is may to hears f =
    front_gathers a line_content h before after is may f
    ∙ ap (λ (x : Expected). made_with (gathered (begun_of x) (with_line line_content h)) after) (sym to)
    ∙ ap (λ (x : ReadSoFar). made_with (gathered (begun_of b) x) after) (sym hears)

pub told_expects : (a b : Expected) (line_content : LineContent) (h more : ReadSoFar) → IsNext a line_content → b ≡ after_content line_content → more ≡ with_line line_content h → MayExpect a h →
    MayExpect b more
told_expects a b line_content h more is to hears may =
    subst (λ (x : Expected). MayExpect x more) (sym to) (subst (λ (x : ReadSoFar). MayExpect (after_content line_content) x) (sym hears) (expects a line_content h is may))
