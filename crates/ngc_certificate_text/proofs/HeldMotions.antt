-- Stored motions: each of them, and one more.
use Rattle.std.proofs.Common.{◌≡◌, ◌+◌, ◌-◌, ◌<◌, ◌≤◌, ℕ, List, [], ◌∷◌, ◌++◌, length, get_or, take, drop, refl, ap, arith, sym, subst, ◌∙◌}
use Rattle.std.specs.List.{All}
use Rattle.std.proofs.lemmas.List.{map-append, get_or-map, length-append, length-map, take_all, take-append-le, drop-append-le, drop_at, length-drop}
use Rattle.std.proofs.lemmas.List.Elements.{All-push, All-head, All-tail, All-weaker}
use Rattle.ngc_certificate_text.specs.Certificate.{Entry, IsEntry, AreEntries, MOTION_LIMIT}
use Rattle.ngc_certificate_text.specs.Held.{held_entry, held_entries, IsWithin, AreHeld}
use Rattle.ngc_certificate_text.specs.declared.motions.Held.{Held}
use Rattle.ngc_certificate_text.specs.declared.piece.Piece.{Piece}

-- each of them is a motion with pieces in range
pub is_entry : (pieces : List Piece) (held : List Held) (i : ℕ) (d : Held) → AreHeld pieces held → i < length held →
    IsEntry (held_entry pieces (get_or held i d))
is_entry pieces held i d are h =
    let inside : i < length (held_entries pieces held) = omega (arith, length-map held (held_entry pieces)) in
    subst IsEntry (get_or-map (held_entry pieces) held i d (held_entry pieces d) h) (are.entries.each i (held_entry pieces d) inside)

-- the following pieces do not change a motion
kept_entry : (pieces more : List Piece) (h : Held) → IsWithin pieces h → held_entry (pieces ++ more) h ≡ held_entry pieces h
kept_entry pieces more h within =
    let begins : h.start ≤ length pieces = omega arith in
    let ends : h.count ≤ length (drop h.start pieces) = omega (arith, length-drop h.start pieces) in
    let same : take h.count (drop h.start (pieces ++ more)) ≡ take h.count (drop h.start pieces) =
    ap (take h.count) (drop-append-le h.start pieces more begins) ∙ take-append-le h.count (drop h.start pieces) more ends in
    ap (λ (ps : List Piece). the_entry h.index ps) same
  where
    the_entry : ℕ → List Piece → Entry
    the_entry index ps = record { index = index; pieces = ps }

kept : (pieces more : List Piece) (held : List Held) → All (IsWithin pieces) held → held_entries (pieces ++ more) held ≡ held_entries pieces held
kept pieces more [] within = refl
kept pieces more (h ∷ held) within =
    ap (λ e. e ∷ held_entries (pieces ++ more) held) (kept_entry pieces more h (All-head (IsWithin pieces) h held within))
    ∙ ap (λ es. held_entry pieces h ∷ es) (kept pieces more held (All-tail (IsWithin pieces) h held within))

-- the motion that is added
abbrev added : List Piece → List Piece → ℕ → Held
added pieces more index = record { index = index; count = length more; start = length pieces }

abbrev new_entry : List Piece → ℕ → Entry
new_entry more index = record { index = index; pieces = more }

added_entry : (pieces more : List Piece) (index : ℕ) → held_entry (pieces ++ more) (added pieces more index) ≡ new_entry more index
added_entry pieces more index =
    ap (λ (ps : List Piece). new_entry ps index)
    (ap (take (length more)) (drop_at pieces more (length pieces) refl) ∙ take_all (length more) more (omega arith))

entries_added : (pieces more : List Piece) (held : List Held) (index : ℕ) → AreHeld pieces held
    → held_entries (pieces ++ more) (held ++ added pieces more index ∷ []) ≡ held_entries pieces held ++ new_entry more index ∷ []
entries_added pieces more held index are =
    map-append (held_entry (pieces ++ more)) held (added pieces more index ∷ [])
    ∙ ap (λ es. es ++ held_entry (pieces ++ more) (added pieces more index) ∷ []) (kept pieces more held are.within)
    ∙ ap (λ e. held_entries pieces held ++ e ∷ []) (added_entry pieces more index)

still_within : (pieces more : List Piece) (held : List Held) (index : ℕ) → AreHeld pieces held →
    All (IsWithin (pieces ++ more)) (held ++ added pieces more index ∷ [])
still_within pieces more held index are =
    All-push (IsWithin (pieces ++ more)) held (added pieces more index)
    (All-weaker (IsWithin pieces) (IsWithin (pieces ++ more)) (λ h within. omega (arith, length-append pieces more)) held are.within)
    (omega (arith, length-append pieces more))

held_with : (pieces more : List Piece) (held : List Held) (index : ℕ) → AreHeld pieces held → length (held_entries pieces held) < MOTION_LIMIT →
    IsEntry (new_entry more index)
    → AreHeld (pieces ++ more) (held ++ added pieces more index ∷ [])
held_with pieces more held index are room entry = record {
  within = still_within pieces more held index are;
  entries = subst AreEntries (sym (entries_added pieces more held index are)) (record {
    count = omega (arith, length-append (held_entries pieces held) (new_entry more index ∷ []));
    each = All-push IsEntry (held_entries pieces held) (new_entry more index) are.entries.each entry;
  });
}

-- the two vectors after the motion's pieces and then the motion are pushed
pub one_more : (pieces more all_pieces : List Piece) (held all_held : List Held) (index start : ℕ) → AreHeld pieces held
    → start ≡ length pieces → all_pieces ≡ pieces ++ more → all_held ≡ held ++ (record { index = index; count = length more; start = start }) ∷ []
    → held_entries all_pieces all_held ≡ held_entries pieces held ++ (record { index = index; pieces = more }) ∷ []
one_more pieces more all_pieces held all_held index start are begins ps hs = rw (hs, ps, begins) (entries_added pieces more held index are)

pub still_held : (pieces more all_pieces : List Piece) (held all_held : List Held) (index start : ℕ) → AreHeld pieces held
    → start ≡ length pieces → all_pieces ≡ pieces ++ more → all_held ≡ held ++ (record { index = index; count = length more; start = start }) ∷ []
    → length (held_entries pieces held) < MOTION_LIMIT → IsEntry (record { index = index; pieces = more }) → AreHeld all_pieces all_held
still_held pieces more all_pieces held all_held index start are begins ps hs room entry = rw (hs, ps, begins) (held_with pieces more held index are room entry)

-- the pieces at a motion's range in the list of pieces
pub its_pieces : (pieces all : List Piece) (held : List Held) (i count : ℕ) (h : Held) → AreHeld pieces held → i < length (held_entries pieces held)
    → h ≡ get_or held i h → count ≡ h.count → all ≡ pieces
    → IsEntry (record { index = h.index; pieces = take (h.start + count - h.start) (drop h.start all) })
its_pieces pieces all held i count h are inside found is same =
    let e : IsEntry (held_entry pieces h) =
    subst (λ (x : Held). IsEntry (held_entry pieces x)) (sym found) (is_entry pieces held i h are (omega (arith, length-map held (held_entry pieces)))) in
    let n : h.start + count - h.start ≡ h.count = omega arith in
    rw (n, same) e
