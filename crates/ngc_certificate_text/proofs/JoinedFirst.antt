-- Motions of both settings, with the first ones joined, as entries.
use Rattle.std.proofs.Common.{◌≡◌, ℕ, zero, suc, ◌-◌, ◌≤◌, Bool, true, false, List, [], ◌∷◌, ◌++◌, map, length, ap, refl, sym, ◌∙◌, subst, arith}
use Rattle.std.specs.Prelude.{replicate, nat_le}
use Rattle.std.specs.List.{All}
use Rattle.std.proofs.lemmas.Bool.{and_from}
use Rattle.std.proofs.lemmas.Bool.Decides.{nat_tests}
use Rattle.std.proofs.lemmas.List.{append-nil, map-append}
use Rattle.std.proofs.lemmas.List.Elements.{All-map, All-append, All-head, All-tail, All-cons, All-weaker}
use Rattle.ngc_certificate_text.specs.declared.certificate.EntryKind.{EntryKind}
use Rattle.ngc_certificate_text.specs.declared.certificate.EntryKind.TheVariants as kinds
use Rattle.ngc_certificate_text.specs.declared.expected.Indices.TheVariants.{Both, Off, On}
use Rattle.ngc_certificate_text.specs.declared.piece.Piece.{Piece}
use Rattle.ngc_certificate_text.specs.declared.piece.Setting.TheVariants as settings
use Rattle.ngc_certificate_text.specs.Ahead.{item_of}
use Rattle.ngc_certificate_text.specs.Certificate.{Entry, IsEntry, AreEntries, INDEX_LIMIT, MOTION_LIMIT}
use Rattle.ngc_certificate_text.specs.Joined.{Item, IsItem, IsJoined, entry_with, onto_motions, expansion, in_order}
use Rattle.ngc_certificate_text.specs.JoinedFirst.{both_item, alone_items, joined_first, HaveSamePieces}
use Rattle.ngc_certificate_text.specs.Order.{kind_of, kinds_of}
use Rattle.ngc_certificate_text.proofs.OrderOfEntries.{data_of, both_expanded, Pushed, from_items}

-- ---- the kinds of the entries

abbrev pub kinds_first : ℕ → ℕ → ℕ → List EntryKind
kinds_first n off on = replicate n kinds.Both ++ replicate (off - n) kinds.Off ++ replicate (on - n) kinds.On

kinds_off : (off : List Entry) → kinds_of (map (item_of settings.Off) off) ≡ replicate (length off) kinds.Off
kinds_off [] = refl
kinds_off (a ∷ off) = ap (λ (ks : List EntryKind). kinds.Off ∷ ks) (kinds_off off)

kinds_on : (on : List Entry) → kinds_of (map (item_of settings.On) on) ≡ replicate (length on) kinds.On
kinds_on [] = refl
kinds_on (b ∷ on) = ap (λ (ks : List EntryKind). kinds.On ∷ ks) (kinds_on on)

kinds_alone : (off on : List Entry) → kinds_of (alone_items off on) ≡ replicate (length off) kinds.Off ++ replicate (length on) kinds.On
kinds_alone off on =
    map-append (λ (x : Item). kind_of x.indices) (map (item_of settings.Off) off) (map (item_of settings.On) on)
    ∙ ap (λ (ks : List EntryKind). ks ++ kinds_of (map (item_of settings.On) on)) (kinds_off off)
    ∙ ap (λ (ks : List EntryKind). replicate (length off) kinds.Off ++ ks) (kinds_on on)

same_kinds : (n m : ℕ) (k : EntryKind) → n ≡ m → replicate n k ≡ replicate m k
same_kinds n m k e = ap (λ (i : ℕ). replicate i k) e

pub kinds_joined : (n : ℕ) (off on : List Entry) → n ≤ length off → n ≤ length on → kinds_of (joined_first n off on) ≡ kinds_first n (length off) (length on)
kinds_joined zero off on h k =
    kinds_alone off on
    ∙ ap (λ (ks : List EntryKind). ks ++ replicate (length on) kinds.On) (same_kinds (length off) (length off - 0) kinds.Off (omega arith))
    ∙ ap (λ (ks : List EntryKind). replicate (length off - 0) kinds.Off ++ ks) (same_kinds (length on) (length on - 0) kinds.On (omega arith))
kinds_joined (suc n) [] on h k = absurd (omega (arith, h))
kinds_joined (suc n) (a ∷ off) [] h k = absurd (omega (arith, k))
kinds_joined (suc n) (a ∷ off) (b ∷ on) h k =
    let less_off : length off - n ≡ length (a ∷ off) - suc n = omega arith in
    let less_on : length on - n ≡ length (b ∷ on) - suc n = omega arith in
    ap (λ (ks : List EntryKind). kinds.Both ∷ ks) (kinds_joined n off on (omega (arith, h)) (omega (arith, k)))
    ∙ ap (λ (ks : List EntryKind). kinds.Both ∷ (replicate n kinds.Both ++ ks ++ replicate (length on - n) kinds.On)) (same_kinds _ _ kinds.Off less_off)
    ∙ ap (λ (ks : List EntryKind). kinds.Both ∷ (replicate n kinds.Both ++ replicate (length (a ∷ off) - suc n) kinds.Off ++ ks))
    (same_kinds _ _ kinds.On less_on)

-- ---- their motions

expanded_off : (off : List Entry) → expansion (map (item_of settings.Off) off) ≡ data_of off []
expanded_off [] = refl
expanded_off (a ∷ off) = ap (onto_motions (Off a.index) a.pieces) (expanded_off off)

expanded_on : (on : List Entry) → expansion (map (item_of settings.On) on) ≡ data_of [] on
expanded_on [] = refl
expanded_on (b ∷ on) = ap (onto_motions (On b.index) b.pieces) (expanded_on on)

expanded_alone : (off on : List Entry) → expansion (alone_items off on) ≡ data_of off on
expanded_alone off on =
    both_expanded (map (item_of settings.Off) off) (map (item_of settings.On) on)
    ∙ ap (λ c. data_of (c.off ++ (expansion (map (item_of settings.On) on)).off) (c.on ++ (expansion (map (item_of settings.On) on)).on)) (expanded_off off)
    ∙ ap (λ c. data_of (off ++ c.off) ([] ++ c.on)) (expanded_on on)
    ∙ ap (λ (l : List Entry). data_of l on) (append-nil off)

behind_first : (n : ℕ) (a b : Entry) (off on : List Entry) → HaveSamePieces (suc n) (a ∷ off) (b ∷ on) → HaveSamePieces n off on
behind_first n a b off on have = record {
  off_has = omega (arith, have.off_has);
  on_has = omega (arith, have.on_has);
  same = λ k h. have.same (suc k) (omega (arith, h));
}

pub expanded_joined : (n : ℕ) (off on : List Entry) → HaveSamePieces n off on → expansion (joined_first n off on) ≡ data_of off on
expanded_joined zero off on have = expanded_alone off on
expanded_joined (suc n) [] on have = absurd (omega (arith, have.off_has))
expanded_joined (suc n) (a ∷ off) [] have = absurd (omega (arith, have.on_has))
expanded_joined (suc n) (a ∷ off) (b ∷ on) have =
    ap (onto_motions (Both a.index b.index) a.pieces) (expanded_joined n off on (behind_first n a b off on have))
    ∙ ap (λ (ps : List Piece). data_of (a ∷ off) (entry_with b.index ps ∷ on)) (have.same 0 (omega arith))

-- the kinds, and the motions of both settings, give these entries
pub joined_whole : (n m k : ℕ) (off on : List Entry) (ks : List EntryKind) → HaveSamePieces n off on → m ≡ length off → k ≡ length on → ks ≡ kinds_first n m k
    → Pushed ks off on (joined_first n off on)
joined_whole n m k off on ks have off_count on_count e =
    from_items ks off on (joined_first n off on)
    (e ∙ ap (λ (i : ℕ). kinds_first n i k) off_count ∙ ap (λ (i : ℕ). kinds_first n (length off) i) on_count
    ∙ sym (kinds_joined n off on have.off_has have.on_has))
    (sym (expanded_joined n off on have))

-- ---- ranges and order

index_small : (i : ℕ) → i ≤ INDEX_LIMIT → nat_le i INDEX_LIMIT ≡ true
index_small i h = grind (arith, nat_tests)

item_off : (a : Entry) → IsEntry a → IsItem (item_of settings.Off a)
item_off a is = record { indices = index_small a.index is.index; some = is.some; count = is.count; pieces = is.pieces }

item_on : (b : Entry) → IsEntry b → IsItem (item_of settings.On b)
item_on b is = record { indices = index_small b.index is.index; some = is.some; count = is.count; pieces = is.pieces }

item_both : (a b : Entry) → IsEntry a → IsEntry b → IsItem (both_item a b)
item_both a b is too =
    record { indices = and_from _ _ (index_small a.index is.index) (index_small b.index too.index); some = is.some; count = is.count; pieces = is.pieces }

alone_are : (off on : List Entry) → All IsEntry off → All IsEntry on → All IsItem (alone_items off on)
alone_are off on h k =
    All-append IsItem (map (item_of settings.Off) off) (map (item_of settings.On) on)
    (All-map IsItem (item_of settings.Off) off (All-weaker IsEntry (λ a. IsItem (item_of settings.Off a)) item_off off h))
    (All-map IsItem (item_of settings.On) on (All-weaker IsEntry (λ b. IsItem (item_of settings.On b)) item_on on k))

joined_are : (n : ℕ) (off on : List Entry) → All IsEntry off → All IsEntry on → All IsItem (joined_first n off on)
joined_are zero off on h k = alone_are off on h k
joined_are (suc n) [] on h k = alone_are [] on h k
joined_are (suc n) (a ∷ off) [] h k = alone_are (a ∷ off) [] h k
joined_are (suc n) (a ∷ off) (b ∷ on) h k =
    All-cons IsItem (both_item a b) (joined_first n off on)
    (item_both a b (All-head IsEntry a off h) (All-head IsEntry b on k))
    (joined_are n off on (All-tail IsEntry a off h) (All-tail IsEntry b on k))

on_in_order : (after_on : Bool) (on : List Entry) → in_order after_on (map (item_of settings.On) on) ≡ true
on_in_order after_on [] = refl
on_in_order after_on (b ∷ on) = on_in_order true on

alone_in_order : (off on : List Entry) → in_order false (alone_items off on) ≡ true
alone_in_order [] on = on_in_order false on
alone_in_order (a ∷ off) on = alone_in_order off on

joined_in_order : (n : ℕ) (off on : List Entry) → in_order false (joined_first n off on) ≡ true
joined_in_order zero off on = alone_in_order off on
joined_in_order (suc n) [] on = alone_in_order [] on
joined_in_order (suc n) (a ∷ off) [] = alone_in_order (a ∷ off) []
joined_in_order (suc n) (a ∷ off) (b ∷ on) = joined_in_order n off on

-- they are those of a certificate of version 2
pub joined_is : (n : ℕ) (off on : List Entry) → HaveSamePieces n off on → AreEntries off → AreEntries on → IsJoined (joined_first n off on)
joined_is n off on have are too =
    let e = expanded_joined n off on have in
    record {
      off = subst (λ c. length c.off ≤ MOTION_LIMIT) (sym e) are.count;
      on = subst (λ c. length c.on ≤ MOTION_LIMIT) (sym e) too.count;
      each = joined_are n off on are.each too.each;
      order = joined_in_order n off on;
    }
