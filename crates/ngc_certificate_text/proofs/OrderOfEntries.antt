-- Entries and their motions: each of them, and one more.
use Rattle.std.proofs.Common.{◌≡◌, ℕ, ◌<◌, length, arith, ap, subst, List, [], ◌∷◌, ◌++◌, refl, sym, ◌∙◌}
use Rattle.std.proofs.lemmas.List.{append-nil, map-append}
use Rattle.ngc_certificate_text.specs.declared.certificate.EntryKind.{EntryKind}
use Rattle.ngc_certificate_text.specs.declared.certificate.EntryKind.TheVariants as kinds
use Rattle.ngc_certificate_text.specs.declared.expected.Indices.{Indices}
use Rattle.ngc_certificate_text.specs.declared.expected.Indices.TheVariants.{Both, Off, On}
use Rattle.ngc_certificate_text.specs.declared.piece.Piece.{Piece}
use Rattle.ngc_certificate_text.specs.declared.piece.Setting.{Setting}
use Rattle.ngc_certificate_text.specs.Certificate.{Entry, CertificateData, entries_at, MOTION_LIMIT}
use Rattle.ngc_certificate_text.specs.Found.{add_item, HasSpaceFor}
use Rattle.ngc_certificate_text.specs.Joined.{Item, entry_with, onto_motions, expansion}
use Rattle.ngc_certificate_text.specs.Order.{kind_of, kinds_of, items_in, IsWhole}
use Rattle.ngc_certificate_text.specs.LineContent.{taken_at}

abbrev pub item : Indices → List Piece → Item
item indices pieces = record { indices = indices; pieces = pieces }

abbrev pub data_of : List Entry → List Entry → CertificateData
data_of off on = record { off = off; on = on }

-- ---- the entries are those of their motions and kinds

abbrev made : List Item → List Item
made items = items_in (kinds_of items) ((expansion items).off) ((expansion items).on)

back_with : (i : Indices) (ps : List Piece) (xs : List Item) → made xs ≡ xs → made (item i ps ∷ xs) ≡ item i ps ∷ xs
back_with (Both i j) ps xs e = ap (λ (ys : List Item). item (Both i j) ps ∷ ys) e
back_with (Off i) ps xs e = ap (λ (ys : List Item). item (Off i) ps ∷ ys) e
back_with (On j) ps xs e = ap (λ (ys : List Item). item (On j) ps ∷ ys) e

pub items_back : (items : List Item) → items_in (kinds_of items) ((expansion items).off) ((expansion items).on) ≡ items
items_back [] = refl
items_back (x ∷ xs) = back_with x.indices x.pieces xs (items_back xs)

-- ---- one more entry

abbrev both_motions : CertificateData → CertificateData → CertificateData
both_motions c d = record { off = c.off ++ d.off; on = c.on ++ d.on }

onto_both : (i : Indices) (ps : List Piece) (c d : CertificateData) → onto_motions i ps (both_motions c d) ≡ both_motions (onto_motions i ps c) d
onto_both (Both i j) ps c d = refl
onto_both (Off i) ps c d = refl
onto_both (On j) ps c d = refl

pub both_expanded : (xs ys : List Item) →
    expansion (xs ++ ys) ≡ record { off = (expansion xs).off ++ (expansion ys).off; on = (expansion xs).on ++ (expansion ys).on }
both_expanded [] ys = refl
both_expanded (x ∷ xs) ys = ap (onto_motions x.indices x.pieces) (both_expanded xs ys) ∙ onto_both x.indices x.pieces (expansion xs) (expansion ys)

-- the motions after others
abbrev pub behind_motions : Indices → List Piece → CertificateData → CertificateData
behind_motions i ps c = both_motions c (expansion (item i ps ∷ []))

whole_of : (ks : List EntryKind) (off on : List Entry) (items : List Item) → ks ≡ kinds_of items → data_of off on ≡ expansion items → items_in ks off on ≡ items
whole_of ks off on items e f =
    ap (λ (c : CertificateData). items_in ks c.off c.on) f ∙ ap (λ (k : List EntryKind). items_in k ((expansion items).off) ((expansion items).on)) e
    ∙ items_back items

pub record Pushed (ks : List EntryKind) (off on : List Entry) (items : List Item) : Type 0 where
  pub is : items_in ks off on ≡ items
  pub whole : IsWhole ks off on

pub from_items : (ks : List EntryKind) (off on : List Entry) (items : List Item) → ks ≡ kinds_of items → data_of off on ≡ expansion items →
    Pushed ks off on items
from_items ks off on items e f =
    let is = whole_of ks off on items e f in
    record { is = is; whole = record { all = ap kinds_of is ∙ sym e; motions = ap expansion is ∙ sym f } }

pub pushed : (ks more : List EntryKind) (off on late_off late_on : List Entry) (i : Indices) (ps : List Piece) → IsWhole ks off on →
    more ≡ ks ++ (kind_of i ∷ [])
    → data_of late_off late_on ≡ behind_motions i ps (data_of off on) → Pushed more late_off late_on (add_item i ps (items_in ks off on))
pushed ks more off on late_off late_on i ps whole e f =
    let items = items_in ks off on in
    let same : more ≡ kinds_of (items ++ (item i ps ∷ [])) =
    e ∙ ap (λ (k : List EntryKind). k ++ (kind_of i ∷ [])) (sym whole.all) ∙ sym (map-append (λ (x : Item). kind_of x.indices) items (item i ps ∷ [])) in
    let motions : data_of late_off late_on ≡ expansion (items ++ (item i ps ∷ [])) =
    f ∙ ap (behind_motions i ps) (sym whole.motions) ∙ sym (both_expanded items (item i ps ∷ [])) in
    from_items more late_off late_on (items ++ (item i ps ∷ [])) same motions

-- a motion of each setting, or of one
pub pushed_both : (ks more : List EntryKind) (off on late_off late_on : List Entry) (x : Indices) (i j : ℕ) (ps slice : List Piece) → IsWhole ks off on →
    x ≡ Both i j → slice ≡ ps
    → more ≡ ks ++ (kinds.Both ∷ []) → late_off ≡ off ++ (entry_with i slice ∷ []) → late_on ≡ on ++ (entry_with j slice ∷ []) →
    Pushed more late_off late_on (add_item x ps (items_in ks off on))
pushed_both ks more off on late_off late_on x i j ps slice whole is same e f g =
    subst (λ (y : Indices). Pushed more late_off late_on (add_item y ps (items_in ks off on))) (sym is)
    (subst (λ (l : List Piece). Pushed more late_off late_on (add_item (Both i j) l (items_in ks off on))) same
    (pushed ks more off on late_off late_on (Both i j) slice whole e
    (ap (λ (l : List Entry). data_of l late_on) f ∙ ap (data_of (off ++ (entry_with i slice ∷ []))) g)))

pub pushed_off : (ks more : List EntryKind) (off on late : List Entry) (x : Indices) (i : ℕ) (ps slice : List Piece) → IsWhole ks off on →
    x ≡ Off i → slice ≡ ps
    → more ≡ ks ++ (kinds.Off ∷ []) → late ≡ off ++ (entry_with i slice ∷ []) → Pushed more late on (add_item x ps (items_in ks off on))
pushed_off ks more off on late x i ps slice whole is same e f =
    subst (λ (y : Indices). Pushed more late on (add_item y ps (items_in ks off on))) (sym is)
    (subst (λ (l : List Piece). Pushed more late on (add_item (Off i) l (items_in ks off on))) same
    (pushed ks more off on late on (Off i) slice whole e
    (ap (λ (l : List Entry). data_of l on) f ∙ ap (data_of (off ++ (entry_with i slice ∷ []))) (sym (append-nil on)))))

pub pushed_on : (ks more : List EntryKind) (off on late : List Entry) (x : Indices) (j : ℕ) (ps slice : List Piece) → IsWhole ks off on → x ≡ On j → slice ≡ ps
    → more ≡ ks ++ (kinds.On ∷ []) → late ≡ on ++ (entry_with j slice ∷ []) → Pushed more off late (add_item x ps (items_in ks off on))
pushed_on ks more off on late x j ps slice whole is same e f =
    subst (λ (y : Indices). Pushed more off late (add_item y ps (items_in ks off on))) (sym is)
    (subst (λ (l : List Piece). Pushed more off late (add_item (On j) l (items_in ks off on))) same
    (pushed ks more off on off late (On j) slice whole e
    (ap (data_of off) f ∙ ap (λ (l : List Entry). data_of l (on ++ (entry_with j slice ∷ []))) (sym (append-nil off)))))

-- there is capacity for an entry's motion
pub room_for : (ks : List EntryKind) (off on : List Entry) (x y : Indices) (s : Setting) → IsWhole ks off on → x ≡ y → taken_at y s ≡ 1 →
    HasSpaceFor x (items_in ks off on)
    → length (entries_at s (data_of off on)) < MOTION_LIMIT
room_for ks off on x y s whole is one room =
    let here = room s in
    let same = ap (λ (c : CertificateData). length (entries_at s c)) whole.motions in
    let taken = ap (λ (i : Indices). taken_at i s) is in
    omega (arith, here, same, taken, one)
