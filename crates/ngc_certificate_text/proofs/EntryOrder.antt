-- The entries of a certificate in memory, in order.
use Rattle.std.proofs.Common.{◌≡◌, ℕ, zero, suc, ◌+◌, ◌<◌, ◌≤◌, ap, subst, List, [], ◌∷◌, length, get_or, drop, refl, sym, ◌∙◌, arith}
use Rattle.std.specs.Prelude.{◌++◌, map, flat_map, codes, decimal}
use Rattle.std.proofs.lemmas.List.{length-drop, length-map}
use Rattle.std.proofs.Math.Seq.{drop-cons}
use Rattle.ngc_certificate_text.specs.declared.certificate.EntryKind.{EntryKind}
use Rattle.ngc_certificate_text.specs.declared.certificate.EntryKind.TheVariants.{Both, Off, On}
use Rattle.ngc_certificate_text.specs.declared.expected.Indices.TheVariants as of
use Rattle.ngc_certificate_text.specs.declared.write.Passed.{Passed}
use Rattle.ngc_certificate_text.specs.Certificate.{Entry, entry_at}
use Rattle.ngc_certificate_text.specs.Joined.{Item, expansion}
use Rattle.ngc_certificate_text.specs.Order.{kind_of, kinds_of, items_in, IsWhole}
use Rattle.ngc_certificate_text.specs.Spelling.{item_lines, counts_line, version_2_text}
use Rattle.ngc_certificate_text.specs.Places.{MayPass, entry_there, after_entry}

-- the next element of a list
record First {X : Type 0} (xs : List X) (i : ℕ) (x : X) (more : List X) : Type 0 where
  inside : i < length xs
  is : (d : X) → get_or xs i d ≡ x
  afterwards : drop (i + 1) xs ≡ more

first_at : {X : Type 0} (xs : List X) (i : ℕ) (x : X) (more : List X) → drop i xs ≡ x ∷ more → First xs i x more
first_at {X} xs i x more h =
    let size = ap length h in
    let inside : i < length xs = omega (arith, length-drop i xs, size) in
    let whole : (d : X) → get_or xs i d ∷ drop (suc i) xs ≡ x ∷ more = λ d. sym (drop-cons xs i d inside) ∙ h in
    let next : i + 1 ≡ suc i = omega arith in
    record { inside = inside; is = λ d. cc (whole d); afterwards = ap (λ (n : ℕ). drop n xs) next ∙ cc (whole x) }

map_drop : {X Y : Type 0} (f : X → Y) (n : ℕ) (xs : List X) → map f (drop n xs) ≡ drop n (map f xs)
map_drop f zero xs = refl
map_drop f (suc n) [] = refl
map_drop f (suc n) (x ∷ xs) = map_drop f n xs

abbrev none : Entry
none = record { index = 0; pieces = [] }

-- an entry at a position, and the rest after it
pub record Turn (kinds : List EntryKind) (off on : List Entry) (items : List Item) (k : ℕ) (kind : EntryKind) (p : Passed) : Type 0 where
  pub may : MayPass kind p (length off) (length on)
  pub inside : k < length items
  pub is : (d : Item) → get_or items k d ≡ entry_there kind off on p
  pub rest : items_in (drop (k + 1) kinds) (drop (after_entry kind p).off off) (drop (after_entry kind p).on on) ≡ drop (k + 1) items

module _ (kinds : List EntryKind) (off on : List Entry) (items : List Item) (k : ℕ) (p : Passed) where
  at_off : (ks : List EntryKind) (late : List Entry) → drop (k + 1) kinds ≡ ks → drop p.off off ≡ late →
      items_in (Off ∷ ks) late (drop p.on on) ≡ drop k items → kinds_of (drop k items) ≡ Off ∷ ks
      → Turn kinds off on items k Off p
  at_off ks [] e f h same = let wrong : [] ≡ Off ∷ ks = ap kinds_of h ∙ same in absurd (cc wrong)
  at_off ks (a ∷ late) e f h same =
      let o = first_at off p.off a late f in
      let x = first_at items k (record { indices = of.Off a.index; pieces = a.pieces }) (items_in ks late (drop p.on on)) (sym h) in
      record {
        may = o.inside;
        inside = x.inside;
        is = λ d. x.is d ∙ ap (λ (m : Entry). off_item m) (sym (o.is none));
        rest = ap (λ (l : List EntryKind). items_in l (drop (p.off + 1) off) (drop p.on on)) e ∙ ap (λ (l : List Entry). items_in ks l (drop p.on on)) o.afterwards
            ∙ sym x.afterwards;
      } where
        off_item : Entry → Item
        off_item m = record { indices = of.Off m.index; pieces = m.pieces }

  at_on : (ks : List EntryKind) (late : List Entry) → drop (k + 1) kinds ≡ ks → drop p.on on ≡ late → items_in (On ∷ ks) (drop p.off off) late ≡ drop k items →
      kinds_of (drop k items) ≡ On ∷ ks
      → Turn kinds off on items k On p
  at_on ks [] e f h same = let wrong : [] ≡ On ∷ ks = ap kinds_of h ∙ same in absurd (cc wrong)
  at_on ks (b ∷ late) e f h same =
      let o = first_at on p.on b late f in
      let x = first_at items k (record { indices = of.On b.index; pieces = b.pieces }) (items_in ks (drop p.off off) late) (sym h) in
      record {
        may = o.inside;
        inside = x.inside;
        is = λ d. x.is d ∙ ap (λ (m : Entry). on_item m) (sym (o.is none));
        rest = ap (λ (l : List EntryKind). items_in l (drop p.off off) (drop (p.on + 1) on)) e
            ∙ ap (λ (l : List Entry). items_in ks (drop p.off off) l) o.afterwards ∙ sym x.afterwards;
      } where
        on_item : Entry → Item
        on_item m = record { indices = of.On m.index; pieces = m.pieces }

  at_both : (ks : List EntryKind) (late later : List Entry) → drop (k + 1) kinds ≡ ks → drop p.off off ≡ late → drop p.on on ≡ later →
      items_in (Both ∷ ks) late later ≡ drop k items → kinds_of (drop k items) ≡ Both ∷ ks
      → Turn kinds off on items k Both p
  at_both ks [] later e f g h same = let wrong : [] ≡ Both ∷ ks = ap kinds_of h ∙ same in absurd (cc wrong)
  at_both ks (a ∷ late) [] e f g h same = let wrong : [] ≡ Both ∷ ks = ap kinds_of h ∙ same in absurd (cc wrong)
  at_both ks (a ∷ late) (b ∷ later) e f g h same =
      let o = first_at off p.off a late f in
      let n = first_at on p.on b later g in
      let x = first_at items k (record { indices = of.Both a.index b.index; pieces = a.pieces }) (items_in ks late later) (sym h) in
      record {
        may = (o.inside, n.inside);
        inside = x.inside;
        is = λ d. x.is d ∙ ap (λ (m : Entry). both_item m b) (sym (o.is none)) ∙ ap (λ (m : Entry). both_item (entry_at off p.off) m) (sym (n.is none));
        rest = ap (λ (l : List EntryKind). items_in l (drop (p.off + 1) off) (drop (p.on + 1) on)) e
            ∙ ap (λ (l : List Entry). items_in ks l (drop (p.on + 1) on)) o.afterwards ∙ ap (λ (l : List Entry). items_in ks late l) n.afterwards ∙ sym x.afterwards;
      } where
        both_item : Entry → Entry → Item
        both_item m q = record { indices = of.Both m.index q.index; pieces = m.pieces }

  by_kind : (kind : EntryKind) (ks : List EntryKind) → drop (k + 1) kinds ≡ ks → items_in (kind ∷ ks) (drop p.off off) (drop p.on on) ≡ drop k items →
      kinds_of (drop k items) ≡ kind ∷ ks → Turn kinds off on items k kind p
  by_kind Off ks e h same = at_off ks (drop p.off off) e refl h same
  by_kind On ks e h same = at_on ks (drop p.on on) e refl h same
  by_kind Both ks e h same = at_both ks (drop p.off off) (drop p.on on) e refl refl h same

pub turn : (kinds : List EntryKind) (off on : List Entry) (k : ℕ) (p : Passed) → IsWhole kinds off on → k < length kinds
    → items_in (drop k kinds) (drop p.off off) (drop p.on on) ≡ drop k (items_in kinds off on) →
    Turn kinds off on (items_in kinds off on) k (get_or kinds k Both) p
turn kinds off on k p whole inside rest =
    let items = items_in kinds off on in
    let next : suc k ≡ k + 1 = omega arith in
    let parts : drop k kinds ≡ get_or kinds k Both ∷ drop (k + 1) kinds =
    drop-cons kinds k Both inside ∙ ap (λ (n : ℕ). get_or kinds k Both ∷ drop n kinds) next in
    by_kind kinds off on items k p (get_or kinds k Both) (drop (k + 1) kinds) refl
    (ap (λ (l : List EntryKind). items_in l (drop p.off off) (drop p.on on)) (sym parts) ∙ rest)
    (map_drop (λ (x : Item). kind_of x.indices) k items ∙ ap (drop k) whole.all ∙ parts)

pub as_many : (kinds : List EntryKind) (off on : List Entry) → IsWhole kinds off on → length (items_in kinds off on) ≡ length kinds
as_many kinds off on whole = sym (length-map (items_in kinds off on) (λ (x : Item). kind_of x.indices)) ∙ ap length whole.all

pub off_behind : (kind : EntryKind) (p : Passed) (k : ℕ) → p.off ≤ k → (after_entry kind p).off ≤ k + 1
off_behind Both p k h = omega (arith, h)
off_behind Off p k h = omega (arith, h)
off_behind On p k h = omega (arith, h)

pub on_behind : (kind : EntryKind) (p : Passed) (k : ℕ) → p.on ≤ k → (after_entry kind p).on ≤ k + 1
on_behind Both p k h = omega (arith, h)
on_behind Off p k h = omega (arith, h)
on_behind On p k h = omega (arith, h)

-- ---- the whole text

abbrev pub counts_text : ℕ → ℕ → List ℕ
counts_text m n = codes "motions " ++ decimal m ++ codes " " ++ decimal n ++ codes "\n"

counts_same : (kinds : List EntryKind) (off on : List Entry) (m n : ℕ) → IsWhole kinds off on → m ≡ length off → n ≡ length on →
    counts_text m n ≡ counts_line (expansion (items_in kinds off on))
counts_same kinds off on m n whole e f =
    ap (λ (k : ℕ). counts_text k n) e ∙ ap (λ (k : ℕ). counts_text (length off) k) f ∙ ap counts_line (sym whole.motions)

-- the text with its counts in front is the certificate's text
pub as_spelled : (P : List ℕ → Type 0) (kinds : List EntryKind) (off on : List Entry) (m n : ℕ) → IsWhole kinds off on → m ≡ length off → n ≡ length on
    → P (codes "ngc-certificate 2\n" ++ counts_text m n ++ flat_map item_lines (items_in kinds off on) ++ codes "end\n") →
    P (version_2_text (items_in kinds off on))
as_spelled P kinds off on m n whole e f h =
    let Q : List ℕ → Type 0 = λ l. P (codes "ngc-certificate 2\n" ++ l ++ flat_map item_lines (items_in kinds off on) ++ codes "end\n") in
    subst Q (counts_same kinds off on m n whole e f) h
