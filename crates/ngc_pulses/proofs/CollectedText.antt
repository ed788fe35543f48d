-- Text that is collected and written, part by part.
use Rattle.std.proofs.Common.{◌≡◌, ◌+◌, ◌-◌, ◌≤◌, ℕ, List, [], ◌++◌, replicate, min, Option, ap, sym, subst, ◌∙◌, arith}
use Rattle.std.proofs.lemmas.List.{append_assoc, append-nil, replicate-append-replicate}
use Rattle.std.specs.Io.KnownBytes.{Appends}
use Rattle.std.proofs.KnownBytes.{Appends-nil}
use Rattle.ngc_text.proofs.AppendedTexts.{appends_both, begins_after}
use Rattle.ngc_text.specs.Written.{AppendsPrefix}
use Rattle.ngc_text.specs.Collected.{WritesPrefix}

pub none_written : (x : Option (List ℕ)) (a : List ℕ) → WritesPrefix x x (a ++ []) a
none_written x a = ([], Appends-nil x, append-nil a)

pub fronts_joined : (x y z : Option (List ℕ)) (a b c s t : List ℕ) → WritesPrefix x y (a ++ s) b → WritesPrefix y z (b ++ t) c → WritesPrefix x z (a ++ (s ++ t)) c
fronts_joined x y z a b c s t p q = (
  p.0 ++ q.0,
  appends_both x y z p.0 q.0 p.1 q.1,
  sym (append_assoc a s t) ∙ ap (λ l. l ++ t) p.2 ∙ append_assoc p.0 b t ∙ ap (λ l. p.0 ++ l) q.2 ∙ sym (append_assoc p.0 q.0 c),
)

-- a text is added to the rest of the collected text
pub front_added : (x y : Option (List ℕ)) (a b c more : List ℕ) → WritesPrefix x y a b → c ≡ b ++ more → WritesPrefix x y (a ++ more) c
front_added x y a b c more w e = (w.0, w.1, ap (λ l. l ++ more) w.2 ∙ append_assoc w.0 b more ∙ ap (λ l. w.0 ++ l) (sym e))

pub begun_more : (x y : Option (List ℕ)) (text more : List ℕ) → AppendsPrefix x y text → AppendsPrefix x y (text ++ more)
begun_more x y text more wrote = (wrote.0, wrote.1 ++ more, ap (λ l. l ++ more) wrote.2 ∙ append_assoc wrote.0 wrote.1 more, wrote.3)

-- then a write failed
pub begun_joined : (x y z : Option (List ℕ)) (a b s t : List ℕ) → WritesPrefix x y (a ++ s) b → AppendsPrefix y z (b ++ t) → AppendsPrefix x z (a ++ (s ++ t))
begun_joined x y z a b s t p q =
    let P : List ℕ → Type 0 = λ text. AppendsPrefix x z text in
    let whole : p.0 ++ ((b ++ t) ++ []) ≡ a ++ (s ++ t) =
    ap (λ l. p.0 ++ l) (append-nil (b ++ t)) ∙ sym (append_assoc p.0 b t) ∙ ap (λ l. l ++ t) (sym p.2) ∙ append_assoc a s t in
    subst P whole (begins_after x y z p.0 (b ++ t) [] p.1 q)

-- ---- one byte, many times

all_of : (byte n k m : ℕ) → n + k ≡ m → replicate n byte ++ replicate k byte ≡ replicate m byte
all_of byte n k m e = replicate-append-replicate n k byte ∙ ap (λ i. replicate i byte) e

pub first_none : (x : Option (List ℕ)) (a : List ℕ) (byte count : ℕ) → WritesPrefix x x (a ++ replicate (count - count) byte) a
first_none x a byte count =
    let none : 0 ≡ count - count = omega arith in
    subst (λ n. WritesPrefix x x (a ++ replicate n byte) a) none (none_written x a)

pub repeated_more : (x y z : Option (List ℕ)) (a b c d : List ℕ) (byte count left length : ℕ) → left ≤ count → length ≤ left →
    WritesPrefix x y (a ++ replicate (count - left) byte) b → WritesPrefix y z b c → d ≡ c ++ replicate length byte →
    WritesPrefix x z (a ++ replicate (count - (left - length)) byte) d
repeated_more x y z a b c d byte count left length few fits p w e =
    subst (λ l. WritesPrefix x z (a ++ l) d) (all_of byte (count - left) length (count - (left - length)) (omega (arith, few, fits)))
    (fronts_joined x y z a b d (replicate (count - left) byte) (replicate length byte) p (front_added y z b c d (replicate length byte) w e))

pub repeated_last : (x y z : Option (List ℕ)) (a b c : List ℕ) (byte count left : ℕ) → left ≤ 0 →
    WritesPrefix x y (a ++ replicate (count - left) byte) b → WritesPrefix y z b c → WritesPrefix x z (a ++ replicate count byte) c
repeated_last x y z a b c byte count left none p w =
    let all : count - left ≡ count = omega (arith, none) in (
      p.0 ++ w.0,
      appends_both x y z p.0 w.0 p.1 w.1,
      ap (λ n. a ++ replicate n byte) (sym all) ∙ p.2 ∙ ap (λ l. p.0 ++ l) w.2 ∙ sym (append_assoc p.0 w.0 c),
    )

pub repeated_cut : (x y z : Option (List ℕ)) (a b : List ℕ) (byte count left : ℕ) → left ≤ count →
    WritesPrefix x y (a ++ replicate (count - left) byte) b → AppendsPrefix y z b → AppendsPrefix x z (a ++ replicate count byte)
repeated_cut x y z a b byte count left few p w =
    subst (λ l. AppendsPrefix x z (a ++ l)) (all_of byte (count - left) left count (omega (arith, few)))
    (begun_joined x y z a b (replicate (count - left) byte) (replicate left byte) p (begun_more y z b (replicate left byte) w))
