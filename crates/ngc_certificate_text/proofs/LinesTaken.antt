-- Lines that are read.
use Rattle.std.proofs.Common.{◌≡◌, ℕ, ap, Bool, true, false, Result, Ok, Err, List, [], ◌∷◌, ◌++◌, length, refl}
use Rattle.std.specs.Prelude.{nat_le, if◌then◌else◌}
use Rattle.std.specs.List.{join_with_byte}
use Rattle.ngc_certificate_text.specs.declared.fault.CertificateFault.TheVariants.{BadLine}
use Rattle.ngc_certificate_text.specs.declared.lines.LineFlaw.{LineFlaw}
use Rattle.ngc_certificate_text.specs.ParsedPart.{Place, ParsedPart, then_read, next_number, line_is, line_in, line_at}

-- the remaining text
abbrev pub text_left : Place → List ℕ
text_left p = join_with_byte 10 p.left

pub then_ok : {X Y : Type 0} (s : ParsedPart X) (more : X → Place → ParsedPart Y) (y : Y) (q : Place) → then_read s more ≡ Ok (y, q) →
    (x : X) × (p : Place) × (s ≡ Ok (x, p)) × (more x p ≡ Ok (y, q))
then_ok (Ok r) more y q h = (r.0, r.1, refl, h)
then_ok (Err fault) more y q h = absurd (cc h)

-- a line that is read
pub record Taken {X : Type 0} (said : List ℕ → Result X LineFlaw) (lines : List (List ℕ)) (x : X) (q : Place) : Type 0 where
  pub line : List ℕ
  pub says : said line ≡ Ok x
  pub joined : join_with_byte 10 lines ≡ line ++ (10 ∷ text_left q)

abbrev pub read_to : {X : Type 0} → X → Place → X × Place
read_to x p = (x, p)

abbrev pub said_ok : {X : Type 0} → X × Place → ParsedPart X
said_ok r = Ok r

pub ok_same : {X : Type 0} (x y : X × Place) → said_ok x ≡ said_ok y → x ≡ y
ok_same x y e = cc e

pub same_line : {X : Type 0} (number : ℕ) (r : Result X LineFlaw) (left : List (List ℕ)) (x : X) (q : Place) → line_is number r left ≡ Ok (x, q) →
    (r ≡ Ok x) × (left ≡ q.left)
same_line {X} number (Ok y) left x q h =
    let e : read_to y (record { number = next_number number; left = left }) ≡ read_to x q =
    ok_same (read_to y (record { number = next_number number; left = left })) (read_to x q) h in
    (ap (λ (r : X × Place). Ok r.0) e, ap (λ (r : X × Place). r.1.left) e)
same_line number (Err flaw) left x q h = absurd (cc h)

pub taken_if : {X : Type 0} (said : List ℕ → Result X LineFlaw) (number : ℕ) (line next : List ℕ) (left : List (List ℕ)) (x : X) (q : Place) (c : Bool)
    → (if c then line_is number (said line) (next ∷ left) else Err (BadLine number)) ≡ Ok (x, q) → Taken said (line ∷ next ∷ left) x q
taken_if said number line next left x q true h =
    let s = same_line number (said line) (next ∷ left) x q h in
    record { line = line; says = s.0; joined = ap (λ (l : List (List ℕ)). line ++ (10 ∷ join_with_byte 10 l)) s.1 }
taken_if said number line next left x q false h = absurd (cc h)

pub taken_line : {X : Type 0} (said : List ℕ → Result X LineFlaw) (number : ℕ) (lines : List (List ℕ)) (x : X) (q : Place) →
    line_in said number lines ≡ Ok (x, q) → Taken said lines x q
taken_line said number [] x q h = absurd (cc h)
taken_line said number (last ∷ []) x q h = absurd (cc h)
taken_line said number (line ∷ next ∷ left) x q h = taken_if said number line next left x q (nat_le (length line) 256) h

pub line_taken : {X : Type 0} (said : List ℕ → Result X LineFlaw) (p : Place) (x : X) (q : Place) → line_at said p ≡ Ok (x, q) → Taken said p.left x q
unfolding line_at
line_taken said p x q h = taken_line said p.number p.left x q h
