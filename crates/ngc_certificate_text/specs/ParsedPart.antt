-- The contents of a certificate's text, line by line, or the first line at fault. Our own.
use Rattle.std.specs.Prelude.{◌≡◌, ◌↔◌, ℕ, zero, suc, ◌+◌, min, nat_le, ◌==◌, List, [], ◌∷◌, length}
use Rattle.std.specs.Prelude.{codes, Result, Ok}
use Rattle.std.specs.Prelude.{Err, IsTrue, Bool, true, false, ◌&&◌, if◌then◌else◌}
use Rattle.std.specs.List.{slice_split, list_all}
use Rattle.ngc_certificate_text.specs.declared.fault.CertificateFault.{CertificateFault}
use Rattle.ngc_certificate_text.specs.declared.fault.CertificateFault.TheVariants.{WrongHeader}
use Rattle.ngc_certificate_text.specs.declared.fault.CertificateFault.TheVariants.{BadLine}
use Rattle.ngc_certificate_text.specs.declared.fault.CertificateFault.TheVariants.{OutOfRange}
use Rattle.ngc_certificate_text.specs.declared.lines.LineFlaw.{LineFlaw}
use Rattle.ngc_certificate_text.specs.declared.lines.LineFlaw.TheVariants.{Spelling, Range}
use Rattle.ngc_certificate_text.specs.declared.piece.Piece.{Piece}
use Rattle.ngc_certificate_text.specs.Certificate.{Entry, CertificateData, IsCertificate}
use Rattle.ngc_certificate_text.specs.Lines.{parsed_setting, parsed_motion, parsed_piece, parsed_end}
use Rattle.ngc_certificate_text.specs.Lines.{are_steps}
use Rattle.ngc_certificate_text.specs.declared.expected.RemainingEntries.{RemainingEntries}
use Rattle.ngc_certificate_text.specs.declared.line_content.Version.{Version}
use Rattle.ngc_certificate_text.specs.declared.line_content.Version.TheVariants.{One, Two}
use Rattle.ngc_certificate_text.specs.EntryLines.{parsed_version, parsed_counts, parsed_entry, all_left}
use Rattle.ngc_certificate_text.specs.EntryLines.{none_left, remaining_after}
use Rattle.ngc_certificate_text.specs.Joined.{Item, IsJoined, Form, Parted, Joined, contents}
use Rattle.ngc_certificate_text.specs.Spelling.{spelling}

-- the lines of a text, each ended by a line feed, and last the text after the last line feed
abbrev pub lines_of : List ℕ → List (List ℕ)
lines_of text = slice_split (λ b. b == 10) text

-- the position in a text: the number of the next line, from 1, and the remaining lines
pub record Place : Type 0 where
  pub number : ℕ
  pub left : List (List ℕ)

-- the content of a part of the text, and its end
abbrev pub ParsedPart : Type 0 → Type 0
ParsedPart X = Result (X × Place) CertificateFault

abbrev pub then_read : {X Y : Type 0} → ParsedPart X → (X → Place → ParsedPart Y) → ParsedPart Y
then_read (Ok r) more = more r.0 r.1
then_read (Err fault) more = Err fault

-- all lines from 2^32 - 1 on have that number
abbrev pub next_number : ℕ → ℕ
next_number number = min (number + 1) 4294967295

abbrev pub fault_at : ℕ → LineFlaw → CertificateFault
fault_at number Spelling = BadLine number
fault_at number Range = OutOfRange number

-- the content of a line, before these lines
abbrev pub line_is : {X : Type 0} → ℕ → Result X LineFlaw → List (List ℕ) → ParsedPart X
line_is number (Ok x) left = Ok (x, record { number = next_number number; left = left })
line_is number (Err flaw) left = Err (fault_at number flaw)

-- the next line, of at most 256 bytes and with its line feed
abbrev pub line_in : {X : Type 0} → (List ℕ → Result X LineFlaw) → ℕ → List (List ℕ) → ParsedPart X
line_in said number [] = Err (BadLine number)
line_in said number (last ∷ []) = Err (BadLine number)
line_in said number (line ∷ next ∷ left) =
    if nat_le (length line) 256 then line_is number (said line) (next ∷ left)
    else Err (BadLine number)

unfoldable pub line_at : {X : Type 0} → (List ℕ → Result X LineFlaw) → Place → ParsedPart X
line_at said p = line_in said p.number p.left

-- n parts of one kind
unfoldable pub several : {X : Type 0} → (Place → ParsedPart X) → ℕ → Place → ParsedPart (List X)
several said zero p = Ok ([], p)
several said (suc n) p =
    then_read (said p) (λ x q. then_read (several said n q) (λ xs r. Ok (x ∷ xs, r)))

-- a motion: its line, and a line for each piece
unfoldable pub entry_at : Place → ParsedPart Entry
entry_at p =
    then_read (line_at parsed_motion p) (λ m q.
    then_read (several (line_at parsed_piece) m.pieces q) (λ pieces r.
    Ok (record { index = m.index; pieces = pieces }, r)))

-- a setting: its line, and its motions
unfoldable pub setting_at : List ℕ → Place → ParsedPart (List Entry)
setting_at name p = then_read (line_at (parsed_setting name) p) (λ n q. several entry_at n q)

-- there is nothing after the last line feed
abbrev pub nothing_in : List (List ℕ) → Bool
nothing_in ([] ∷ []) = true
nothing_in _ = false

-- both settings, the line `end`, and nothing after it
unfoldable pub settings_at : Place → ParsedPart CertificateData
settings_at p =
    then_read (setting_at (codes "off") p) (λ off q.
    then_read (setting_at (codes "on") q) (λ on r.
    then_read (line_at parsed_end r) (λ _ s. Ok (record { off = off; on = on }, s))))

-- ---- version 2

-- an entry: its line, and a line for each piece
unfoldable pub item_at : RemainingEntries → Place → ParsedPart Item
item_at left p =
    then_read (line_at (parsed_entry left) p) (λ e q.
    then_read (several (line_at parsed_piece) e.pieces q) (λ pieces r.
    Ok (record { indices = e.indices; pieces = pieces }, r)))

-- entries until no motions remain: at most n
unfoldable pub items_at : ℕ → RemainingEntries → Place → ParsedPart (List Item)
items_at zero left p = Ok ([], p)
items_at (suc n) left p =
    if none_left left then Ok ([], p) else
    then_read (item_at left p)
    (λ x q. then_read (items_at n (remaining_after left x.indices) q) (λ xs r. Ok (x ∷ xs, r)))

-- the counts, the entries, and the line `end`
unfoldable pub joined_at : Place → ParsedPart (List Item)
joined_at p =
    then_read (line_at parsed_counts p) (λ c q.
    then_read (items_at (c.off + c.on) (all_left c) q) (λ items r.
    then_read (line_at parsed_end r) (λ _ s. Ok (items, s))))

-- ---- the whole text

-- there is nothing after it
abbrev pub ended : {X : Type 0} → ParsedPart X → Result X CertificateFault
ended (Ok r) = if nothing_in r.1.left then Ok r.0 else Err (BadLine r.1.number)
ended (Err fault) = Err fault

-- a value that is made from the content of a text
abbrev pub made_with : {X Y : Type 0} → (X → Y) → Result X CertificateFault →
    Result Y CertificateFault
made_with f (Ok x) = Ok (f x)
made_with f (Err fault) = Err fault

-- a value that is made from the content of a part of the text
abbrev pub parsed_with : {X Y : Type 0} → (X → Y) → ParsedPart X → ParsedPart Y
parsed_with f s = then_read s (λ r q. Ok (f r, q))

abbrev pub version_is : Result Version LineFlaw → List (List ℕ) → ParsedPart Version
version_is (Ok v) left = Ok (v, record { number = 2; left = left })
version_is (Err flaw) left = Err WrongHeader

-- the first line
abbrev pub header_in : List (List ℕ) → ParsedPart Version
header_in [] = Err WrongHeader
header_in (last ∷ []) = Err WrongHeader
header_in (line ∷ next ∷ left) = version_is (parsed_version line) (next ∷ left)

abbrev pub form_at : Version → Place → ParsedPart Form
form_at One p = parsed_with Parted (settings_at p)
form_at Two p = parsed_with Joined (joined_at p)

-- the content of a text of either version
unfoldable pub parsed_form : List ℕ → Result Form CertificateFault
parsed_form text = ended (then_read (header_in (lines_of text)) form_at)

-- its motions
unfoldable pub parsed_certificate : List ℕ → Result CertificateData CertificateFault
parsed_certificate text = made_with contents (parsed_form text)

-- ---- the law

-- steps are 32-bit numbers in each box
abbrev pub has_steps : Entry → Bool
has_steps e = list_all (λ (p : Piece). are_steps p.bounds.low && are_steps p.bounds.high) e.pieces

pub record HasSteps (c : CertificateData) : Type 0 where
  pub off : IsTrue (list_all has_steps c.off)
  pub on : IsTrue (list_all has_steps c.on)

abbrev pub item_steps : Item → Bool
item_steps x = list_all (λ (p : Piece). are_steps p.bounds.low && are_steps p.bounds.high) x.pieces

-- a form that a text can have
abbrev pub IsForm : Form → Type 0
IsForm (Parted c) = IsCertificate c × HasSteps c
IsForm (Joined items) = IsJoined items × IsTrue (list_all item_steps items)

-- a text has a form if and only if it is the form's text
abbrev pub IsOneWriting : Type 0
IsOneWriting =
    (text : List ℕ) (f : Form) → (parsed_form text ≡ Ok f) ↔ (IsForm f × (text ≡ spelling f))
