-- The text of a certificate reads as it, and a text that reads as a certificate is its text.
use Rattle.std.proofs.Common.{◌≡◌, ℕ, zero, suc, ◌+◌, ◌-◌, ◌≤◌, ap, subst, Bool, true, false, Result, Ok, Err, List, [], ◌∷◌, ◌++◌, length}
use Rattle.std.proofs.Common.{refl, sym, ◌∙◌, append_assoc, arith}
use Rattle.std.specs.Prelude.{codes, decimal, ◌==◌, ◌&&◌, not, nat_le, nat_lt, if◌then◌else◌, flat_map}
use Rattle.std.specs.List.{All, AllByRecursion, list_all, onto_first, join_with_byte}
use Rattle.std.specs.Str.{bytes_eq}
use Rattle.std.proofs.lemmas.Bool.{and_from, and_parts}
use Rattle.std.proofs.lemmas.Bool.Decides.{nat_tests}
use Rattle.std.proofs.lemmas.List.{append-nil}
use Rattle.std.proofs.lemmas.List.Elements.{All-nil, All-head, All-tail, All-cons}
use Rattle.ngc_certificate_text.specs.declared.fault.CertificateFault.TheVariants.{BadLine}
use Rattle.ngc_certificate_text.specs.declared.piece.Piece.{Piece}
use Rattle.ngc_certificate_text.specs.declared.lines.LineFlaw.{LineFlaw}
use Rattle.ngc_certificate_text.specs.declared.lines.LineFlaw.TheVariants.{Spelling}
use Rattle.ngc_certificate_text.specs.declared.lines.MotionLine.{MotionLine}
use Rattle.ngc_certificate_text.specs.Certificate.{Entry, CertificateData, IsEntry, AreEntries, IsCertificate, INDEX_LIMIT, PIECE_LIMIT, MOTION_LIMIT}
use Rattle.ngc_certificate_text.specs.Certificate.{good_piece}
use Rattle.ngc_certificate_text.specs.Spelling.{piece_line, motion_line, entry_lines, setting_lines, version_1_text, item_line, item_lines, counts_line}
use Rattle.ngc_certificate_text.specs.Spelling.{version_2_text, spelling}
use Rattle.ngc_certificate_text.specs.declared.expected.RemainingEntries.{RemainingEntries}
use Rattle.ngc_certificate_text.specs.declared.expected.Indices.{Indices}
use Rattle.ngc_certificate_text.specs.declared.expected.Indices.TheVariants as of
use Rattle.ngc_certificate_text.specs.declared.lines.CountsLine.{CountsLine}
use Rattle.ngc_certificate_text.specs.declared.lines.EntryLine.{EntryLine}
use Rattle.ngc_certificate_text.specs.declared.line_content.Version.{Version}
use Rattle.ngc_certificate_text.specs.declared.line_content.Version.TheVariants.{One, Two}
use Rattle.ngc_certificate_text.specs.EntryLines.{parsed_version, parsed_counts, parsed_entry, may_still_follow, remaining_after, all_left}
use Rattle.ngc_certificate_text.specs.Joined.{Item, expansion, IsItem, in_order, IsJoined, Form, Parted, Joined}
use Rattle.ngc_certificate_text.specs.Lines.{parsed_setting, parsed_motion, parsed_piece, parsed_end, are_steps}
use Rattle.ngc_certificate_text.specs.ParsedPart.{lines_of, Place, ParsedPart, then_read, next_number, line_is, line_in, line_at, several, entry_at, setting_at}
use Rattle.ngc_certificate_text.specs.ParsedPart.{settings_at, item_at, items_at, joined_at, parsed_with, version_is, nothing_in, ended, header_in, form_at, parsed_form}
use Rattle.ngc_certificate_text.specs.ParsedPart.{has_steps, HasSteps, item_steps, IsForm, IsOneWriting}
use Rattle.ngc_text.proofs.SplitTexts.{lacks, split_here}
use Rattle.ngc_certificate_text.proofs.Fields.{joined_split, bytes_same}
use Rattle.ngc_certificate_text.proofs.SpelledLines.{IsLine, IsName, setting_text, setting_line_is, setting_is_line, setting_reads, setting_spelled}
use Rattle.ngc_certificate_text.proofs.SpelledLines.{motion_text}
use Rattle.ngc_certificate_text.proofs.SpelledLines.{motion_is_line, motion_reads, motion_spelled, motion_line_is, IsHeld, piece_text, piece_is_line}
use Rattle.ngc_certificate_text.proofs.SpelledLines.{piece_reads}
use Rattle.ngc_certificate_text.proofs.SpelledLines.{piece_spelled, piece_line_is, end_is_line, end_reads, end_spelled}
use Rattle.ngc_certificate_text.proofs.RemainingEntryLaws.{total, IsTaken, entry_text, entry_is_line, entry_reads, entry_spelled, item_line_is, counts_text}
use Rattle.ngc_certificate_text.proofs.RemainingEntryLaws.{counts_is_line, counts_reads, counts_spelled, one_fewer, some_on, no_more, items_none, more_items, item_is}
use Rattle.ngc_certificate_text.proofs.RemainingEntryLaws.{pieces_behind as entry_pieces}
use Rattle.ngc_certificate_text.proofs.LinesTaken.{text_left, then_ok, line_taken, ok_same, read_to, said_ok}

-- ---- positions

abbrev pub at : ℕ → List ℕ → Place
at number text = record { number = number; left = lines_of text }

-- there is always a last part
pub some_lines : (text : List ℕ) → (x : List ℕ) × (xs : List (List ℕ)) × (lines_of text ≡ x ∷ xs)
some_lines [] = ([], [], refl)
some_lines (b ∷ rest) = by_byte b rest (b == 10) refl where
  onto : (b : ℕ) (parts : List (List ℕ)) → (x : List ℕ) × (xs : List (List ℕ)) × (onto_first b parts ≡ x ∷ xs)
  onto b [] = (b ∷ [], [], refl)
  onto b (part ∷ parts) = (b ∷ part, parts, refl)

  by_byte : (b : ℕ) (rest : List ℕ) (c : Bool) → (b == 10) ≡ c → (x : List ℕ) × (xs : List (List ℕ)) × (lines_of (b ∷ rest) ≡ x ∷ xs)
  by_byte b rest true e = ([], lines_of rest, rw e refl)
  by_byte b rest false e = let o = onto b (lines_of rest) in (o.0, o.1, rw e o.2)

-- a part reads a text with this prefix
abbrev pub ReadsOn : {X : Type 0} → (Place → ParsedPart X) → List ℕ → X → Type 0
ReadsOn said text x = (number : ℕ) (rest : List ℕ) → (after : ℕ) × (said (at number (text ++ rest)) ≡ Ok (x, at after rest))

short_line : (n : ℕ) → n ≤ 256 → nat_le n 256 ≡ true
short_line n h = grind (arith, nat_tests)

line_here : {X : Type 0} (said : List ℕ → Result X LineFlaw) (line rest : List ℕ) (number : ℕ) (x : X) → IsLine line → said line ≡ Ok x
    → line_at said (at number (line ++ (10 ∷ rest))) ≡ Ok (x, at (next_number number) rest)
unfolding line_at
line_here {X} said line rest number x is h =
    let more = some_lines rest in
    ap (λ (l : List (List ℕ)). line_in said number l) (split_here 10 line rest is.feedless ∙ ap (λ (l : List (List ℕ)). line ∷ l) more.2)
    ∙ ap (λ (b : Bool). (if b then line_is number (said line) (more.0 ∷ more.1) else Err (BadLine number))) (short_line (length line) is.short)
    ∙ ap (λ (r : Result X LineFlaw). line_is number r (more.0 ∷ more.1)) h
    ∙ ap (λ (l : List (List ℕ)). taken x number l) (sym more.2)
  where
    taken : {Y : Type 0} → Y → ℕ → List (List ℕ) → ParsedPart Y
    taken y number l = Ok (y, record { number = next_number number; left = l })

pub line_reads : {X : Type 0} (said : List ℕ → Result X LineFlaw) (line : List ℕ) (x : X) → IsLine line → said line ≡ Ok x →
    ReadsOn (line_at said) (line ++ (10 ∷ [])) x
line_reads said line x is h number rest = (
  next_number number,
  subst (λ (t : List ℕ). line_at said (at number t) ≡ Ok (x, at (next_number number) rest)) (sym (append_assoc line (10 ∷ []) rest))
      (line_here said line rest number x is h),
)

-- one part, and then another
pub then_reads : {X Y : Type 0} (said : Place → ParsedPart X) (more : X → Place → ParsedPart Y) (text next : List ℕ) (x : X) (y : Y) → ReadsOn said text x →
    ReadsOn (more x) next y
    → ReadsOn (λ p. then_read (said p) more) (text ++ next) y
then_reads {X} {Y} said more text next x y first second number rest =
    let a = first number (next ++ rest) in
    let b = second a.0 rest in
    (b.0, ap (λ (t : List ℕ). then_read (said (at number t)) more) (append_assoc text next rest) ∙ ap (λ (r : ParsedPart X). then_read r more) a.1 ∙ b.1)

several_none : {X : Type 0} (said : Place → ParsedPart X) (p : Place) → several said 0 p ≡ Ok ([], p)
unfolding several
several_none said p = refl

several_more : {X : Type 0} (said : Place → ParsedPart X) (n : ℕ) (p : Place) →
    several said (suc n) p ≡ then_read (said p) (λ x q. then_read (several said n q) (λ xs r. Ok (x ∷ xs, r)))
unfolding several
several_more said n p = refl

pub several_read : {X : Type 0} (said : Place → ParsedPart X) (text : X → List ℕ) (good : X → Type 0) → ((x : X) → good x → ReadsOn said (text x) x)
    → (xs : List X) → AllByRecursion good xs → ReadsOn (several said (length xs)) (flat_map text xs) xs
several_read said text good reads [] h number rest = (number, several_none said (at number rest))
several_read {X} said text good reads (x ∷ xs) h number rest =
    let a = reads x h.0 number (flat_map text xs ++ rest) in
    let b = several_read said text good reads xs h.1 a.0 rest in (
      b.0,
      several_more said (length xs) (at number ((text x ++ flat_map text xs) ++ rest))
          ∙ ap (λ (t : List ℕ). then_read (said (at number t)) (onto (length xs))) (append_assoc (text x) (flat_map text xs) rest)
          ∙ ap (λ (r : ParsedPart X). then_read r (onto (length xs))) a.1
          ∙ ap (λ (r : ParsedPart (List X)). then_read r (λ ys q. Ok (x ∷ ys, q))) b.1,
    ) where
      onto : ℕ → X → Place → ParsedPart (List X)
      onto n x q = then_read (several said n q) (λ ys r. Ok (x ∷ ys, r))

-- ---- a motion

-- a motion that lines can have
pub record IsSpelledEntry (e : Entry) : Type 0 where
  pub entry : IsEntry e
  pub steps : has_steps e ≡ true

held_pieces : (ps : List Piece) → list_all good_piece ps ≡ true → list_all (λ (p : Piece). are_steps p.bounds.low && are_steps p.bounds.high) ps ≡ true →
    AllByRecursion IsHeld ps
held_pieces [] good steps = tt
held_pieces (p ∷ ps) good steps =
    let g = and_parts (good_piece p) (list_all good_piece ps) good in
    let s = and_parts (are_steps p.bounds.low && are_steps p.bounds.high) _ steps in
    (record { good = g.0; steps = s.0 }, held_pieces ps g.1 s.1)

piece_reads_on : (p : Piece) → IsHeld p → ReadsOn (line_at parsed_piece) (piece_line p) p
piece_reads_on p h = subst (λ (t : List ℕ). ReadsOn (line_at parsed_piece) t p) (sym (piece_line_is p))
    (line_reads parsed_piece (piece_text p) p (piece_is_line p h) (piece_reads p h))

motion_reads_on : (i n : ℕ) → i ≤ INDEX_LIMIT → 1 ≤ n → n ≤ PIECE_LIMIT → ReadsOn (line_at parsed_motion) (motion_line i n) (record { index = i; pieces = n })
motion_reads_on i n hi some hn =
    subst (λ (t : List ℕ). ReadsOn (line_at parsed_motion) t (record { index = i; pieces = n })) (sym (motion_line_is i n))
    (line_reads parsed_motion (motion_text i n) (record { index = i; pieces = n }) (motion_is_line i n hi hn) (motion_reads i n hi some hn))

-- what follows a motion's line
pieces_behind : MotionLine → Place → ParsedPart Entry
pieces_behind m q = then_read (several (line_at parsed_piece) m.pieces q) (λ pieces r. Ok (record { index = m.index; pieces = pieces }, r))

entry_is : (p : Place) → entry_at p ≡ then_read (line_at parsed_motion p) pieces_behind
unfolding entry_at pieces_behind
entry_is p = refl

pieces_read_on : (i : ℕ) (ps : List Piece) → AllByRecursion IsHeld ps
    → ReadsOn (pieces_behind (record { index = i; pieces = length ps })) (flat_map piece_line ps) (record { index = i; pieces = ps })
unfolding pieces_behind
pieces_read_on i ps h number rest =
    let a = several_read (line_at parsed_piece) piece_line IsHeld piece_reads_on ps h number rest in
    (a.0, ap (λ (r : ParsedPart (List Piece)). then_read r (λ pieces q. Ok (record { index = i; pieces = pieces }, q))) a.1)

pub entry_reads_on : (e : Entry) → IsSpelledEntry e → ReadsOn entry_at (entry_lines e) e
entry_reads_on e h number rest =
    let a = then_reads (line_at parsed_motion) pieces_behind (motion_line e.index (length e.pieces)) (flat_map piece_line e.pieces)
    (record { index = e.index; pieces = length e.pieces }) e
    (motion_reads_on e.index (length e.pieces) h.entry.index h.entry.some h.entry.count)
    (pieces_read_on e.index e.pieces (held_pieces e.pieces h.entry.pieces h.steps)) number rest in
    (a.0, entry_is (at number (entry_lines e ++ rest)) ∙ a.1)

-- ---- a setting

spelled_entries : (es : List Entry) → All IsEntry es → list_all has_steps es ≡ true → AllByRecursion IsSpelledEntry es
spelled_entries [] all steps = tt
spelled_entries (e ∷ es) all steps =
    let s = and_parts (has_steps e) (list_all has_steps es) steps in
    (record { entry = All-head IsEntry e es all; steps = s.0 }, spelled_entries es (All-tail IsEntry e es all) s.1)

motions_after : ℕ → Place → ParsedPart (List Entry)
motions_after n q = several entry_at n q

setting_is : (name : List ℕ) (p : Place) → setting_at name p ≡ then_read (line_at (parsed_setting name) p) motions_after
unfolding setting_at motions_after
setting_is name p = refl

motions_read_on : (es : List Entry) → AllByRecursion IsSpelledEntry es → ReadsOn (motions_after (length es)) (flat_map entry_lines es) es
unfolding motions_after
motions_read_on es h = several_read entry_at entry_lines IsSpelledEntry entry_reads_on es h

pub setting_reads_on : (name : List ℕ) (es : List Entry) → IsName name → AreEntries es → list_all has_steps es ≡ true →
    ReadsOn (setting_at name) (setting_lines name es) es
setting_reads_on name es is are steps number rest =
    let a = then_reads (line_at (parsed_setting name)) motions_after (setting_text name (length es) ++ (10 ∷ [])) (flat_map entry_lines es) (length es) es
    (line_reads (parsed_setting name) (setting_text name (length es)) (length es) (setting_is_line name (length es) is are.count)
    (setting_reads name (length es) is are.count))
    (motions_read_on es (spelled_entries es are.each steps)) number rest in (
      a.0,
      setting_is name (at number (setting_lines name es ++ rest))
          ∙ ap (λ (t : List ℕ). then_read (line_at (parsed_setting name) (at number (t ++ flat_map entry_lines es ++ rest))) motions_after)
          (setting_line_is name (length es)) ∙ a.1,
    )

-- ---- the whole text

abbrev pub version_text : Version → List ℕ
version_text One = codes "ngc-certificate 1"
version_text Two = codes "ngc-certificate 2"

version_feedless : (v : Version) → lacks 10 (version_text v) ≡ true
version_feedless One = refl
version_feedless Two = refl

version_reads : (v : Version) → parsed_version (version_text v) ≡ Ok v
unfolding parsed_version
version_reads One = refl
version_reads Two = refl

header_here : (v : Version) (rest : List ℕ) → header_in (lines_of (version_text v ++ (10 ∷ rest))) ≡ Ok (v, at 2 rest)
header_here v rest =
    let more = some_lines rest in
    ap header_in (split_here 10 (version_text v) rest (version_feedless v) ∙ ap (λ (l : List (List ℕ)). version_text v ∷ l) more.2)
    ∙ ap (λ (r : Result Version LineFlaw). version_is r (more.0 ∷ more.1)) (version_reads v)
    ∙ ap (λ (l : List (List ℕ)). taken v l) (sym more.2)
  where
    taken : Version → List (List ℕ) → ParsedPart Version
    taken v l = Ok (v, record { number = 2; left = l })

off_name : IsName (codes "off")
off_name = record { whole = refl; feedless = refl; short = omega arith }

on_name : IsName (codes "on")
on_name = record { whole = refl; feedless = refl; short = omega arith }

end_behind : List Entry → List Entry → Place → ParsedPart CertificateData
end_behind off on r = then_read (line_at parsed_end r) (λ _ s. Ok (record { off = off; on = on }, s))

on_behind : List Entry → Place → ParsedPart CertificateData
on_behind off q = then_read (setting_at (codes "on") q) (end_behind off)

settings_are : (p : Place) → settings_at p ≡ then_read (setting_at (codes "off") p) on_behind
unfolding settings_at on_behind end_behind
settings_are p = refl

end_read_on : (off on : List Entry) → ReadsOn (end_behind off on) (codes "end" ++ (10 ∷ [])) (record { off = off; on = on })
unfolding end_behind
end_read_on off on number rest =
    let a = line_reads parsed_end (codes "end") tt end_is_line end_reads number rest in
    (a.0, ap (λ (r : ParsedPart (Unit {0})). then_read r (λ _ s. Ok (record { off = off; on = on }, s))) a.1)

on_read_on : (off on : List Entry) → AreEntries on → list_all has_steps on ≡ true →
    ReadsOn (on_behind off) (setting_lines (codes "on") on ++ codes "end\n") (record { off = off; on = on })
unfolding on_behind
on_read_on off on are steps =
    then_reads (setting_at (codes "on")) (end_behind off) (setting_lines (codes "on") on) (codes "end\n") on (record { off = off; on = on })
    (setting_reads_on (codes "on") on on_name are steps) (end_read_on off on)

-- the text after the first line
abbrev body : CertificateData → List ℕ
body c = setting_lines (codes "off") c.off ++ (setting_lines (codes "on") c.on ++ codes "end\n")

body_reads_on : (c : CertificateData) → IsCertificate c → HasSteps c → ReadsOn settings_at (body c) c
body_reads_on c is steps number rest =
    let a = then_reads (setting_at (codes "off")) on_behind (setting_lines (codes "off") c.off) (setting_lines (codes "on") c.on ++ codes "end\n") c.off c
    (setting_reads_on (codes "off") c.off off_name is.off steps.off) (on_read_on c.off c.on is.on steps.on) number rest in
    (a.0, settings_are (at number (body c ++ rest)) ∙ a.1)

spelling_is : (c : CertificateData) → version_1_text c ≡ codes "ngc-certificate 1" ++ (10 ∷ body c)
spelling_is c = flat (codes "ngc-certificate 1\n") (setting_lines (codes "off") c.off) (setting_lines (codes "on") c.on) (codes "end\n") where
  flat : (h a b e : List ℕ) → h ++ a ++ b ++ e ≡ h ++ (a ++ (b ++ e))
  flat h a b e = simp append_assoc

-- a text with the first line of a version, and a form after it
read_whole : (v : Version) (text rest : List ℕ) (f : Form) → text ≡ version_text v ++ (10 ∷ rest) → ReadsOn (form_at v) rest f → parsed_form text ≡ Ok f
unfolding parsed_form
read_whole v text rest f is reads =
    let a = reads 2 [] in
    ap (λ (t : List ℕ). ended (then_read (header_in (lines_of t)) form_at)) is
    ∙ ap (λ (r : ParsedPart Version). ended (then_read r form_at)) (header_here v rest)
    ∙ ap (λ (t : List ℕ). ended (form_at v (at 2 t))) (sym (append-nil rest))
    ∙ ap ended a.1

parted_back : (c : CertificateData) → IsCertificate c → HasSteps c → parsed_form (version_1_text c) ≡ Ok (Parted c)
parted_back c is steps = read_whole One (version_1_text c) (body c) (Parted c) (spelling_is c) (λ number rest.
    let a = body_reads_on c is steps number rest in
    (a.0, ap (λ (r : ParsedPart CertificateData). parsed_with Parted r) a.1))

-- ---- version 2

-- an entry that lines can have
record IsSpelledItem (x : Item) : Type 0 where
  item : IsItem x
  steps : item_steps x ≡ true

item_taken : (left : RemainingEntries) (x : Item) → IsItem x → may_still_follow left x.indices ≡ true → IsTaken left x.indices (length x.pieces)
item_taken left x is may = record { may = may; indices = is.indices; some = is.some; few = is.count }

entry_reads_at : (left : RemainingEntries) (x : Item) → IsItem x → may_still_follow left x.indices ≡ true
    → ReadsOn (line_at (parsed_entry left)) (item_line x.indices (length x.pieces)) (record { indices = x.indices; pieces = length x.pieces })
entry_reads_at left x is may =
    subst (λ (t : List ℕ). ReadsOn (line_at (parsed_entry left)) t (record { indices = x.indices; pieces = length x.pieces }))
    (sym (item_line_is x.indices (length x.pieces)))
    (line_reads (parsed_entry left) (entry_text x.indices (length x.pieces)) (record { indices = x.indices; pieces = length x.pieces })
    (entry_is_line x.indices (length x.pieces) is.indices is.count)
    (entry_reads left x.indices (length x.pieces) (item_taken left x is may)))

item_pieces_read : (i : Indices) (ps : List Piece) → AllByRecursion IsHeld ps
    → ReadsOn (entry_pieces (record { indices = i; pieces = length ps })) (flat_map piece_line ps) (record { indices = i; pieces = ps })
unfolding entry_pieces
item_pieces_read i ps h number rest =
    let a = several_read (line_at parsed_piece) piece_line IsHeld piece_reads_on ps h number rest in
    (a.0, ap (λ (r : ParsedPart (List Piece)). then_read r (λ pieces q. Ok (record { indices = i; pieces = pieces }, q))) a.1)

item_reads_on : (left : RemainingEntries) (x : Item) → IsSpelledItem x → may_still_follow left x.indices ≡ true → ReadsOn (item_at left) (item_lines x) x
item_reads_on left x h may number rest =
    let a = then_reads (line_at (parsed_entry left)) entry_pieces (item_line x.indices (length x.pieces)) (flat_map piece_line x.pieces)
    (record { indices = x.indices; pieces = length x.pieces }) x
    (entry_reads_at left x h.item may) (item_pieces_read x.indices x.pieces (held_pieces x.pieces h.item.pieces h.steps)) number rest in
    (a.0, item_is left (at number (item_lines x ++ rest)) ∙ a.1)

-- as many motions remain as these entries have, and they may be next
record AreLeft (left : RemainingEntries) (xs : List Item) : Type 0 where
  off : left.off ≡ length ((expansion xs).off)
  on : left.on ≡ length ((expansion xs).on)
  order : in_order left.after_on xs ≡ true

record IsFirst (left : RemainingEntries) (i : Indices) (xs : List Item) : Type 0 where
  may : may_still_follow left i ≡ true
  afterwards : AreLeft (remaining_after left i) xs

above_zero : (m n : ℕ) → m ≡ suc n → nat_lt 0 m ≡ true
above_zero m n e = grind (arith, nat_tests)

first_of_left : (left : RemainingEntries) (i : Indices) (ps : List Piece) (xs : List Item) → AreLeft left (record { indices = i; pieces = ps } ∷ xs) →
    IsFirst left i xs
first_of_left left (of.Both i j) ps xs are = record {
  may = and_from _ _ (above_zero left.off (length ((expansion xs).off)) are.off) (above_zero left.on (length ((expansion xs).on)) are.on);
  afterwards = record { off = omega (arith, are.off); on = omega (arith, are.on); order = are.order };
}
first_of_left left (of.Off i) ps xs are =
    let p = and_parts (not left.after_on) (in_order false xs) are.order in
    record {
      may = and_from _ _ (above_zero left.off (length ((expansion xs).off)) are.off) p.0;
      afterwards = record { off = omega (arith, are.off); on = are.on; order = p.1 };
    }
first_of_left left (of.On j) ps xs are = record {
  may = above_zero left.on (length ((expansion xs).on)) are.on;
  afterwards = record { off = are.off; on = omega (arith, are.on); order = are.order };
}

entries_behind : ℕ → RemainingEntries → Item → Place → ParsedPart (List Item)
entries_behind n left x q = then_read (items_at n (remaining_after left x.indices) q) (λ xs r. Ok (x ∷ xs, r))

more_are : (n : ℕ) (left : RemainingEntries) (p : Place) → 1 ≤ total left → items_at (suc n) left p ≡ then_read (item_at left p) (entries_behind n left)
unfolding entries_behind
more_are n left p h = more_items n left p h

behind_reads : (n : ℕ) (left : RemainingEntries) (x : Item) (xs : List Item) → ReadsOn (items_at n (remaining_after left x.indices)) (flat_map item_lines xs) xs →
    ReadsOn (entries_behind n left x) (flat_map item_lines xs) (x ∷ xs)
unfolding entries_behind
behind_reads n left x xs h number rest = let a = h number rest in (a.0, ap (λ (r : ParsedPart (List Item)). then_read r (λ ys q. Ok (x ∷ ys, q))) a.1)

items_read_on : (n : ℕ) (left : RemainingEntries) (xs : List Item) → AllByRecursion IsSpelledItem xs → AreLeft left xs → total left ≤ n →
    ReadsOn (items_at n left) (flat_map item_lines xs) xs
items_read_on n left [] h are few number rest = (number, items_none n left (at number rest) (no_more left (omega (arith, are.off, are.on))))
items_read_on zero left (x ∷ xs) h are few number rest =
    let first = first_of_left left x.indices x.pieces xs are in
    absurd (omega (arith, few, one_fewer left x.indices first.may))
items_read_on (suc n) left (x ∷ xs) h are few number rest =
    let first = first_of_left left x.indices x.pieces xs are in
    let one = one_fewer left x.indices first.may in
    let a = then_reads (item_at left) (entries_behind n left) (item_lines x) (flat_map item_lines xs) x (x ∷ xs)
    (item_reads_on left x h.0 first.may)
    (behind_reads n left x xs (items_read_on n (remaining_after left x.indices) xs h.1 first.afterwards (omega (arith, few, one)))) number rest in
    (a.0, more_are n left (at number (flat_map item_lines (x ∷ xs) ++ rest)) (omega (arith, one)) ∙ a.1)

spelled_items : (xs : List Item) → All IsItem xs → list_all item_steps xs ≡ true → AllByRecursion IsSpelledItem xs
spelled_items [] all steps = tt
spelled_items (x ∷ xs) all steps =
    let s = and_parts (item_steps x) (list_all item_steps xs) steps in
    (record { item = All-head IsItem x xs all; steps = s.0 }, spelled_items xs (All-tail IsItem x xs all) s.1)

end_of_items : List Item → Place → ParsedPart (List Item)
end_of_items items r = then_read (line_at parsed_end r) (λ _ s. Ok (items, s))

items_behind : CountsLine → Place → ParsedPart (List Item)
items_behind c q = then_read (items_at (c.off + c.on) (all_left c) q) end_of_items

joined_is : (p : Place) → joined_at p ≡ then_read (line_at parsed_counts p) items_behind
unfolding joined_at items_behind end_of_items
joined_is p = refl

end_items_read : (items : List Item) → ReadsOn (end_of_items items) (codes "end" ++ (10 ∷ [])) items
unfolding end_of_items
end_items_read items number rest =
    let a = line_reads parsed_end (codes "end") tt end_is_line end_reads number rest in
    (a.0, ap (λ (r : ParsedPart (Unit {0})). then_read r (λ _ s. Ok (items, s))) a.1)

abbrev counts_of : List Item → CountsLine
counts_of items = record { off = length ((expansion items).off); on = length ((expansion items).on) }

items_reads_end : (items : List Item) → IsJoined items → list_all item_steps items ≡ true →
    ReadsOn (items_behind (counts_of items)) (flat_map item_lines items ++ codes "end\n") items
unfolding items_behind
items_reads_end items is steps =
    let c = counts_of items in
    then_reads (items_at (c.off + c.on) (all_left c)) end_of_items (flat_map item_lines items) (codes "end\n") items items
    (items_read_on (c.off + c.on) (all_left c) items (spelled_items items is.each steps) (record { off = refl; on = refl; order = is.order }) (omega arith))
    (end_items_read items)

counts_line_is : (m n : ℕ) → codes "motions " ++ decimal m ++ codes " " ++ decimal n ++ codes "\n" ≡ counts_text m n ++ (10 ∷ [])
unfolding counts_text
counts_line_is m n = flat (codes "motions") (32 ∷ []) (decimal m) (decimal n) (10 ∷ []) where
  flat : (w s a b n : List ℕ) → w ++ s ++ a ++ s ++ b ++ n ≡ (w ++ (s ++ (a ++ (s ++ b)))) ++ n
  flat w s a b n = simp append_assoc

counts_reads_on : (m n : ℕ) → m ≤ MOTION_LIMIT → n ≤ MOTION_LIMIT →
    ReadsOn (line_at parsed_counts) (codes "motions " ++ decimal m ++ codes " " ++ decimal n ++ codes "\n") (record { off = m; on = n })
counts_reads_on m n hm hn =
    subst (λ (t : List ℕ). ReadsOn (line_at parsed_counts) t (record { off = m; on = n })) (sym (counts_line_is m n))
    (line_reads parsed_counts (counts_text m n) (record { off = m; on = n }) (counts_is_line m n hm hn) (counts_reads m n hm hn))

abbrev joined_body : List Item → List ℕ
joined_body items = counts_line (expansion items) ++ (flat_map item_lines items ++ codes "end\n")

joined_reads_on : (items : List Item) → IsJoined items → list_all item_steps items ≡ true → ReadsOn joined_at (joined_body items) items
joined_reads_on items is steps number rest =
    let a = then_reads (line_at parsed_counts) items_behind (counts_line (expansion items)) (flat_map item_lines items ++ codes "end\n") (counts_of items) items
    (counts_reads_on (length ((expansion items).off)) (length ((expansion items).on)) is.off is.on) (items_reads_end items is steps) number rest in
    (a.0, joined_is (at number (joined_body items ++ rest)) ∙ a.1)

joined_spelling_is : (items : List Item) → version_2_text items ≡ codes "ngc-certificate 2" ++ (10 ∷ joined_body items)
joined_spelling_is items = flat (codes "ngc-certificate 2\n") (counts_line (expansion items)) (flat_map item_lines items) (codes "end\n") where
  flat : (h a b e : List ℕ) → h ++ a ++ b ++ e ≡ h ++ (a ++ (b ++ e))
  flat h a b e = simp append_assoc

joined_back : (items : List Item) → IsJoined items → list_all item_steps items ≡ true → parsed_form (version_2_text items) ≡ Ok (Joined items)
joined_back items is steps = read_whole Two (version_2_text items) (joined_body items) (Joined items) (joined_spelling_is items) (λ number rest.
    let a = joined_reads_on items is steps number rest in
    (a.0, ap (λ (r : ParsedPart (List Item)). parsed_with Joined r) a.1))

pub reads_back : (f : Form) → IsForm f → parsed_form (spelling f) ≡ Ok f
reads_back (Parted c) is = parted_back c is.0 is.1
reads_back (Joined items) is = joined_back items is.0 is.1

-- ---- conversely, the text of a content is the one that was read

-- a part that has a content begins with its text
abbrev pub Spells : {X : Type 0} → (Place → ParsedPart X) → (X → List ℕ) → (X → Type 0) → Type 0
Spells {X} said text good = (p : Place) (x : X) (q : Place) → said p ≡ Ok (x, q) → (text_left p ≡ text x ++ text_left q) × good x

line_spells : {X : Type 0} (said : List ℕ → Result X LineFlaw) (text : X → List ℕ) (good : X → Type 0)
    → ((line : List ℕ) (x : X) → said line ≡ Ok x → (line ++ (10 ∷ []) ≡ text x) × good x) → Spells (line_at said) text good
line_spells said text good spelled p x q h =
    let t = line_taken said p x q h in
    let s = spelled t.line x t.says in
    (t.joined ∙ sym (append_assoc t.line (10 ∷ []) (text_left q)) ∙ ap (λ (l : List ℕ). l ++ text_left q) s.0, s.1)

abbrev SeveralSpells : {X : Type 0} → (X → List ℕ) → (X → Type 0) → ℕ → Place → List X → Place → Type 0
SeveralSpells text good n p xs q = (text_left p ≡ flat_map text xs ++ text_left q) × AllByRecursion good xs × (length xs ≡ n)

several_spells : {X : Type 0} (said : Place → ParsedPart X) (text : X → List ℕ) (good : X → Type 0) → Spells said text good
    → (n : ℕ) (p : Place) (xs : List X) (q : Place) → several said n p ≡ Ok (xs, q) → SeveralSpells text good n p xs q
several_spells {X} said text good spells zero p xs q h =
    let e : read_to [] p ≡ read_to xs q = ok_same (read_to [] p) (read_to xs q) (sym (several_none said p) ∙ h) in
    let xs_are : [] ≡ xs = ap (λ (r : List X × Place). r.0) e in
    let q_is : p ≡ q = ap (λ (r : List X × Place). r.1) e in
    subst (λ (ys : List X). SeveralSpells text good 0 p ys q) xs_are (ap text_left q_is, tt, refl)
several_spells {X} said text good spells (suc n) p xs q h =
    let a = then_ok (said p) (λ x r. then_read (several said n r) (λ ys s. Ok (x ∷ ys, s))) xs q (sym (several_more said n p) ∙ h) in
    let b = then_ok (several said n a.1) (λ ys s. Ok (a.0 ∷ ys, s)) xs q a.3 in
    let e : read_to (a.0 ∷ b.0) b.1 ≡ read_to xs q = ok_same (read_to (a.0 ∷ b.0) b.1) (read_to xs q) b.3 in
    let first = spells p a.0 a.1 a.2 in
    let more = several_spells said text good spells n a.1 b.0 b.1 b.2 in
    let all : SeveralSpells text good (suc n) p (a.0 ∷ b.0) b.1 = (
      first.0 ∙ ap (λ (l : List ℕ). text a.0 ++ l) more.0 ∙ sym (append_assoc (text a.0) (flat_map text b.0) (text_left b.1)),
      (first.1, more.1),
      omega (arith, more.2),
    ) in
    subst (λ (r : List X × Place). SeveralSpells text good (suc n) p r.0 r.1) e all

piece_spells : Spells (line_at parsed_piece) piece_line IsHeld
piece_spells = line_spells parsed_piece piece_line IsHeld
    (λ line x h. let s = piece_spelled line x h in (ap (λ (l : List ℕ). l ++ (10 ∷ [])) s.is ∙ sym (piece_line_is x), s.held))

record GoodMotion (m : MotionLine) : Type 0 where
  index : m.index ≤ INDEX_LIMIT
  some : 1 ≤ m.pieces
  few : m.pieces ≤ PIECE_LIMIT

motion_spells : Spells (line_at parsed_motion) (λ m. motion_line m.index m.pieces) GoodMotion
motion_spells = line_spells parsed_motion (λ m. motion_line m.index m.pieces) GoodMotion
    (λ line x h. let s = motion_spelled line x h in
    (ap (λ (l : List ℕ). l ++ (10 ∷ [])) s.is ∙ sym (motion_line_is x.index x.pieces), record { index = s.index; some = s.some; few = s.few }))

held_good : (ps : List Piece) → AllByRecursion IsHeld ps → list_all good_piece ps ≡ true
held_good [] h = refl
held_good (p ∷ ps) h = rw (h.0.good, held_good ps h.1) refl

held_steps : (ps : List Piece) → AllByRecursion IsHeld ps → list_all (λ (p : Piece). are_steps p.bounds.low && are_steps p.bounds.high) ps ≡ true
held_steps [] h = refl
held_steps (p ∷ ps) h = rw (h.0.steps, held_steps ps h.1) refl

entry_spells : Spells entry_at entry_lines IsSpelledEntry
unfolding pieces_behind
entry_spells p e q h =
    let a = then_ok (line_at parsed_motion p) pieces_behind e q (sym (entry_is p) ∙ h) in
    let b = then_ok (several (line_at parsed_piece) a.0.pieces a.1) (λ pieces r. Ok (record { index = a.0.index; pieces = pieces }, r)) e q a.3 in
    let same : read_to (with_pieces a.0.index b.0) b.1 ≡ read_to e q = ok_same (read_to (with_pieces a.0.index b.0) b.1) (read_to e q) b.3 in
    let first = motion_spells p a.0 a.1 a.2 in
    let more = several_spells (line_at parsed_piece) piece_line IsHeld piece_spells a.0.pieces a.1 b.0 b.1 b.2 in
    let text : text_left p ≡ entry_lines (with_pieces a.0.index b.0) ++ text_left b.1 =
    first.0 ∙ ap (λ (l : List ℕ). motion_line a.0.index a.0.pieces ++ l) more.0
    ∙ sym (append_assoc (motion_line a.0.index a.0.pieces) (flat_map piece_line b.0) (text_left b.1))
    ∙ ap (λ (n : ℕ). motion_line a.0.index n ++ flat_map piece_line b.0 ++ text_left b.1) (sym more.2) in
    let good : IsSpelledEntry (with_pieces a.0.index b.0) = record {
      entry = record {
        index = first.1.index;
        some = omega (arith, first.1.some, more.2);
        count = omega (arith, first.1.few, more.2);
        pieces = held_good b.0 more.1;
      };
      steps = held_steps b.0 more.1;
    } in
    subst (λ (r : Entry × Place). (text_left p ≡ entry_lines r.0 ++ text_left r.1) × IsSpelledEntry r.0) same (text, good) where
      with_pieces : ℕ → List Piece → Entry
      with_pieces index pieces = record { index = index; pieces = pieces }

entries_are : (es : List Entry) → AllByRecursion IsSpelledEntry es → All IsEntry es
entries_are [] h = All-nil IsEntry
entries_are (e ∷ es) h = All-cons IsEntry e es h.0.entry (entries_are es h.1)

entries_steps : (es : List Entry) → AllByRecursion IsSpelledEntry es → list_all has_steps es ≡ true
entries_steps [] h = refl
entries_steps (e ∷ es) h = rw (h.0.steps, entries_steps es h.1) refl

record GoodSetting (es : List Entry) : Type 0 where
  are : AreEntries es
  steps : list_all has_steps es ≡ true

setting_spells : (name : List ℕ) → Spells (setting_at name) (setting_lines name) GoodSetting
unfolding motions_after
setting_spells name p es q h =
    let a = then_ok (line_at (parsed_setting name) p) motions_after es q (sym (setting_is name p) ∙ h) in
    let t = line_taken (parsed_setting name) p a.0 a.1 a.2 in
    let s = setting_spelled name t.line a.0 t.says in
    let more = several_spells entry_at entry_lines IsSpelledEntry entry_spells a.0 a.1 es q a.3 in
    let line : text_left p ≡ (codes "setting " ++ name ++ codes " " ++ decimal a.0 ++ codes "\n") ++ text_left a.1 =
    t.joined ∙ sym (append_assoc t.line (10 ∷ []) (text_left a.1)) ∙ ap (λ (l : List ℕ). l ++ (10 ∷ []) ++ text_left a.1) s.0
    ∙ ap (λ (l : List ℕ). l ++ text_left a.1) (sym (setting_line_is name a.0)) in (
      line ∙ ap (λ (l : List ℕ). (codes "setting " ++ name ++ codes " " ++ decimal a.0 ++ codes "\n") ++ l) more.0
          ∙ sym (append_assoc (codes "setting " ++ name ++ codes " " ++ decimal a.0 ++ codes "\n") (flat_map entry_lines es) (text_left q))
          ∙ ap (λ (n : ℕ). codes "setting " ++ name ++ codes " " ++ decimal n ++ codes "\n" ++ flat_map entry_lines es ++ text_left q) (sym more.2),
      record { are = record { count = omega (arith, s.1, more.2); each = entries_are es more.1 }; steps = entries_steps es more.1 },
    )

record GoodCertificate (c : CertificateData) : Type 0 where
  off : GoodSetting c.off
  on : GoodSetting c.on

end_text : (p : Place) (x : Unit {0}) (q : Place) → line_at parsed_end p ≡ Ok (x, q) → text_left p ≡ codes "end\n" ++ text_left q
end_text p x q h =
    let t = line_taken parsed_end p x q h in
    t.joined ∙ ap (λ (l : List ℕ). l ++ (10 ∷ text_left q)) (end_spelled t.line x t.says)

settings_spell : (p : Place) (c : CertificateData) (q : Place) → settings_at p ≡ Ok (c, q) → (text_left p ≡ body c ++ text_left q) × GoodCertificate c
unfolding on_behind end_behind
settings_spell p c q h =
    let a = then_ok (setting_at (codes "off") p) on_behind c q (sym (settings_are p) ∙ h) in
    let b = then_ok (setting_at (codes "on") a.1) (end_behind a.0) c q a.3 in
    let d = then_ok (line_at parsed_end b.1) (λ _ s. Ok (record { off = a.0; on = b.0 }, s)) c q b.3 in
    let same : read_to (both_settings a.0 b.0) d.1 ≡ read_to c q = ok_same (read_to (both_settings a.0 b.0) d.1) (read_to c q) d.3 in
    let off = setting_spells (codes "off") p a.0 a.1 a.2 in
    let on = setting_spells (codes "on") a.1 b.0 b.1 b.2 in
    let end = end_text b.1 d.0 d.1 d.2 in
    let text : text_left p ≡ body (both_settings a.0 b.0) ++ text_left d.1 =
    off.0 ∙ ap (λ (l : List ℕ). setting_lines (codes "off") a.0 ++ l) (on.0 ∙ ap (λ (l : List ℕ). setting_lines (codes "on") b.0 ++ l) end)
    ∙ flat (setting_lines (codes "off") a.0) (setting_lines (codes "on") b.0) (codes "end\n") (text_left d.1) in
    let good : GoodCertificate (both_settings a.0 b.0) = record { off = off.1; on = on.1 } in
    subst (λ (r : CertificateData × Place). (text_left p ≡ body r.0 ++ text_left r.1) × GoodCertificate r.0) same (text, good) where
      both_settings : List Entry → List Entry → CertificateData
      both_settings off on = record { off = off; on = on }

      flat : (a b e r : List ℕ) → a ++ (b ++ (e ++ r)) ≡ a ++ (b ++ e) ++ r
      flat a b e r = simp append_assoc

-- ---- version 2

entry_line_spells : (left : RemainingEntries) (p : Place) (e : EntryLine) (q : Place) → line_at (parsed_entry left) p ≡ Ok (e, q)
    → (text_left p ≡ item_line e.indices e.pieces ++ text_left q) × IsTaken left e.indices e.pieces
entry_line_spells left p e q h =
    let t = line_taken (parsed_entry left) p e q h in
    let s = entry_spelled left t.line e t.says in (
      t.joined ∙ sym (append_assoc t.line (10 ∷ []) (text_left q)) ∙ ap (λ (l : List ℕ). l ++ (10 ∷ []) ++ text_left q) s.is
          ∙ ap (λ (l : List ℕ). l ++ text_left q) (sym (item_line_is e.indices e.pieces)),
      s.taken,
    )

abbrev ItemSpells : RemainingEntries → Place → Item → Place → Type 0
ItemSpells left p x q = (text_left p ≡ item_lines x ++ text_left q) × IsSpelledItem x × (may_still_follow left x.indices ≡ true)

item_spells : (left : RemainingEntries) (p : Place) (x : Item) (q : Place) → item_at left p ≡ Ok (x, q) → ItemSpells left p x q
unfolding entry_pieces
item_spells left p x q h =
    let a = then_ok (line_at (parsed_entry left) p) entry_pieces x q (sym (item_is left p) ∙ h) in
    let b = then_ok (several (line_at parsed_piece) a.0.pieces a.1) (λ pieces r. Ok (item_with a.0.indices pieces, r)) x q a.3 in
    let same : read_to (item_with a.0.indices b.0) b.1 ≡ read_to x q = ok_same (read_to (item_with a.0.indices b.0) b.1) (read_to x q) b.3 in
    let first = entry_line_spells left p a.0 a.1 a.2 in
    let more = several_spells (line_at parsed_piece) piece_line IsHeld piece_spells a.0.pieces a.1 b.0 b.1 b.2 in
    let text : text_left p ≡ item_lines (item_with a.0.indices b.0) ++ text_left b.1 =
    first.0 ∙ ap (λ (l : List ℕ). item_line a.0.indices a.0.pieces ++ l) more.0
    ∙ sym (append_assoc (item_line a.0.indices a.0.pieces) (flat_map piece_line b.0) (text_left b.1))
    ∙ ap (λ (n : ℕ). item_line a.0.indices n ++ flat_map piece_line b.0 ++ text_left b.1) (sym more.2) in
    let good : IsSpelledItem (item_with a.0.indices b.0) = record {
      item = record {
        indices = first.1.indices;
        some = omega (arith, first.1.some, more.2);
        count = omega (arith, first.1.few, more.2);
        pieces = held_good b.0 more.1;
      };
      steps = held_steps b.0 more.1;
    } in
    subst (λ (r : Item × Place). ItemSpells left p r.0 r.1) same (text, good, first.1.may) where
      item_with : Indices → List Piece → Item
      item_with i pieces = record { indices = i; pieces = pieces }

one_more : (m n : ℕ) → nat_lt 0 m ≡ true → m - 1 ≡ n → m ≡ suc n
one_more m n h e = grind (arith, nat_tests)

left_with : (left : RemainingEntries) (i : Indices) (ps : List Piece) (xs : List Item) → may_still_follow left i ≡ true → AreLeft (remaining_after left i) xs →
    AreLeft left (record { indices = i; pieces = ps } ∷ xs)
left_with left (of.Both i j) ps xs may are =
    let p = and_parts (nat_lt 0 left.off) (nat_lt 0 left.on) may in
    record {
      off = one_more left.off (length ((expansion xs).off)) p.0 are.off;
      on = one_more left.on (length ((expansion xs).on)) p.1 are.on;
      order = are.order;
    }
left_with left (of.Off i) ps xs may are =
    let p = and_parts (nat_lt 0 left.off) (not left.after_on) may in
    record { off = one_more left.off (length ((expansion xs).off)) p.0 are.off; on = are.on; order = and_from _ _ p.1 are.order }
left_with left (of.On j) ps xs may are =
    let some = some_on left j may in
    record { off = are.off; on = omega (arith, some, are.on); order = are.order }

abbrev ItemsSpell : RemainingEntries → Place → List Item → Place → Type 0
ItemsSpell left p xs q = (text_left p ≡ flat_map item_lines xs ++ text_left q) × AllByRecursion IsSpelledItem xs × AreLeft left xs

none_spell : (n : ℕ) (left : RemainingEntries) (p : Place) (xs : List Item) (q : Place) → total left ≡ 0 → items_at n left p ≡ Ok (xs, q) → ItemsSpell left p xs q
none_spell n left p xs q none h =
    let e : read_to [] p ≡ read_to xs q = ok_same (read_to [] p) (read_to xs q) (sym (items_none n left p (no_more left none)) ∙ h) in
    subst (λ (r : List Item × Place). ItemsSpell left p r.0 r.1) e (refl, tt, record { off = omega (arith, none); on = omega (arith, none); order = refl })

some_spell : (n m : ℕ) (left : RemainingEntries) (p : Place) (xs : List Item) (q : Place)
    → ((more : RemainingEntries) (r : Place) (ys : List Item) (s : Place) → total more ≤ n → items_at n more r ≡ Ok (ys, s) → ItemsSpell more r ys s)
    → total left ≤ suc n → total left ≡ m → items_at (suc n) left p ≡ Ok (xs, q) → ItemsSpell left p xs q
some_spell n zero left p xs q spells few e h = none_spell (suc n) left p xs q e h
some_spell n (suc m) left p xs q spells few e h =
    let a = then_ok (item_at left p) (λ x r. then_read (items_at n (remaining_after left x.indices) r) (λ ys s. Ok (x ∷ ys, s))) xs q
    (sym (more_items n left p (omega (arith, e))) ∙ h) in
    let b = then_ok (items_at n (remaining_after left a.0.indices) a.1) (λ ys s. Ok (a.0 ∷ ys, s)) xs q a.3 in
    let same : read_to (a.0 ∷ b.0) b.1 ≡ read_to xs q = ok_same (read_to (a.0 ∷ b.0) b.1) (read_to xs q) b.3 in
    let first = item_spells left p a.0 a.1 a.2 in
    let one = one_fewer left a.0.indices first.2 in
    let more = spells (remaining_after left a.0.indices) a.1 b.0 b.1 (omega (arith, few, one)) b.2 in
    let all : ItemsSpell left p (a.0 ∷ b.0) b.1 = (
      first.0 ∙ ap (λ (l : List ℕ). item_lines a.0 ++ l) more.0 ∙ sym (append_assoc (item_lines a.0) (flat_map item_lines b.0) (text_left b.1)),
      (first.1, more.1),
      left_with left a.0.indices a.0.pieces b.0 first.2 more.2,
    ) in
    subst (λ (r : List Item × Place). ItemsSpell left p r.0 r.1) same all

items_spell : (n : ℕ) (left : RemainingEntries) (p : Place) (xs : List Item) (q : Place) → total left ≤ n → items_at n left p ≡ Ok (xs, q) → ItemsSpell left p xs q
items_spell zero left p xs q few h = none_spell 0 left p xs q (omega (arith, few)) h
items_spell (suc n) left p xs q few h = some_spell n (total left) left p xs q (λ more r ys s k e. items_spell n more r ys s k e) few refl h

items_are : (xs : List Item) → AllByRecursion IsSpelledItem xs → All IsItem xs
items_are [] h = All-nil IsItem
items_are (x ∷ xs) h = All-cons IsItem x xs h.0.item (items_are xs h.1)

items_steps : (xs : List Item) → AllByRecursion IsSpelledItem xs → list_all item_steps xs ≡ true
items_steps [] h = refl
items_steps (x ∷ xs) h = rw (h.0.steps, items_steps xs h.1) refl

joined_spell : (p : Place) (items : List Item) (q : Place) → joined_at p ≡ Ok (items, q) →
    (text_left p ≡ joined_body items ++ text_left q) × IsForm (Joined items)
unfolding items_behind end_of_items
joined_spell p items q h =
    let a = then_ok (line_at parsed_counts p) items_behind items q (sym (joined_is p) ∙ h) in
    let b = then_ok (items_at (a.0.off + a.0.on) (all_left a.0) a.1) end_of_items items q a.3 in
    let d = then_ok (line_at parsed_end b.1) (λ _ s. Ok (b.0, s)) items q b.3 in
    let same : read_to b.0 d.1 ≡ read_to items q = ok_same (read_to b.0 d.1) (read_to items q) d.3 in
    let t = line_taken parsed_counts p a.0 a.1 a.2 in
    let c = counts_spelled t.line a.0 t.says in
    let more = items_spell (a.0.off + a.0.on) (all_left a.0) a.1 b.0 b.1 (omega arith) b.2 in
    let end = end_text b.1 d.0 d.1 d.2 in
    let line : text_left p ≡ counts_at a.0.off a.0.on ++ text_left a.1 =
    t.joined ∙ sym (append_assoc t.line (10 ∷ []) (text_left a.1)) ∙ ap (λ (l : List ℕ). l ++ (10 ∷ []) ++ text_left a.1) c.is
    ∙ ap (λ (l : List ℕ). l ++ text_left a.1) (sym (counts_line_is a.0.off a.0.on)) in
    let text : text_left p ≡ joined_body b.0 ++ text_left d.1 =
    line ∙ ap (λ (n : ℕ). counts_at n a.0.on ++ text_left a.1) more.2.off
    ∙ ap (λ (n : ℕ). counts_at (length ((expansion b.0).off)) n ++ text_left a.1) more.2.on
    ∙ ap (λ (l : List ℕ). counts_line (expansion b.0) ++ l) (more.0 ∙ ap (λ (l : List ℕ). flat_map item_lines b.0 ++ l) end)
    ∙ flat (counts_line (expansion b.0)) (flat_map item_lines b.0) (codes "end\n") (text_left d.1) in
    let is : IsJoined b.0 =
    record { off = omega (arith, more.2.off, c.off); on = omega (arith, more.2.on, c.on); each = items_are b.0 more.1; order = more.2.order } in
    subst (λ (r : List Item × Place). (text_left p ≡ joined_body r.0 ++ text_left r.1) × IsForm (Joined r.0)) same (text, (is, items_steps b.0 more.1)) where
      counts_at : ℕ → ℕ → List ℕ
      counts_at m n = codes "motions " ++ decimal m ++ codes " " ++ decimal n ++ codes "\n"

      flat : (a b e r : List ℕ) → a ++ (b ++ (e ++ r)) ≡ a ++ (b ++ e) ++ r
      flat a b e r = simp append_assoc

-- ---- the whole text

version_if : (line : List ℕ) (v : Version) (c d : Bool) → bytes_eq line (codes "ngc-certificate 1") ≡ c → bytes_eq line (codes "ngc-certificate 2") ≡ d
    → (if c then Ok One else if d then Ok Two else Err Spelling) ≡ Ok v → line ≡ version_text v
version_if line v true d e f h = let is : One ≡ v = cc h in bytes_same line (codes "ngc-certificate 1") e ∙ ap version_text is
version_if line v false true e f h = let is : Two ≡ v = cc h in bytes_same line (codes "ngc-certificate 2") f ∙ ap version_text is
version_if line v false false e f h = absurd (cc h)

version_spelled : (line : List ℕ) (v : Version) → parsed_version line ≡ Ok v → line ≡ version_text v
unfolding parsed_version
version_spelled line v h = version_if line v (bytes_eq line (codes "ngc-certificate 1")) (bytes_eq line (codes "ngc-certificate 2")) refl refl h

header_by : (line next : List ℕ) (left : List (List ℕ)) (v : Version) (p : Place) (r : Result Version LineFlaw) → parsed_version line ≡ r →
    version_is r (next ∷ left) ≡ said_ok (v, p)
    → join_with_byte 10 (line ∷ next ∷ left) ≡ version_text v ++ (10 ∷ text_left p)
header_by line next left v p (Ok w) e h =
    let same : read_to w (record { number = 2; left = next ∷ left }) ≡ read_to v p =
    ok_same (read_to w (record { number = 2; left = next ∷ left })) (read_to v p) h in
    ap (λ (l : List ℕ). l ++ (10 ∷ join_with_byte 10 (next ∷ left))) (version_spelled line w e)
    ∙ ap (λ (r : Version × Place). version_text r.0 ++ (10 ∷ text_left r.1)) same
header_by line next left v p (Err flaw) e h = absurd (cc h)

header_text : (lines : List (List ℕ)) (v : Version) (p : Place) → header_in lines ≡ Ok (v, p) → join_with_byte 10 lines ≡ version_text v ++ (10 ∷ text_left p)
header_text [] v p h = absurd (cc h)
header_text (last ∷ []) v p h = absurd (cc h)
header_text (line ∷ next ∷ left) v p h = header_by line next left v p (parsed_version line) refl h

ended_if : (r : Form × Place) (f : Form) (b : Bool) → nothing_in r.1.left ≡ b → (if b then Ok r.0 else Err (BadLine r.1.number)) ≡ Ok f
    → (nothing_in r.1.left ≡ true) × (r.0 ≡ f)
ended_if r f true e h = (e, cc h)
ended_if r f false e h = absurd (cc h)

ended_ok : (s : ParsedPart Form) (f : Form) → ended s ≡ Ok f → (q : Place) × (s ≡ Ok (f, q)) × (nothing_in q.left ≡ true)
ended_ok (Ok r) f h = let e = ended_if r f (nothing_in r.1.left) refl h in (r.1, ap (λ (d : Form). said_ok (d, r.1)) e.1, e.0)
ended_ok (Err fault) f h = absurd (cc h)

nothing_left : (lines : List (List ℕ)) → nothing_in lines ≡ true → join_with_byte 10 lines ≡ []
nothing_left [] h = refl
nothing_left ([] ∷ []) h = refl
nothing_left ((b ∷ bs) ∷ []) h = absurd (cc h)
nothing_left ([] ∷ y ∷ ys) h = absurd (cc h)
nothing_left ((b ∷ bs) ∷ y ∷ ys) h = absurd (cc h)

abbrev body_of : Form → List ℕ
body_of (Parted c) = body c
body_of (Joined items) = joined_body items

abbrev version_of : Form → Version
version_of (Parted c) = One
version_of (Joined items) = Two

-- what follows the first line
record FormSpells (v : Version) (p : Place) (f : Form) (q : Place) : Type 0 where
  version : v ≡ version_of f
  text : text_left p ≡ body_of f ++ text_left q
  good : IsForm f

form_spells : (v : Version) (p : Place) (f : Form) (q : Place) → form_at v p ≡ Ok (f, q) → FormSpells v p f q
form_spells One p f q h =
    let a = then_ok (settings_at p) (λ c r. Ok (Parted c, r)) f q h in
    let same : read_to (Parted a.0) a.1 ≡ read_to f q = ok_same (read_to (Parted a.0) a.1) (read_to f q) a.3 in
    let s = settings_spell p a.0 a.1 a.2 in
    subst (λ (r : Form × Place). FormSpells One p r.0 r.1) same
    (record { version = refl; text = s.0; good = (record { off = s.1.off.are; on = s.1.on.are }, record { off = s.1.off.steps; on = s.1.on.steps }) })
form_spells Two p f q h =
    let a = then_ok (joined_at p) (λ xs r. Ok (Joined xs, r)) f q h in
    let same : read_to (Joined a.0) a.1 ≡ read_to f q = ok_same (read_to (Joined a.0) a.1) (read_to f q) a.3 in
    let s = joined_spell p a.0 a.1 a.2 in
    subst (λ (r : Form × Place). FormSpells Two p r.0 r.1) same (record { version = refl; text = s.0; good = s.1 })

whole_spelling : (f : Form) → spelling f ≡ version_text (version_of f) ++ (10 ∷ body_of f)
whole_spelling (Parted c) = spelling_is c
whole_spelling (Joined items) = joined_spelling_is items

pub spelled_only : (text : List ℕ) (f : Form) → parsed_form text ≡ Ok f → IsForm f × (text ≡ spelling f)
unfolding parsed_form
spelled_only text f h =
    let e = ended_ok (then_read (header_in (lines_of text)) form_at) f h in
    let a = then_ok (header_in (lines_of text)) form_at f e.0 e.1 in
    let first = header_text (lines_of text) a.0 a.1 a.2 in
    let rest = form_spells a.0 a.1 f e.0 a.3 in (
      rest.good,
      sym (joined_split 10 text) ∙ first ∙ ap (λ (l : List ℕ). version_text a.0 ++ (10 ∷ l)) rest.text
          ∙ ap (λ (l : List ℕ). version_text a.0 ++ (10 ∷ (body_of f ++ l))) (nothing_left e.0.left e.2)
          ∙ ap (λ (l : List ℕ). version_text a.0 ++ (10 ∷ l)) (append-nil (body_of f))
          ∙ ap (λ (v : Version). version_text v ++ (10 ∷ body_of f)) rest.version ∙ sym (whole_spelling f),
    )

pub one_writing : IsOneWriting
one_writing text f = (spelled_only text f, λ h. subst (λ (t : List ℕ). parsed_form t ≡ Ok f) (sym h.1) (reads_back f h.0))
