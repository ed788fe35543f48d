-- The content of a line is the result of the text.
use Rattle.std.proofs.Common.{◌≡◌, ℕ, zero, suc, ◌+◌, ◌-◌, ◌*◌, ◌≤◌, ap, subst, Bool, true, false, Result, Ok, Err, List, [], ◌∷◌, length, refl, sym, ◌∙◌}
use Rattle.std.proofs.Common.{arith}
use Rattle.std.specs.Prelude.{nat_le, nat_lt, not, ◌&&◌, ◌==◌, IfOk}
use Rattle.std.proofs.lemmas.Bool.{and_parts}
use Rattle.std.proofs.lemmas.Bool.Decides.{nat_tests}
use Rattle.ngc_certificate_text.specs.declared.expected.Expected.{Expected}
use Rattle.ngc_certificate_text.specs.declared.expected.Expected.TheVariants as next
use Rattle.ngc_certificate_text.specs.declared.expected.BegunMotion.{BegunMotion}
use Rattle.ngc_certificate_text.specs.declared.fault.CertificateFault.{CertificateFault}
use Rattle.ngc_certificate_text.specs.declared.lines.LineFlaw.{LineFlaw}
use Rattle.ngc_certificate_text.specs.declared.lines.LineFlaw.TheVariants.{Spelling}
use Rattle.ngc_certificate_text.specs.declared.expected.RemainingEntries.{RemainingEntries}
use Rattle.ngc_certificate_text.specs.declared.expected.Indices.{Indices}
use Rattle.ngc_certificate_text.specs.declared.expected.Indices.TheVariants as of
use Rattle.ngc_certificate_text.specs.declared.expected.RemainingMotions.{RemainingMotions}
use Rattle.ngc_certificate_text.specs.declared.expected.RemainingMotions.TheVariants.{Parted, Joined}
use Rattle.ngc_certificate_text.specs.declared.lines.CountsLine.{CountsLine}
use Rattle.ngc_certificate_text.specs.declared.lines.EntryLine.{EntryLine}
use Rattle.ngc_certificate_text.specs.declared.piece.Piece.{Piece}
use Rattle.ngc_certificate_text.specs.declared.piece.Setting.{Setting}
use Rattle.ngc_certificate_text.specs.declared.piece.Setting.TheVariants.{Off, On}
use Rattle.ngc_certificate_text.specs.declared.line_content.LineContent.{LineContent}
use Rattle.ngc_certificate_text.specs.declared.line_content.LineContent.TheVariants as content_kind
use Rattle.ngc_certificate_text.specs.declared.line_content.Version.{Version}
use Rattle.ngc_certificate_text.specs.declared.line_content.Version.TheVariants.{One, Two}
use Rattle.ngc_certificate_text.specs.Ahead.{Rest, Left, left_from, made_with, name_of, index_at, of_version, next_of_entries, next_of_motions, motions_after}
use Rattle.ngc_certificate_text.specs.Ahead.{HaveSome, go_on, is_open, wrong_line, IsSound, lines_ahead, lines_of_motions}
use Rattle.ngc_certificate_text.specs.Certificate.{INDEX_LIMIT}
use Rattle.ngc_certificate_text.specs.EntryLines.{parsed_version, parsed_counts, none_left, may_still_follow, remaining_after, all_left}
use Rattle.ngc_certificate_text.specs.Joined.{good_indices}
use Rattle.ngc_certificate_text.specs.Lines.{parsed_setting, parsed_motion, parsed_piece, parsed_end}
use Rattle.ngc_certificate_text.specs.ParsedPart.{next_number, fault_at}
use Rattle.ngc_certificate_text.specs.LineContent.{onto, Fits, IsFront, after_version, after_piece, after_content, left_at, taken_at, IsNext, content_with, counts_content}
use Rattle.ngc_certificate_text.specs.LineContent.{parsed_motion_or_entry, motion_content, content_by, fault_of}
use Rattle.ngc_certificate_text.proofs.LinesAhead.{begun, of_parted, header_ended, two_left, nothing_said, setting_flawed, counts_flawed, motion_flawed}
use Rattle.ngc_certificate_text.proofs.LinesAhead.{closed_said, piece_flawed, end_flawed, header_read, header_wrong, setting_read, counts_read, motion_read, piece_read}
use Rattle.ngc_certificate_text.proofs.LinesAhead.{last_read, end_read, left_fits, left_none}
use Rattle.ngc_certificate_text.proofs.RemainingEntryLaws.{total, entry_spelled, counts_spelled, least, some_on}
use Rattle.ngc_certificate_text.proofs.SpelledLines.{setting_spelled, motion_spelled, piece_spelled}

-- ---- a correct line

told_ok : {X : Type 0} (f : X → LineContent) (r : Result X LineFlaw) (line_content : LineContent) → content_with f r ≡ Ok line_content → (x : X) × (r ≡ Ok x) × (line_content ≡ f x)
told_ok f (Ok x) line_content h = (x, refl, sym (cc h))
told_ok f (Err flaw) line_content h = absurd (cc h)

told_err : {X : Type 0} (f : X → LineContent) (r : Result X LineFlaw) (flaw : LineFlaw) → content_with f r ≡ Err flaw → r ≡ Err flaw
told_err {X} f (Ok x) flaw h = absurd (cc h)
told_err {X} f (Err other) flaw h = let same : other ≡ flaw = cc h in ap (λ (l : LineFlaw). flawed l) same where
  flawed : LineFlaw → Result X LineFlaw
  flawed l = Err l

-- a line's text in front of the rest
front : (line_content : LineContent) (before after : Left) → before ≡ made_with (onto line_content) after → IfOk after (λ r. Fits line_content r) → IsFront line_content before after
front line_content before (Ok r) e fits = (e, fits)
front line_content before (Err fault) e fits = e

front_same : (line_content : LineContent) (before after : Left) → before ≡ after → ((r : Rest) → onto line_content r ≡ r) → IfOk after (λ r. Fits line_content r) → IsFront line_content before after
front_same line_content before (Ok r) e same fits = (e ∙ ap (λ (x : Rest). all_left x) (sym (same r)), fits) where
  all_left : Rest → Left
  all_left x = Ok x
front_same line_content before (Err fault) e same fits = e

always : {X : Type 0} {P : X → Type 0} (r : Result X CertificateFault) → ((x : X) → P x) → IfOk r P
always (Ok x) h = h x
always (Err fault) h = tt

mapped : {X : Type 0} {P Q : X → Type 0} (r : Result X CertificateFault) → ((x : X) → P x → Q x) → IfOk r P → IfOk r Q
mapped (Ok x) f h = f x h
mapped (Err fault) f h = tt

-- one piece of a motion
piece_ahead : (b : BegunMotion) (last : Bool) (number : ℕ) (lines : List (List ℕ)) → 1 ≤ b.pieces_left → nat_le b.pieces_left 1 ≡ last
    → left_from (next.Piece (record b { pieces_left = b.pieces_left - 1 })) number lines ≡ left_from (after_piece last b) number lines
piece_ahead b true number lines some e =
    let none : b.pieces_left - 1 ≡ 0 = grind (arith, nat_tests) in
    last_read [] [] lines number (record b { pieces_left = b.pieces_left - 1 }) none
piece_ahead b false number lines some e = refl

-- if the rest of the text after a line has a fault, the text from that line on has it
stopped : (line_content : LineContent) (before after : Left) (fault : CertificateFault) → IsFront line_content before after → after ≡ Err fault → before ≡ Err fault
stopped line_content before (Ok r) fault front e = absurd (cc e)
stopped line_content before (Err other) fault front e = front ∙ e

module _ (number : ℕ) (line after : List ℕ) (left : List (List ℕ)) (short : length line ≤ 256) where
  piece_front : (b : BegunMotion) (p : Piece) → 1 ≤ b.pieces_left → parsed_piece line ≡ Ok p
      → IsFront (content_kind.Piece b p) (left_from (next.Piece b) number (line ∷ after ∷ left))
      (left_from (after_content (content_kind.Piece b p)) (next_number number) (after ∷ left))
  piece_front b p some e =
      let one = record b { pieces_left = b.pieces_left - 1 } in
      let same = piece_ahead b (nat_le b.pieces_left 1) (next_number number) (after ∷ left) some refl in
      let P : Left → Type 0 = λ l. IsFront (content_kind.Piece b p) (left_from (next.Piece b) number (line ∷ after ∷ left)) l in
      subst P same
      (front (content_kind.Piece b p) (left_from (next.Piece b) number (line ∷ after ∷ left)) (left_from (next.Piece one) (next_number number) (after ∷ left))
      (piece_read line after left number b p some short e)
      (mapped (left_from (next.Piece one) (next_number number) (after ∷ left)) (λ r h. omega (arith, h, some))
      (left_fits one (next_number number) (after ∷ left))))

  motion_front : (m : RemainingMotions) (e : EntryLine) → HaveSome m → parsed_motion_or_entry m line ≡ Ok e
      → IsFront (motion_content m e) (left_from (next.Motion m) number (line ∷ after ∷ left))
      (left_from (after_content (motion_content m e)) (next_number number) (after ∷ left))
  motion_front m e some h =
      front (motion_content m e) (left_from (next.Motion m) number (line ∷ after ∷ left)) (left_from (next.Piece (begun m e)) (next_number number) (after ∷ left))
      (motion_read line after left number m e some short h) (left_fits (begun m e) (next_number number) (after ∷ left))

  setting_front : (s : Setting) (n : ℕ) → parsed_setting (name_of s) line ≡ Ok n
      → IsFront (content_kind.Setting s n) (left_from (next.Setting s) number (line ∷ after ∷ left))
      (left_from (after_content (content_kind.Setting s n)) (next_number number) (after ∷ left))
  setting_front s n e =
      front_same (content_kind.Setting s n) (left_from (next.Setting s) number (line ∷ after ∷ left))
      (left_from (next_of_motions (Parted s n)) (next_number number) (after ∷ left))
      (setting_read line after left number s n short e) (λ r. refl)
      (always (left_from (next_of_motions (Parted s n)) (next_number number) (after ∷ left)) (λ r. tt))

  counts_front : (c : CountsLine) → parsed_counts line ≡ Ok c
      → IsFront (counts_content c) (left_from next.Counts number (line ∷ after ∷ left))
      (left_from (after_content (counts_content c)) (next_number number) (after ∷ left))
  counts_front c e =
      front_same (counts_content c) (left_from next.Counts number (line ∷ after ∷ left))
      (left_from (next_of_motions (Joined (all_left c))) (next_number number) (after ∷ left))
      (counts_read line after left number c short e) (λ r. refl)
      (always (left_from (next_of_motions (Joined (all_left c))) (next_number number) (after ∷ left)) (λ r. tt))

  end_front : parsed_end line ≡ Ok tt →
      IsFront content_kind.End (left_from next.End number (line ∷ after ∷ left)) (left_from next.Nothing (next_number number) (after ∷ left))
  end_front e =
      front_same content_kind.End (left_from next.End number (line ∷ after ∷ left)) (left_from next.Nothing (next_number number) (after ∷ left))
      (end_read line after left number short e) (λ r. refl) (left_none (next_number number) (after ∷ left))

  header_front : number ≡ 1 → (v : Version) → parsed_version line ≡ Ok v
      → IsFront (content_kind.Header v) (left_from next.Header number (line ∷ after ∷ left)) (left_from (after_version v) (next_number number) (after ∷ left))
  header_front first v h =
      let two : 2 ≡ next_number number = ap next_number (sym first) in
      front (content_kind.Header v) (left_from next.Header number (line ∷ after ∷ left)) (left_from (after_version v) (next_number number) (after ∷ left))
      (header_read line after left number v h ∙ ap (made_with (of_version v))
      (header_ended v 2 (after ∷ left) ∙ ap (λ (n : ℕ). left_from (after_version v) n (after ∷ left)) two))
      (always (left_from (after_version v) (next_number number) (after ∷ left)) (λ r. tt))

  -- a line that is read
  pub told_front : (e : Expected) (line_content : LineContent) → IsSound e number → content_by e line ≡ Ok line_content
      → IsFront line_content (left_from e number (line ∷ after ∷ left)) (left_from (after_content line_content) (next_number number) (after ∷ left))
  told_front next.Header line_content sound h =
      let r = told_ok content_kind.Header (parsed_version line) line_content h in
      let P : LineContent → Type 0 = λ t. IsFront t (left_from next.Header number (line ∷ after ∷ left))
      (left_from (after_content t) (next_number number) (after ∷ left)) in
      subst P (sym r.2) (header_front (sound.first refl) r.0 r.1)
  told_front (next.Setting s) line_content sound h =
      let r = told_ok (content_kind.Setting s) (parsed_setting (name_of s) line) line_content h in
      let P : LineContent → Type 0 = λ t. IsFront t (left_from (next.Setting s) number (line ∷ after ∷ left))
      (left_from (after_content t) (next_number number) (after ∷ left)) in
      subst P (sym r.2) (setting_front s r.0 r.1)
  told_front next.Counts line_content sound h =
      let r = told_ok counts_content (parsed_counts line) line_content h in
      let P : LineContent → Type 0 = λ t. IsFront t (left_from next.Counts number (line ∷ after ∷ left))
      (left_from (after_content t) (next_number number) (after ∷ left)) in
      subst P (sym r.2) (counts_front r.0 r.1)
  told_front (next.Motion m) line_content sound h =
      let r = told_ok (motion_content m) (parsed_motion_or_entry m line) line_content h in
      let P : LineContent → Type 0 = λ t. IsFront t (left_from (next.Motion m) number (line ∷ after ∷ left))
      (left_from (after_content t) (next_number number) (after ∷ left)) in
      subst P (sym r.2) (motion_front m r.0 (sound.motion m refl) r.1)
  told_front (next.Piece b) line_content sound h =
      let r = told_ok (content_kind.Piece b) (parsed_piece line) line_content h in
      let P : LineContent → Type 0 = λ t. IsFront t (left_from (next.Piece b) number (line ∷ after ∷ left))
      (left_from (after_content t) (next_number number) (after ∷ left)) in
      subst P (sym r.2) (piece_front b r.0 (sound.piece b refl) r.1)
  told_front next.End line_content sound h =
      let r = told_ok (λ (x : Unit {0}). content_kind.End) (parsed_end line) line_content h in
      let P : LineContent → Type 0 = λ t. IsFront t (left_from next.End number (line ∷ after ∷ left))
      (left_from (after_content t) (next_number number) (after ∷ left)) in
      subst P (sym r.2) (end_front r.1)
  told_front next.Nothing line_content sound h = absurd (cc h)

  -- a line that is refused
  pub told_refused : (e : Expected) (flaw : LineFlaw) → IsSound e number → content_by e line ≡ Err flaw →
      left_from e number (line ∷ after ∷ left) ≡ Err (fault_of e number flaw)
  told_refused next.Header flaw sound h = header_wrong line after left number flaw (told_err content_kind.Header (parsed_version line) flaw h)
  told_refused (next.Setting s) flaw sound h =
      setting_flawed number line after left flaw short s (told_err (content_kind.Setting s) (parsed_setting (name_of s) line) flaw h)
  told_refused next.Counts flaw sound h = counts_flawed number line after left flaw short (told_err counts_content (parsed_counts line) flaw h)
  told_refused (next.Motion m) flaw sound h =
      motion_flawed number line after left flaw short m (sound.motion m refl) (told_err (motion_content m) (parsed_motion_or_entry m line) flaw h)
  told_refused (next.Piece b) flaw sound h =
      piece_flawed number line after left flaw short b (sound.piece b refl) (told_err (content_kind.Piece b) (parsed_piece line) flaw h)
  told_refused next.End flaw sound h = end_flawed number line after left flaw short (told_err (λ (x : Unit {0}). content_kind.End) (parsed_end line) flaw h)
  told_refused next.Nothing flaw sound h =
      let is : Spelling ≡ flaw = cc h in
      nothing_said next.Nothing number (line ∷ after ∷ left) refl (two_left line after left) ∙ ap (λ (l : LineFlaw). refused (fault_at number l)) is where
        refused : CertificateFault → Left
        refused fault = Err fault

  -- a line after which none may follow
  pub told_closed : (e : Expected) (line_content : LineContent) → IsSound e number → content_by e line ≡ Ok line_content → is_open (after_content line_content) ≡ false →
      left_from e number (line ∷ after ∷ left) ≡ Err (wrong_line (after_content line_content) (next_number number))
  told_closed e line_content sound h closed = stopped line_content
      (left_from e number (line ∷ after ∷ left)) (left_from (after_content line_content) (next_number number) (after ∷ left))
      (wrong_line (after_content line_content) (next_number number)) (told_front e line_content sound h)
      (closed_said (after_content line_content) (next_number number) (after ∷ left) closed)

-- ---- what is expected

-- the motion of a setting is one of the remaining ones
counted_parted : (s : Setting) (n index : ℕ) (t : Setting) → 1 ≤ n → left_at (Parted s n) t ≡ left_at (Parted s (n - 1)) t + taken_at (index_at s index) t
counted_parted Off n index Off some = omega (arith, some)
counted_parted Off n index On some = omega arith
counted_parted On n index Off some = omega arith
counted_parted On n index On some = omega (arith, some)

counted_joined : (left : RemainingEntries) (i : Indices) (t : Setting) → may_still_follow left i ≡ true →
    left_at (Joined left) t ≡ left_at (Joined (remaining_after left i)) t + taken_at i t
counted_joined left (of.Both i j) Off h = let p = and_parts (nat_lt 0 left.off) (nat_lt 0 left.on) h in grind (arith, nat_tests, p.0)
counted_joined left (of.Both i j) On h = let p = and_parts (nat_lt 0 left.off) (nat_lt 0 left.on) h in grind (arith, nat_tests, p.1)
counted_joined left (of.Off i) Off h = let p = and_parts (nat_lt 0 left.off) (not left.after_on) h in grind (arith, nat_tests, p.0)
counted_joined left (of.Off i) On h = omega arith
counted_joined left (of.On j) Off h = omega arith
counted_joined left (of.On j) On h = let some = some_on left j h in omega (arith, some)

good_index : (s : Setting) (i : ℕ) → i ≤ INDEX_LIMIT → good_indices (index_at s i) ≡ true
good_index Off i h = least i INDEX_LIMIT h
good_index On i h = least i INDEX_LIMIT h

motion_next : (m : RemainingMotions) (line : List ℕ) (e : EntryLine) → HaveSome m → parsed_motion_or_entry m line ≡ Ok e → IsNext (next.Motion m) (motion_content m e)
motion_next (Parted s n) line e some h =
    let r = of_parted s (parsed_motion line) e h in
    let spelled = motion_spelled line r.0 r.1 in
    let P : EntryLine → Type 0 = λ x. IsNext (next.Motion (Parted s n)) (motion_content (Parted s n) x) in
    subst P r.2 (record {
      left = Parted s n;
      expected = refl;
      afterwards = refl;
      counted = λ t. counted_parted s n r.0.index t some;
      indices = good_index s r.0.index spelled.index;
      some = spelled.some;
      few = spelled.few;
    })
motion_next (Joined left) line e some h =
    let spelled = entry_spelled left line e h in
    record {
      left = Joined left;
      expected = refl;
      afterwards = refl;
      counted = λ t. counted_joined left e.indices t spelled.taken.may;
      indices = spelled.taken.indices;
      some = spelled.taken.some;
      few = spelled.taken.few;
    }

pub told_next : (e : Expected) (number : ℕ) (line : List ℕ) (line_content : LineContent) → IsSound e number → content_by e line ≡ Ok line_content → IsNext e line_content
told_next next.Header number line line_content sound h =
    let r = told_ok content_kind.Header (parsed_version line) line_content h in
    let P : LineContent → Type 0 = λ t. IsNext next.Header t in
    subst P (sym r.2) refl
told_next (next.Setting s) number line line_content sound h =
    let r = told_ok (content_kind.Setting s) (parsed_setting (name_of s) line) line_content h in
    let P : LineContent → Type 0 = λ t. IsNext (next.Setting s) t in
    subst P (sym r.2) (refl, (setting_spelled (name_of s) line r.0 r.1).1)
told_next next.Counts number line line_content sound h =
    let r = told_ok counts_content (parsed_counts line) line_content h in
    let spelled = counts_spelled line r.0 r.1 in
    let P : LineContent → Type 0 = λ t. IsNext next.Counts t in
    subst P (sym r.2) (refl, spelled.off, spelled.on)
told_next (next.Motion m) number line line_content sound h =
    let r = told_ok (motion_content m) (parsed_motion_or_entry m line) line_content h in
    let P : LineContent → Type 0 = λ t. IsNext (next.Motion m) t in
    subst P (sym r.2) (motion_next m line r.0 (sound.motion m refl) r.1)
told_next (next.Piece b) number line line_content sound h =
    let r = told_ok (content_kind.Piece b) (parsed_piece line) line_content h in
    let P : LineContent → Type 0 = λ t. IsNext (next.Piece b) t in
    subst P (sym r.2) (refl, (piece_spelled line r.0 r.1).held.good)
told_next next.End number line line_content sound h =
    let r = told_ok (λ (x : Unit {0}). content_kind.End) (parsed_end line) line_content h in
    let P : LineContent → Type 0 = λ t. IsNext next.End t in
    subst P (sym r.2) refl
told_next next.Nothing number line line_content sound h = absurd (cc h)

-- ---- the next line is sound

entries_some : (left : RemainingEntries) → none_left left ≡ false → 1 ≤ total left
entries_some left h = some_of left.off left.on h where
  some_of : (m n : ℕ) → ((m == 0) && (n == 0)) ≡ false → 1 ≤ m + n
  some_of zero zero h = absurd (cc h)
  some_of zero (suc n) h = omega arith
  some_of (suc m) n h = omega arith

motion_sound : (m : RemainingMotions) (number : ℕ) → HaveSome m → go_on m ≡ true → IsSound (next.Motion m) number
motion_sound m number some going = record {
  first = λ e. absurd (cc e);
  motion = λ k e. let same : m ≡ k = cc e in subst HaveSome same some;
  piece = λ b e. absurd (cc e);
  going = going;
}

-- if the next line is neither the first line nor a motion nor a piece
other_sound : (e : Expected) (number : ℕ) → (e ≡ next.Header → ⊥) → ((m : RemainingMotions) → e ≡ next.Motion m → ⊥) →
    ((b : BegunMotion) → e ≡ next.Piece b → ⊥) → is_open e ≡ true
    → IsSound e number
other_sound e number no_header no_motion no_piece going = record {
  first = λ x. absurd (no_header x);
  motion = λ m x. absurd (no_motion m x);
  piece = λ b x. absurd (no_piece b x);
  going = going;
}

end_sound : (number : ℕ) → IsSound next.End number
end_sound number = other_sound next.End number (λ x. cc x) (λ m x. cc x) (λ b x. cc x) refl

setting_sound : (s : Setting) (number : ℕ) → IsSound (next.Setting s) number
setting_sound s number = other_sound (next.Setting s) number (λ x. cc x) (λ m x. cc x) (λ b x. cc x) refl

entries_sound : (b : Bool) (left : RemainingEntries) (number : ℕ) → none_left left ≡ b → is_open (next_of_entries b left) ≡ true →
    IsSound (next_of_entries b left) number
entries_sound true left number e going = end_sound number
entries_sound false left number e going = motion_sound (Joined left) number (entries_some left e) going

motions_sound : (m : RemainingMotions) (number : ℕ) → is_open (next_of_motions m) ≡ true → IsSound (next_of_motions m) number
motions_sound (Parted Off zero) number going = setting_sound On number
motions_sound (Parted On zero) number going = end_sound number
motions_sound (Parted s (suc n)) number going = motion_sound (Parted s (suc n)) number (omega arith) refl
motions_sound (Joined left) number going = entries_sound (none_left left) left number refl going

version_sound : (v : Version) (number : ℕ) → IsSound (after_version v) number
version_sound One number = setting_sound Off number
version_sound Two number = other_sound next.Counts number (λ x. cc x) (λ m x. cc x) (λ b x. cc x) refl

piece_sound : (b : BegunMotion) (number : ℕ) → 1 ≤ b.pieces_left → IsSound (next.Piece b) number
piece_sound b number some = record {
  first = λ e. absurd (cc e);
  motion = λ k e. absurd (cc e);
  piece = λ d e. let same : b ≡ d = cc e in subst (λ (x : BegunMotion). 1 ≤ x.pieces_left) same some;
  going = refl;
}

behind_sound : (b : BegunMotion) (last : Bool) (number : ℕ) → nat_le b.pieces_left 1 ≡ last → is_open (after_piece last b) ≡ true →
    IsSound (after_piece last b) number
behind_sound b true number e going = motions_sound b.afterwards number going
behind_sound b false number e going = let more : 1 ≤ b.pieces_left - 1 = grind (arith, nat_tests) in
    piece_sound (record b { pieces_left = b.pieces_left - 1 }) number more

pub told_sound : (e : Expected) (line_content : LineContent) (number : ℕ) → IsNext e line_content → is_open (after_content line_content) ≡ true → IsSound (after_content line_content) number
told_sound e (content_kind.Header v) number h going = version_sound v number
told_sound e (content_kind.Setting s n) number h going = motions_sound (Parted s n) number going
told_sound e (content_kind.Counts off on) number h going = motions_sound (Joined (record { off = off; on = on; after_on = false })) number going
told_sound e (content_kind.Motion b) number h going = piece_sound b number h.some
told_sound e (content_kind.Piece b p) number h going = behind_sound b (nat_le b.pieces_left 1) number refl going
told_sound e content_kind.End number h going = other_sound next.Nothing number (λ x. cc x) (λ m x. cc x) (λ b x. cc x) refl

-- ---- fewer lines may follow

entries_lines : (b : Bool) (left : RemainingEntries) → lines_ahead (next_of_entries b left) ≤ lines_of_motions (Joined left)
entries_lines true left = omega arith
entries_lines false left = omega arith

motions_lines : (m : RemainingMotions) → lines_ahead (next_of_motions m) ≤ lines_of_motions m
motions_lines (Parted Off zero) = omega arith
motions_lines (Parted On zero) = omega arith
motions_lines (Parted s (suc n)) = omega arith
motions_lines (Joined left) = entries_lines (none_left left) left

piece_lines : (b : BegunMotion) (last : Bool) → nat_le b.pieces_left 1 ≡ last → 1 ≤ b.pieces_left →
    lines_ahead (after_piece last b) + 1 ≤ lines_ahead (next.Piece b)
piece_lines b true e some = omega (arith, motions_lines b.afterwards, some)
piece_lines b false e some = omega (arith, some)

one_taken : (i : Indices) → 1 ≤ taken_at i Off + taken_at i On
one_taken (of.Both i j) = omega arith
one_taken (of.Off i) = omega arith
one_taken (of.On j) = omega arith

-- a motion's lines are among those that may follow
fewer_lines : (m : RemainingMotions) (i : Indices) → HaveSome m → ((s : Setting) → left_at m s ≡ left_at (motions_after m i) s + taken_at i s)
    → lines_of_motions (motions_after m i) + 65536 ≤ lines_of_motions m
fewer_lines (Parted s n) i some counted = omega (arith, some)
fewer_lines (Joined left) i some counted =
    let off = counted Off in
    let on = counted On in
    let one = one_taken i in
    by_counts left.off left.on (remaining_after left i).off (remaining_after left i).on (taken_at i Off) (taken_at i On) off on one where
      by_counts : (m n a b c d : ℕ) → m ≡ a + c → n ≡ b + d → 1 ≤ c + d → 65536 * (a + b) + 2 + 65536 ≤ 65536 * (m + n) + 2
      by_counts m n a b c d e f one = omega (arith, e, f, one)

version_lines : (v : Version) → lines_ahead (after_version v) + 1 ≤ lines_ahead next.Header
version_lines One = omega arith
version_lines Two = omega arith

pub told_lines : (e : Expected) (line_content : LineContent) (number : ℕ) → IsSound e number → IsNext e line_content → lines_ahead (after_content line_content) + 1 ≤ lines_ahead e
told_lines e (content_kind.Header v) number sound h = let old = ap lines_ahead h in omega (arith, old, version_lines v)
told_lines e (content_kind.Setting s n) number sound h = let old = ap lines_ahead h.0 in omega (arith, old, motions_lines (Parted s n), h.1)
told_lines e (content_kind.Counts off on) number sound h =
    let old = ap lines_ahead h.0 in
    omega (arith, old, motions_lines (Joined (record { off = off; on = on; after_on = false })), h.1, h.2)
told_lines e (content_kind.Motion b) number sound h =
    let old = ap lines_ahead h.expected in
    let same = ap lines_of_motions h.afterwards in
    let some = sound.motion h.left h.expected in
    omega (
      arith,
      old,
      h.few,
      same,
      fewer_lines h.left b.indices some (λ s. h.counted s ∙ ap (λ (m : RemainingMotions). left_at m s + taken_at b.indices s) h.afterwards),
    )
told_lines e (content_kind.Piece b p) number sound h =
    let old = ap lines_ahead h.0 in
    omega (arith, old, piece_lines b (nat_le b.pieces_left 1) refl (sound.piece b h.0))
told_lines e content_kind.End number sound h = let old = ap lines_ahead h in omega (arith, old)
