-- From line to line of a program.
use Rattle.std.proofs.Common.{◌≡◌, ℕ, ◌+◌, ◌≤◌, List, [], ◌∷◌, ◌++◌, length, drop, Bool, true, false, Result, Ok, refl, ap, ap₂, sym, ◌∙◌}
use Rattle.std.proofs.Math.ListN.{drop_of_length-le}
use Rattle.std.proofs.lemmas.List.{append_assoc, append-nil}
use Rattle.std.specs.Prelude.{◌&&◌}
use Rattle.ngc_line_reader.specs.Grammar.{Reading}
use Rattle.ngc_line_reader.specs.Program.{Line}
use Rattle.ngc_canonical.proofs.Lines.{NextLine}
use Rattle.ngc_canonical.specs.Meaning.{NumberedLine, after_line, remaining, with_readings}
use Rattle.ngc_canonical.specs.State.{Setup, State}
use Rattle.ngc_canonical.specs.declared.fault.ProgramFault.{ProgramFault}
use Rattle.ngc_frames.specs.Changes.{change_at, changes_from, frame_of, go_on, then_changes}
use Rattle.ngc_frames.specs.declared.change.FrameChange.{FrameChange}
use Rattle.ngc_frames.specs.declared.frame.Frame.{Frame}
use Rattle.ngc_frames.proofs.SameFrame.{same_frame}

-- a line that changes nothing adds no change
no_change : (number : ℕ) (s : State) (rest : State → List FrameChange) → s.ended ≡ false → rest s ≡ then_changes number s (Ok s) rest
no_change number s rest running = rw (same_frame (frame_of s), running) refl

-- a line that block delete takes out changes nothing, another leads to the lines after it
step : (setup : Setup) (block_delete : Bool) (number : ℕ) (r : Reading) (rest : List NumberedLine) (s : State) → s.ended ≡ false
    → changes_from setup (remaining block_delete (record { number = number; reading = r } ∷ rest)) s
    ≡ then_changes number s (after_line setup block_delete number r s) (λ t. changes_from setup (remaining block_delete rest) t)
unfolding changes_from
step setup block_delete number r rest s running = by_test (block_delete && r.deleted) refl where
  by_test : (b : Bool) → (block_delete && r.deleted) ≡ b
      → changes_from setup (remaining block_delete (record { number = number; reading = r } ∷ rest)) s
      ≡ then_changes number s (after_line setup block_delete number r s) (λ t. changes_from setup (remaining block_delete rest) t)
  by_test true e = rw e (no_change number s (λ t. changes_from setup (remaining block_delete rest) t) running)
  by_test false e = rw e refl

-- the changes from a line on
abbrev pub left : Setup → Bool → List Line → List Reading → ℕ → State → List FrameChange
left setup block_delete lines rs i s = changes_from setup (remaining block_delete (with_readings (drop i lines) (drop i rs))) s

module _ (setup : Setup) (block_delete : Bool) (lines : List Line) (rs : List Reading) (i number : ℕ) (bytes : List ℕ) (s : State) where
  left_step : s.ended ≡ false → (next : NextLine lines rs i number bytes)
      → left setup block_delete lines rs i s
      ≡ then_changes number s (after_line setup block_delete number next.reading s) (λ t. left setup block_delete lines rs (i + 1) t)
  left_step running next =
      ap (λ (l : List NumberedLine). changes_from setup (remaining block_delete l) s) next.afterwards
      ∙ step setup block_delete number next.reading (with_readings (drop (i + 1) lines) (drop (i + 1) rs)) s running

  left_done : (t : State) (b : Bool) → s.ended ≡ false → (next : NextLine lines rs i number bytes)
      → after_line setup block_delete number next.reading s ≡ Ok t → t.ended ≡ b
      → left setup block_delete lines rs i s
      ≡ change_at number (length s.commands) (frame_of s) (frame_of t) ++ go_on b t (λ u. left setup block_delete lines rs (i + 1) u)
  left_done t b running next done e =
      left_step running next
      ∙ ap (λ (x : Result State ProgramFault). then_changes number s x (λ u. left setup block_delete lines rs (i + 1) u)) done
      ∙ ap (λ (x : Bool). change_at number (length s.commands) (frame_of s) (frame_of t) ++ go_on x t (λ u. left setup block_delete lines rs (i + 1) u)) e

  pub left_ended : (t : State) → s.ended ≡ false → (next : NextLine lines rs i number bytes)
      → after_line setup block_delete number next.reading s ≡ Ok t → t.ended ≡ true
      → left setup block_delete lines rs i s ≡ change_at number (length s.commands) (frame_of s) (frame_of t)
  left_ended t running next done e = left_done t true running next done e ∙ append-nil (change_at number (length s.commands) (frame_of s) (frame_of t))

  pub left_on : (t : State) → s.ended ≡ false → (next : NextLine lines rs i number bytes)
      → after_line setup block_delete number next.reading s ≡ Ok t → t.ended ≡ false
      → left setup block_delete lines rs i s ≡ change_at number (length s.commands) (frame_of s) (frame_of t) ++ left setup block_delete lines rs (i + 1) t
  left_on t running next done e = left_done t false running next done e

-- the change that is added is that of the line
added : (s t : State) (before after : Frame) (number n count : ℕ) (old new : List FrameChange) → before ≡ frame_of s → after ≡ frame_of t → number ≡ n
    → count ≡ length s.commands
    → new ≡ old ++ change_at n count before after → new ≡ old ++ change_at number (length s.commands) (frame_of s) (frame_of t)
added s t before after number n count old new is_before is_after is_number is_count is =
    is
    ∙ ap₂ (λ (k l : ℕ). old ++ change_at k l before after) (sym is_number) is_count
    ∙ ap₂ (λ (f g : Frame). old ++ change_at number (length s.commands) f g) is_before is_after

module _ (setup : Setup) (block_delete : Bool) (lines : List Line) (rs : List Reading) (i number : ℕ) (bytes : List ℕ) (s t : State) (before after : Frame) (n count : ℕ)
    (old new : List FrameChange) where
  pub goes_on : s.ended ≡ false → (next : NextLine lines rs i number bytes) → after_line setup block_delete number next.reading s ≡ Ok t → t.ended ≡ false
      → before ≡ frame_of s → after ≡ frame_of t → number ≡ n → count ≡ length s.commands → new ≡ old ++ change_at n count before after
      → new ++ left setup block_delete lines rs (i + 1) t ≡ old ++ left setup block_delete lines rs i s
  goes_on running next done e is_before is_after is_number is_count is =
      ap (λ (l : List FrameChange). l ++ left setup block_delete lines rs (i + 1) t) (added s t before after number n count old new is_before is_after is_number is_count is)
      ∙ append_assoc old (change_at number (length s.commands) (frame_of s) (frame_of t)) (left setup block_delete lines rs (i + 1) t)
      ∙ ap (λ (l : List FrameChange). old ++ l) (sym (left_on setup block_delete lines rs i number bytes s t running next done e))

  pub stops : s.ended ≡ false → (next : NextLine lines rs i number bytes) → after_line setup block_delete number next.reading s ≡ Ok t → t.ended ≡ true
      → before ≡ frame_of s → after ≡ frame_of t → number ≡ n → count ≡ length s.commands → new ≡ old ++ change_at n count before after
      → new ≡ old ++ left setup block_delete lines rs i s
  stops running next done e is_before is_after is_number is_count is =
      added s t before after number n count old new is_before is_after is_number is_count is
      ∙ ap (λ (l : List FrameChange). old ++ l) (sym (left_ended setup block_delete lines rs i number bytes s t running next done e))

-- no lines remain
pub none_left : (rest old total : List FrameChange) → rest ≡ [] → old ++ rest ≡ total → old ≡ total
none_left rest old total none leads = sym (append-nil old) ∙ ap (λ (l : List FrameChange). old ++ l) (sym none) ∙ leads

no_lines : (lines : List Line) (rs : List Reading) → lines ≡ [] → with_readings lines rs ≡ []
no_lines lines rs e = ap (λ (l : List Line). with_readings l rs) e

pub left_none : (setup : Setup) (block_delete : Bool) (lines : List Line) (rs : List Reading) (i : ℕ) (s : State) → length lines ≤ i →
    left setup block_delete lines rs i s ≡ []
unfolding changes_from
left_none setup block_delete lines rs i s h =
    ap (λ (l : List NumberedLine). changes_from setup (remaining block_delete l) s) (no_lines (drop i lines) (drop i rs) (drop_of_length-le lines h))
