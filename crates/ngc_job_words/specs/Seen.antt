-- What was read of the words so far: parts of the code.
use Rattle.std.specs.Prelude.{ℕ, List, [], ◌∷◌, ◌++◌, length, map, codes, Option, Some, None}
use Rattle.std.specs.Prelude.{Bool, true, false, not, ◌&&◌, if◌then◌else◌}
use Rattle.std.specs.Str.{bytes_eq}
use Rattle.ngc_job_words.specs.Asked.{is_one}
use Rattle.ngc_job_words.specs.Commands.{Text, has_program}
use Rattle.ngc_job_words.specs.Places.{before, is_file, is_value, file_at, kept_at, named_at, plain_at}
use Rattle.ngc_job_words.specs.Words.{has, is_plain, takes_value, value_in}
use Rattle.ngc_job_words.specs.declared.call.Next.{Next}
use Rattle.ngc_job_words.specs.declared.call.Next.TheVariants as nexts
use Rattle.ngc_job_words.specs.declared.call.Seen.{Seen}
use Rattle.ngc_job_words.specs.declared.command.Family.{Family}

pub record Words : Type 0 where
  pub words : List Text
  pub named : List Text
  pub plain : List Text
  pub files : List Text
  pub next : Next

abbrev pub kept : Words → Text → Next → Words
kept w word next = record w { words = w.words ++ word ∷ []; named = w.named ++ word ∷ []; next = next }

abbrev pub with_plain : Words → Text → Words
with_plain w word =
    record {
      words = w.words ++ word ∷ [];
      named = w.named ++ codes "--program" ∷ word ∷ [];
      plain = w.plain ++ word ∷ [];
      files = w.files;
      next = nexts.Any;
    }

abbrev pub with_file : Words → Text → Words
with_file w file = record w { files = w.files ++ file ∷ []; next = nexts.Any }

abbrev pub next_after : Text → Next
next_after word = if takes_value word then nexts.Value else nexts.Any

abbrev pub with_other : Words → Text → Option Text → Words
with_other w word (Some file) = with_file w file
with_other w word None = if is_plain word then with_plain w word else kept w word (next_after word)

-- with a word that isn't the value of the one before it
abbrev pub with_any : Words → Text → Words
with_any w word =
    if bytes_eq word (codes "--job") then record w { next = nexts.File }
    else with_other w word (value_in (codes "--job") word)

abbrev pub with_next : Next → Words → Text → Words
with_next nexts.Any w word = with_any w word
with_next nexts.Value w word = kept w word nexts.Any
with_next nexts.File w word = with_file w word

abbrev pub with_word : Words → Text → Words
with_word w word = with_next w.next w word

abbrev pub begun : Text → Words
begun command =
    record { words = command ∷ []; named = command ∷ []; plain = []; files = []; next = nexts.Any }

-- what the word at this place is
abbrev pub next_at : List Text → ℕ → Next
next_at rest n =
    if is_file rest n then nexts.File else (if is_value rest n then nexts.Value else nexts.Any)

-- the command, and the words before this place
abbrev pub seen_before : Text → List Text → ℕ → Words
seen_before command rest n =
    record {
      words = command ∷ before (kept_at rest) n;
      named = command ∷ before (named_at rest) n;
      plain = before (plain_at rest) n;
      files = before (file_at rest) n;
      next = next_at rest n;
    }

-- the command and all words after it
abbrev pub seen_of : Text → List Text → Words
seen_of command rest = seen_before command rest (length rest)

abbrev pub is_program : Family → Words → Bool
is_program family w = has_program family && is_one w.plain && not (has (codes "--program") w.words)

abbrev pub words_asked : Family → Words → List Text
words_asked family w = if is_program family w then w.named else w.words

-- the file of --job is still to come
abbrev pub wants_file : Next → Bool
wants_file nexts.File = true
wants_file _ = false

abbrev pub words_in : Seen → Words
words_in s =
    record {
      words = map (λ w. w.now) s.words.items;
      named = map (λ w. w.now) s.named.items;
      plain = map (λ w. w.now) s.plain.items;
      files = map (λ w. w.now) s.files.items;
      next = s.next;
    }
