-- A file in memory can always be read.
use Rattle.std.proofs.Common.{◌≡◌, ℕ, List, [], ◌∷◌, Option, Some, None, Result, Ok, Err, IfErr, MatchOption, inl, inr, refl, arith}
use Rattle.ngc_text.specs.Failures.{Rises}
use Rattle.ngc_text.specs.declared.input_fault.InputFault.{InputFault}
use Rattle.ngc_text.specs.declared.input_fault.InputFault.TheVariants as inputs
use Rattle.ngc_inputs.specs.Setups.{FileBytes}
use Rattle.ngc_inputs.specs.Unread.{FailsByInput, Input, Kind, OfCertificate, OfEvents, OfMachine, OfProgram, OfSource, OfTools, SourceFails}
use Rattle.ngc_inputs.specs.Unread.{ReportsFirstUnread, ReportsKindUnread, ReportsUnread, unread_by}
use Rattle.ngc_simulator.specs.declared.done.Done.{Done}
use Rattle.ngc_inputs.specs.declared.fault.AnswerFault.{AnswerFault}
use Rattle.ngc_saved_files.specs.Files.{source_failures}
use Rattle.ngc_saved_files.specs.declared.source.SavedSource.{SavedSource}
use Rattle.ngc_saved_files.specs.declared.source.SavedSource.TheVariants as sources
use Rattle.ngc_page.specs.Answered.{ReportsUnreadable}

-- a count that stays 0 doesn't rise
never_rises : (old new : ℕ) → old ≡ 0 → new ≡ 0 → Rises old new → ⊥
never_rises old new is_none stays (inl h) = absurd (omega arith)
never_rises old new is_none stays (inr h) = absurd (omega arith)

module _ (fails : Option (List ℕ) → Type 0) (never : (known : Option (List ℕ)) → fails known → ⊥) where
  pub unread : (known : Option (List ℕ)) → ReportsUnread fails known 0 0 inputs.Device → ⊥
  unread known (inl rises) = never_rises 0 0 refl refl rises
  unread known (inr h) = never known h.1

  unread_kind : (kind : Kind) (known : Option (List ℕ)) → ReportsKindUnread fails kind known 0 0 inputs.Device → ⊥
  unread_kind OfMachine known h = unread known h
  unread_kind OfTools known h = unread known h
  unread_kind OfProgram known h = unread known h
  unread_kind OfCertificate known h = unread known h
  unread_kind OfEvents known h = unread known h
  unread_kind OfSource known h = unread known h

  unread_first : (bytes : FileBytes) (files : List Input) → ReportsFirstUnread fails bytes files 0 0 inputs.Device → ⊥
  unread_first bytes [] h = h
  unread_first bytes (input ∷ more) (inl here) = unread_kind input.kind (bytes input.name) here
  unread_first bytes (input ∷ more) (inr later) = unread_first bytes more later.1

  told : (bytes : FileBytes) (files : List Input) (fault : Option InputFault) → MatchOption fault (◌≡◌ {A = ℕ} 0 0) (ReportsFirstUnread fails bytes files 0 0) →
      ReportsUnreadable fault → ⊥
  told bytes files None h says = says
  told bytes files (Some inputs.Device) h says = unread_first bytes files h
  told bytes files (Some inputs.Memory) h says = says
  told bytes files (Some inputs.TooLong) h says = says

-- a source of a text that is in memory never fails
saved_never : {S : Type 0} (source : SavedSource S) → source_failures (λ _. 0) source ≡ 0
saved_never (sources.Whole text) = refl
saved_never (sources.InLines text) = refl

-- no source fails
pub never_fails : {S : Type 0} (remaining : S → Option (List ℕ)) (failures : S → ℕ) (none : (s : S) → failures s ≡ 0) (known : Option (List ℕ)) →
    SourceFails remaining failures known → ⊥
never_fails remaining failures none known h = never_rises (failures h.opened) (failures h.left) (none h.opened) (none h.left) h.fails

pub all_read : {S : Type 0} (remaining : SavedSource S → Option (List ℕ)) (bytes : FileBytes) (files : List Input) (outcome : Result Done AnswerFault) →
    FailsByInput (SourceFails remaining (source_failures (λ _. 0))) bytes files 0 0 outcome → IfErr outcome (λ fault. ¬ ReportsUnreadable (unread_by fault))
all_read remaining bytes files (Ok done) h = tt
all_read remaining bytes files (Err fault) h =
    told (SourceFails remaining (source_failures (λ _. 0))) (never_fails remaining (source_failures (λ _. 0)) saved_never) bytes files (unread_by fault) h

-- the report on a file that isn't read is one where no source fails
pub stops_of : {S : Type 0} (remaining : SavedSource S → Option (List ℕ)) (known : Option (List ℕ)) (fault : InputFault)
    → ReportsUnread (SourceFails remaining (source_failures (λ _. 0))) known 0 0 fault → ReportsUnread (λ _. ⊥) known 0 0 fault
stops_of remaining known inputs.Memory h = h
stops_of remaining known inputs.TooLong h = h
stops_of remaining known inputs.Device h =
    absurd (unread (SourceFails remaining (source_failures (λ _. 0))) (never_fails remaining (source_failures (λ _. 0)) saved_never) known h)
