-- What the refusal of a command by the checker implies for the settings.
use Rattle.std.proofs.Common.{◌≡◌, ℕ, List, [], Option, Some, None, Result, Ok, Err, Bool, true, false, refl, subst, sym, ◌∙◌}
use Rattle.std.specs.Prelude.{is_some}
use Rattle.ngc_machine_files.specs.Machine.{MachineFile}
use Rattle.ngc_commands.specs.declared.command.Command.{Command}
use Rattle.ngc_certificate_text.specs.Certificate.{CertificateData, Entry}
use Rattle.ngc_certificate_text.specs.declared.piece.Setting.TheVariants.{Off, On}
use Rattle.ngc_certificate.specs.declared.fault.MakeFault.{MakeFault}
use Rattle.ngc_certificate.specs.declared.fault.MakeFault.TheVariants.{NotCleared}
use Rattle.ngc_certificate.specs.Made.{IsMade, IsSettingMade, from_start, join_settings}
use Rattle.ngc_certificate.specs.PieceFault.{place_fault}
use Rattle.ngc_certificate.specs.Uncleared.{AreUncleared}
use Rattle.ngc_fixed_length.specs.Grid.{grid}
use Rattle.ngc_certificate.proofs.UnclearedLaws.{made_says}
use Rattle.ngc_job.specs.Job.{JobData, commands_in}
use Rattle.ngc_program_report.specs.JobReports.{IsStartClear}
use Rattle.ngc_program_report.proofs.JobTexts.{alike}

joined_off : (first second : Result (List Entry) ℕ) (k : ℕ) → Err (NotCleared Off k) ≡ join_settings first second → first ≡ Err k
joined_off (Err n) second k e = cc
joined_off (Ok off) (Err n) k e = absurd (no e)
  where
    no : ◌≡◌ {A = Result CertificateData MakeFault} (Err (NotCleared Off k)) (Err (NotCleared On n)) → ⊥
    no e = cc
joined_off (Ok off) (Ok on) k e = absurd (no e)
  where
    no : ◌≡◌ {A = Result CertificateData MakeFault} (Err (NotCleared Off k)) (Ok (record { off = off; on = on })) → ⊥
    no e = cc

joined_on : (first second : Result (List Entry) ℕ) (k : ℕ) → Err (NotCleared On k) ≡ join_settings first second
    → ((entries : List Entry) × (first ≡ Ok entries)) × (second ≡ Err k)
joined_on (Err n) second k e = absurd (no e)
  where
    no : ◌≡◌ {A = Result CertificateData MakeFault} (Err (NotCleared On k)) (Err (NotCleared Off n)) → ⊥
    no e = cc
joined_on (Ok off) (Err n) k e = ((off, refl), cc)
joined_on (Ok off) (Ok on) k e = absurd (no e)
  where
    no : ◌≡◌ {A = Result CertificateData MakeFault} (Err (NotCleared On k)) (Ok (record { off = off; on = on })) → ⊥
    no e = cc

module _ (machine : MachineFile) (cuts : ℕ) (off on : List Command) (k : ℕ) (start : IsStartClear machine) where
  -- block delete off
  pub off_refused : IsMade machine cuts off on (Err (NotCleared Off k)) → IsSettingMade machine cuts off (Err k)
  off_refused made =
      let says = subst (λ (o : Option ℕ). Err (NotCleared Off k) ≡ from_start o (join_settings made.0 made.1)) start made.4 in
      subst (λ (r : Result (List Entry) ℕ). IsSettingMade machine cuts off r) (joined_off made.0 made.1 k says) made.2

  -- block delete on
  pub on_refused : IsMade machine cuts off on (Err (NotCleared On k)) → IsSettingMade machine cuts on (Err k)
  on_refused made =
      let says = subst (λ (o : Option ℕ). Err (NotCleared On k) ≡ from_start o (join_settings made.0 made.1)) start made.4 in
      subst (λ (r : Result (List Entry) ℕ). IsSettingMade machine cuts on r) (joined_on made.0 made.1 k says).1 made.3

  -- and then all commands are cleared with block delete off
  pub off_cleared : IsMade machine cuts off on (Err (NotCleared On k)) → AreUncleared machine cuts off []
  off_cleared made =
      let says = subst (λ (o : Option ℕ). Err (NotCleared On k) ≡ from_start o (join_settings made.0 made.1)) start made.4 in
      let ok = (joined_on made.0 made.1 k says).0 in
      made_says machine cuts off (Ok ok.0) (subst (λ (r : Result (List Entry) ℕ). IsSettingMade machine cuts off r) ok.1 made.2)

-- if both settings have the same commands, a command that is refused at either is refused at both
pub alike_refused : (j : JobData) (cuts k : ℕ) → IsStartClear j.machine → is_some j.on ≡ false
    → IsMade j.machine cuts j.off (commands_in true j) (Err (NotCleared On k)) → IsSettingMade j.machine cuts j.off (Err k)
alike_refused j cuts k start none made =
    subst (λ (cs : List Command). IsSettingMade j.machine cuts cs (Err k)) (alike j.off j.on none)
    (on_refused j.machine cuts j.off (commands_in true j) k start made)

none_met : (o : Option ℕ) → is_some o ≡ false → o ≡ None
none_met None is = refl
none_met (Some fixture) is = absurd (cc is)

-- if no fixture is met at the start
pub start_clear : (machine : MachineFile) (met : Bool) → met ≡ is_some (place_fault machine None (grid machine.step machine.start)) → met ≡ false
    → IsStartClear machine
start_clear machine met is none = none_met (place_fault machine None (grid machine.step machine.start)) (sym is ∙ none)
