-- The consequences of the checker's acceptance for the commands of a setting.
use Rattle.std.proofs.Common.{◌≡◌, List, subst, sym, ◌∙◌}
use Rattle.std.specs.Prelude.{None, Bool, true, false, Result, Ok}
use Rattle.ngc_commands.specs.declared.command.Command.{Command}
use Rattle.ngc_canonical.specs.declared.fault.ProgramFault.{ProgramFault}
use Rattle.ngc_commands.specs.Sequence.{HaveEvenRadii}
use Rattle.ngc_canonical.specs.Meaning.{Program, meaning}
use Rattle.ngc_commands.specs.Movement.{actions_of, ways_of, AreJoined}
use Rattle.ngc_canonical.specs.State.{Setup}
use Rattle.ngc_canonical.proofs.JoinedLines.{are_joined, are_even}
use Rattle.ngc_certificate_text.specs.Certificate.{Entry, CertificateData}
use Rattle.ngc_certificate.specs.Valid.{IsValid}
use Rattle.ngc_checker.specs.FirstRefusal.{first_refusal}
use Rattle.ngc_checker.specs.Validity.{IsValidFor}
use Rattle.ngc_checker.proofs.NoRefusal.{law}

abbrev pub entries_at : Bool → CertificateData → List Entry
entries_at false c = c.off
entries_at true c = c.on

fine : List Command → Result (List Command) ProgramFault
fine commands = Ok commands

same_commands : (x y : List Command) → fine x ≡ fine y → x ≡ y
unfolding fine
same_commands x y h = cc

meant : (program : Program) (setup : Setup) (c : CertificateData) → IsValidFor program setup c → (block_delete : Bool) (commands : List Command) →
    meaning program setup block_delete ≡ Ok commands → IsValid setup.machine commands (entries_at block_delete c)
unfolding fine
meant program setup c v false commands e = subst (λ cs. IsValid setup.machine cs c.off) (same_commands v.off commands (sym v.off_means ∙ e)) v.off_valid
meant program setup c v true commands e = subst (λ cs. IsValid setup.machine cs c.on) (same_commands v.on commands (sym v.on_means ∙ e)) v.on_valid

-- if nothing is refused, the certificate is valid for the commands of each setting
pub setting_is_valid : (program : Program) (setup : Setup) (c : CertificateData) → first_refusal program setup c ≡ None →
    (block_delete : Bool) (commands : List Command) →
    meaning program setup block_delete ≡ Ok commands → IsValid setup.machine commands (entries_at block_delete c)
setting_is_valid program setup c none block_delete commands e = meant program setup c ((law program setup c).0 none) block_delete commands e

-- and their motions are joined
pub setting_is_joined : (program : Program) (setup : Setup) (block_delete : Bool) (commands : List Command) →
    meaning program setup block_delete ≡ Ok commands → AreJoined setup.machine.start (ways_of (actions_of commands))
setting_is_joined program setup block_delete commands e = are_joined program setup block_delete commands e

-- and their arcs have even radii
pub setting_is_even : (program : Program) (setup : Setup) (block_delete : Bool) (commands : List Command) →
    meaning program setup block_delete ≡ Ok commands → HaveEvenRadii (ways_of (actions_of commands))
setting_is_even program setup block_delete commands e = are_even program setup block_delete commands e
