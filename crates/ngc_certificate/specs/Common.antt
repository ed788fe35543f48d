-- The leading motions that both settings of a certificate have in common, and the certificate that
-- joins them. Our own.
use Rattle.std.specs.Prelude.{◌≡◌, ℕ, ◌<◌, ◌≤◌, List, length, slice_get, Option, Some, None}
use Rattle.std.specs.Prelude.{option_and_then}
use Rattle.ngc_commands.specs.declared.command.Action.{Action}
use Rattle.ngc_commands.specs.declared.command.Action.TheVariants.{Move}
use Rattle.ngc_commands.specs.declared.command.Command.{Command}
use Rattle.ngc_commands.specs.declared.movement.Way.{Way}
use Rattle.ngc_certificate_text.specs.Certificate.{Entry, CertificateData, entry_at}
use Rattle.ngc_certificate_text.specs.Joined.{Form, Joined, IsJoined}
use Rattle.ngc_certificate_text.specs.JoinedFirst.{joined_first}

abbrev pub way_of : Action → Option Way
way_of (Move m) = Some m.way
way_of _ = None

-- the path of the command with this index, if it is a motion
abbrev pub way_at : List Command → ℕ → Option Way
way_at commands i = option_and_then (λ (c : Command). way_of c.action) (slice_get commands i)

-- a motion of `off` and one of `on` have the same path and the same pieces
pub record AreAlike (off on : List Command) (a b : Entry) : Type 0 where
  pub way : Way
  pub off_goes : way_at off a.index ≡ Some way
  pub on_goes : way_at on b.index ≡ Some way
  pub pieces : a.pieces ≡ b.pieces

-- the first n motions of both settings are alike in pairs, and the next ones aren't
pub record IsCommonBeginning (off on : List Command) (c : CertificateData) (n : ℕ) : Type 0 where
  pub off_has : n ≤ length c.off
  pub on_has : n ≤ length c.on
  pub alike : (k : ℕ) → k < n → AreAlike off on (entry_at c.off k) (entry_at c.on k)
  pub longest : n < length c.off → n < length c.on →
      ¬ AreAlike off on (entry_at c.off n) (entry_at c.on n)

-- a certificate's motions as one of version 2, with the longest common beginning joined
pub record IsJoinedOf (off on : List Command) (c : CertificateData) (f : Form) : Type 0 where
  pub common : ℕ
  pub is_common : IsCommonBeginning off on c common
  pub is : f ≡ Joined (joined_first common c.off c.on)
  -- no entry of `off` alone directly follows one of `on` alone
  pub entries : IsJoined (joined_first common c.off c.on)
