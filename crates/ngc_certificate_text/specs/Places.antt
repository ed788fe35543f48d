-- Positions among the motions of both settings, as entries pass them. Our own.
use Rattle.std.specs.Prelude.{ℕ, ◌+◌, ◌<◌, List}
use Rattle.ngc_certificate_text.specs.declared.certificate.EntryKind.{EntryKind}
use Rattle.ngc_certificate_text.specs.declared.certificate.EntryKind.TheVariants.{Both, Off, On}
use Rattle.ngc_certificate_text.specs.declared.expected.Indices.TheVariants as of
use Rattle.ngc_certificate_text.specs.declared.write.Passed.{Passed}
use Rattle.ngc_certificate_text.specs.Certificate.{Entry, entry_at}
use Rattle.ngc_certificate_text.specs.Joined.{Item}

-- the entry's motions exist, with these numbers of motions at each setting
abbrev pub MayPass : EntryKind → Passed → ℕ → ℕ → Type 0
MayPass Both p off on = (p.off < off) × (p.on < on)
MayPass Off p off on = p.off < off
MayPass On p off on = p.on < on

-- the entry of these motions
abbrev pub entry_there : EntryKind → List Entry → List Entry → Passed → Item
entry_there Both off on p =
    record {
      indices = of.Both (entry_at off p.off).index (entry_at on p.on).index;
      pieces = (entry_at off p.off).pieces;
    }
entry_there Off off on p =
    record { indices = of.Off (entry_at off p.off).index; pieces = (entry_at off p.off).pieces }
entry_there On off on p =
    record { indices = of.On (entry_at on p.on).index; pieces = (entry_at on p.on).pieces }

abbrev pub after_entry : EntryKind → Passed → Passed
after_entry Both p = record { off = p.off + 1; on = p.on + 1 }
after_entry Off p = record { off = p.off + 1; on = p.on }
after_entry On p = record { off = p.off; on = p.on + 1 }
