-- One item, if the bound allows it.
use Rattle.std.proofs.Common.{◌≡◌, ℕ, zero, suc, ◌-◌, ◌<◌, List, length, Ok, Err, refl, arith}
use Rattle.ngc_dialect_reader.specs.declared.fault.Cause.TheVariants as causes
use Rattle.ngc_dialect_reader.specs.Number.{refusal}
use Rattle.std.specs.Prelude.{if◌then◌else◌, ◌==◌}
use Rattle.ngc_line_reader.specs.Scan.{◌>>=◌}
use Rattle.ngc_dialect_reader.specs.declared.switches.Switches.{Switches}
use Rattle.ngc_dialect_reader.specs.declared.part.Part.{Part}
use Rattle.ngc_dialect_reader.specs.Item.{item_at, items_at}

pub items_step : (d : Switches) (room : ℕ) (found : List Part) (s : List ℕ) → 0 < room → items_at d room found s ≡
    (if length s == 0 then Ok (found, s) else (item_at d found s >>= λ x. items_at d (room - 1) x.0 x.1))
unfolding items_at
items_step d zero found s h = absurd (omega arith)
items_step d (suc room) found s h = let e : suc room - 1 ≡ room = omega arith in rw e refl

pub items_end : (d : Switches) (room : ℕ) (found : List Part) (s : List ℕ) → room ≡ 0 → items_at d room found s ≡ Err (refusal causes.TooManyParts (length s))
unfolding items_at
items_end d zero found s h = refl
items_end d (suc room) found s h = absurd (omega arith)
