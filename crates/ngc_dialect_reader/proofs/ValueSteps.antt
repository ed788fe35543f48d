-- One step of a value and of an expression, if the bound allows it.
use Rattle.std.proofs.Common.{◌≡◌, ℕ, zero, suc, ◌-◌, ◌<◌, Bool, List, length, Err, refl, arith}
use Rattle.ngc_dialect_reader.specs.declared.fault.Cause.TheVariants as causes
use Rattle.ngc_dialect_reader.specs.Number.{refusal}
use Rattle.ngc_dialect_reader.specs.declared.switches.Switches.{Switches}
use Rattle.ngc_dialect_reader.specs.declared.part.Part.{Part}
use Rattle.ngc_dialect_reader.specs.Steps.{Reader}
use Rattle.ngc_dialect_reader.specs.Value.{value_with, value_at, chain_at, link_at, above, operator_at}

pub value_step : (d : Switches) (depth : ℕ) (found : List Part) (s : List ℕ) → 0 < depth → value_at d depth found s ≡ value_with d (value_at d (depth - 1)) found s
unfolding value_at
value_step d zero found s h = absurd (omega arith)
value_step d (suc depth) found s h = let e : suc depth - 1 ≡ depth = omega arith in rw e refl

pub chain_step : (fanuc : Bool) (value : Reader) (more level : ℕ) (found : List Part) (s : List ℕ) → 0 < more →
    chain_at fanuc value more level found s ≡ link_at fanuc value (chain_at fanuc value (more - 1)) level (above fanuc level (operator_at s)) found s
unfolding chain_at
chain_step fanuc value zero level found s h = absurd (omega arith)
chain_step fanuc value (suc more) level found s h = let e : suc more - 1 ≡ more = omega arith in rw e refl

pub chain_end : (fanuc : Bool) (value : Reader) (more level : ℕ) (found : List Part) (s : List ℕ) → more ≡ 0 →
    chain_at fanuc value more level found s ≡ Err (refusal causes.TooManyParts (length s))
unfolding chain_at
chain_end fanuc value zero level found s h = refl
chain_end fanuc value (suc more) level found s h = absurd (omega arith)

pub ruleset chain_steps = (chain_step, chain_end)

pub value_end : (d : Switches) (depth : ℕ) (found : List Part) (s : List ℕ) → depth ≡ 0 → value_at d depth found s ≡ Err (refusal causes.TooDeep (length s))
unfolding value_at
value_end d zero found s h = refl
value_end d (suc depth) found s h = absurd (omega arith)

pub ruleset value_steps = (value_step, value_end)
