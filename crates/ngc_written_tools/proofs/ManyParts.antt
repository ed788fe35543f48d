-- A holder of more than three parts.
use Rattle.std.proofs.Common.{◌≡◌, ◌≤◌, ℕ, List, [], ◌∷◌, length, refl, arith}
use Rattle.toml.specs.View.{items_view}
use Rattle.toml.specs.declared.value.Value.{Value}
use Rattle.ngc_machine_figures.specs.declared.tool_key.ToolKey.TheVariants as keys
use Rattle.ngc_machine_figures.specs.declared.tool_key.ToolWrong.TheVariants as wrongs
use Rattle.ngc_written_tools.specs.Holders.{holder_in}
use Rattle.ngc_written_tools.specs.Shapes.{refuse}

pub many_parts : (n : ℕ) (vs : List Value) → 4 ≤ length vs → refuse (keys.Holder n) wrongs.ManyParts ≡ holder_in n (items_view vs)
many_parts n [] h = absurd (omega (arith, h))
many_parts n (a ∷ []) h = absurd (omega (arith, h))
many_parts n (a ∷ b ∷ []) h = absurd (omega (arith, h))
many_parts n (a ∷ b ∷ c ∷ []) h = absurd (omega (arith, h))
many_parts n (a ∷ b ∷ c ∷ d ∷ vs) h = refl
