-- The remaining text of the tools, one tool further.
use Rattle.std.proofs.Common.{◌≡◌, ℕ, ◌+◌, ◌<◌, List, ◌++◌, length, get_or, drop, ap, sym, flat_map, Option, Some, ◌∙◌}
use Rattle.std.proofs.lemmas.List.{drop_more}
use Rattle.ngc_machine_files.specs.declared.tools.Tool.{Tool}

pub next_tool : (line : Option ℕ → List ℕ) (tools : List Tool) (i : ℕ) (t : Tool) → i < length tools → t ≡ get_or tools i t
    → flat_map (λ (x : Tool). line (Some x.number)) (drop i tools)
    ≡ line (Some t.number) ++ flat_map (λ (x : Tool). line (Some x.number)) (drop (i + 1) tools)
next_tool line tools i t inside found =
    ap (flat_map (λ (x : Tool). line (Some x.number))) (drop_more tools i t inside)
    ∙ ap (λ (y : Tool). line (Some y.number) ++ flat_map (λ (x : Tool). line (Some x.number)) (drop (i + 1) tools)) (sym found)
