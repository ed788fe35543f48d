use Rattle.std.proofs.Common.{◌≡◌, ℕ, ◌+◌, ◌≤◌, length, ◌∙◌, ap, arith}
use Rattle.ngc_line_reader.specs.Kept.{by_numbers, numbered_words}
use Rattle.ngc_line_reader.specs.ScanLine.{Parts}
use Rattle.ngc_line_reader.proofs.NumberWords.{pushed_numbers}
use Rattle.ngc_line_reader.proofs.program.parts.PartLists.push_numbered.Goals as goal
use Rattle.ngc_line_reader.proofs.program.parts.PartLists.push_numbered.Given.{Over}

lies : (g : Over) (c : goal.In_ok-keep_numbered g) → length c.view-view.result.tokens.now ≡ length c.view-view.result.words.now
lies g c =
    let t = ap (λ (p : Parts). length p.tokens) c.view-view.ensures.parts in
    let w = ap (λ (p : Parts). length p.words) c.view-view.ensures.parts in
    omega (arith, t, w, c.requires)

nothing : (n : ℕ) → 0 + 0 ≤ n
nothing n = omega arith

pub returns-clause-within : goal.returns-clause-within
returns-clause-within g c =
    let within : c.in_ok-first.first + length c.view-view.result.words.now ≤ length c.keep_numbered.new.numbered.items =
    (pushed_numbers c.args.self.now.numbered.items _ c.view-view.result.words.now c.view-view.result.tokens.now _ _ c.in_ok-keep_numbered.ensures (omega arith)
    (omega arith) (lies g c)).0 in (
      within,
      record {
        words = nothing _;
        settings = nothing _;
        kinds = nothing _;
        numbers = nothing _;
        few_words = nothing _;
        few_settings = nothing _;
        few_kinds = nothing _;
      },
    )

pub returns-clause-value : goal.returns-clause-value
returns-clause-value g c =
    ap by_numbers (pushed_numbers c.args.self.now.numbered.items _ c.view-view.result.words.now c.view-view.result.tokens.now _ _ c.in_ok-keep_numbered.ensures
    (omega arith) (omega arith) (lies g c)).1
    ∙ ap (λ (p : Parts). by_numbers (numbered_words p.words p.tokens)) c.view-view.ensures.parts
