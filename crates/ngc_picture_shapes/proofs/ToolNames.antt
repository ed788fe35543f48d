-- The name of a tool.
use Rattle.std.proofs.Common.{◌≡◌, ◌≢◌, ℕ, Bool, ◌++◌, ap, codes, decimal, eq-eqb, if◌then◌else◌}
use Rattle.std.proofs.lemmas.Bool.{ne_eqb}
use Rattle.ngc_picture_shapes.specs.Spelling.{tool_text}

pub none_text : (n : ℕ) → n ≡ 0 → tool_text n ≡ codes "no tool"
unfolding tool_text
none_text n is = ap (λ (b : Bool). if b then codes "no tool" else codes "T" ++ decimal n) (eq-eqb n 0 is)

pub some_text : (n : ℕ) → n ≢ 0 → tool_text n ≡ codes "T" ++ decimal n
unfolding tool_text
some_text n is = ap (λ (b : Bool). if b then codes "no tool" else codes "T" ++ decimal n) (ne_eqb n 0 is)
