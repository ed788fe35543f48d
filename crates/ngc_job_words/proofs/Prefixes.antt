-- What is after a prefix.
use Rattle.std.proofs.Common.{◌≡◌, ℕ, List, ◌++◌, length, take, drop, Bool, true, false, Option, Some, None, cond, ap, sym, ◌∙◌, refl}
use Rattle.std.proofs.Math.Seq.{take-append_seam}
use Rattle.std.proofs.lemmas.List.{take-append-drop}
use Rattle.std.proofs.lemmas.Slice.Eq.{bytes_eq-Decides}
use Rattle.std.specs.Str.{bytes_eq}
use Rattle.std.specs.Str.Pattern.{FindsTextPrefix, LacksTextAt, StripsPrefix}
use Rattle.ngc_job_words.specs.Words.{after}

pub found : (p s rest : List ℕ) → StripsPrefix (FindsTextPrefix p) s rest → Some rest ≡ after p s
found p s rest h =
    let front : take (length p) s ≡ p = ap (take (length p)) h.1.1 ∙ take-append_seam p (drop h.0 s) in
    let same : bytes_eq (take (length p) s) p ≡ true = (bytes_eq-Decides (take (length p) s) p).1 front in
    ap (λ x. Some x) (h.2 ∙ ap (λ k. drop k s) h.1.0)
    ∙ sym (ap (λ b. cond b (Some (drop (length p) s)) None) same)

none_by : (p s : List ℕ) → LacksTextAt p s 0 → (b : Bool) → bytes_eq (take (length p) s) p ≡ b
    → None ≡ cond b (Some (drop (length p) s)) None
none_by p s lacks false e = refl
none_by p s lacks true e =
    let front : take (length p) s ≡ p = (bytes_eq-Decides (take (length p) s) p).0 e in
    absurd (lacks (drop (length p) s) (sym (take-append-drop (length p) s) ∙ ap (λ t. t ++ drop (length p) s) front))

pub missing : (p s : List ℕ) → LacksTextAt p s 0 → None ≡ after p s
missing p s lacks = none_by p s lacks (bytes_eq (take (length p) s) p) refl
