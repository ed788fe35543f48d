-- Results of `?`, whose error is converted.
use Rattle.std.proofs.Common.{◌≡◌, Result, Ok, Err, IsErrAnd, subst, sym}

-- what holds for an error holds for the result to which it was converted
pub turned : {T E : Type 0} (r : Result T E) (e : E) (P : Result T E → Type 0) → IsErrAnd r (λ a. a ≡ e) → P (Err e) → P r
turned (Ok value) e P is p = absurd is
turned (Err a) e P is p = subst (λ x. P (Err x)) (sym is) p
