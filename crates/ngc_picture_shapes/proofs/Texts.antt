-- Texts that are added in order.
use Rattle.std.proofs.Common.{◌≡◌, ℕ, List, ◌++◌, ap, ◌∙◌}
use Rattle.std.proofs.lemmas.List.{append_assoc}

pub more : (old mid new x t : List ℕ) → mid ≡ old ++ x → new ≡ mid ++ t → new ≡ old ++ (x ++ t)
more old mid new x t h k = k ∙ ap (λ l. l ++ t) h ∙ append_assoc old x t
