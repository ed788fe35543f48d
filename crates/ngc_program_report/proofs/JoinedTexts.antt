-- Texts that are added in order.
use Rattle.std.proofs.Common.{◌≡◌, ℕ, List, ◌++◌, ap, ◌∙◌}
use Rattle.std.proofs.lemmas.List.{append_assoc}

pub five_added : (old a b c d e p q r s t : List ℕ)
    → a ≡ old ++ p → b ≡ a ++ q → c ≡ b ++ r → d ≡ c ++ s → e ≡ d ++ t
    → e ≡ old ++ (p ++ q ++ r ++ s ++ t)
five_added old a b c d e p q r s t ha hb hc hd he =
    he ∙ ap (λ l. l ++ t) (hd ∙ ap (λ l. l ++ s) (hc ∙ ap (λ l. l ++ r) (hb ∙ ap (λ l. l ++ q) ha))) ∙ simp append_assoc
