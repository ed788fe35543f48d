-- Texts that are written in two steps.
use Rattle.std.proofs.Common.{ℕ, List, ◌++◌, Option, ap, sym, ◌∙◌, append_assoc}
use Rattle.std.specs.Io.KnownBytes.{Appends}
use Rattle.ngc_text.specs.Written.{AppendsPrefix}
use Rattle.ngc_text.proofs.AppendedTexts.{appends_both}

-- a prefix of a text is one of a longer text
pub prefix_longer : (old new : Option (List ℕ)) (a more : List ℕ) → AppendsPrefix old new a → AppendsPrefix old new (a ++ more)
prefix_longer old new a more k = (k.0, k.1 ++ more, ap (λ l. l ++ more) k.2 ∙ append_assoc k.0 k.1 more, k.3)

-- one text, and then a prefix of another
pub begins_last : (old mid new : Option (List ℕ)) (a b : List ℕ) → Appends old mid a → AppendsPrefix mid new b → AppendsPrefix old new (a ++ b)
begins_last old mid new a b h k = (a ++ k.0, k.1, ap (λ l. a ++ l) k.2 ∙ sym (append_assoc a k.0 k.1), appends_both old mid new a k.0 h k.3)
