-- One more fault, and the last.
use Rattle.std.proofs.Common.{◌≡◌, ℕ, ◌+◌, ◌-◌, ◌<◌, ◌≤◌, List, [], ◌∷◌, ◌++◌, Option, Some, None, Bool, ap, subst, sym, ◌∙◌, arith}
use Rattle.std.proofs.lemmas.List.{append_assoc, append-nil}
use Rattle.ngc_canonical.specs.State.{Setup}
use Rattle.ngc_all_faults.specs.Faults.{AreFaults, HasFirst, after}
use Rattle.ngc_all_faults.specs.declared.text_fault.TextFault.{TextFault}

module _ (setup : Setup) (delete : Bool) (text : List ℕ) where
  -- together with the faults of the rest, the faults found so far are the faults of the text
  abbrev pub Goes : ℕ → List ℕ → List TextFault → Type 0
  Goes most rest found = (fs : List TextFault) → AreFaults setup delete most (Some rest) fs → AreFaults setup delete 100 (Some text) (found ++ fs)

  pub ends : (most : ℕ) (rest : List ℕ) (found : List TextFault) → Goes most rest found → AreFaults setup delete most (Some rest) [] →
      AreFaults setup delete 100 (Some text) found
  ends most rest found goes end = subst (λ (l : List TextFault). AreFaults setup delete 100 (Some text) l) (append-nil found) (goes [] end)

  joined : (found : List TextFault) (f : TextFault) (new fs : List TextFault) → new ≡ found ++ (f ∷ []) → found ++ (f ∷ fs) ≡ new ++ fs
  joined found f new fs is = sym (ap (λ (l : List TextFault). l ++ fs) is ∙ append_assoc found (f ∷ []) fs)

  pub more : (i : ℕ) (rest : List ℕ) (found : List TextFault) (f : TextFault) (new : List TextFault) (next : List ℕ) → i < 100
      → Goes (100 - i) rest found → HasFirst setup delete rest f → after f rest ≡ Some next → new ≡ found ++ (f ∷ []) → Goes (100 - (i + 1)) next new
  more i rest found f new next below goes has is_next is fs are =
      let one : 1 ≤ 100 - i = omega (arith, below) in
      let fewer : 100 - (i + 1) ≡ 100 - i - 1 = omega arith in
      let later : AreFaults setup delete (100 - i - 1) (after f rest) fs =
      subst (λ (o : Option (List ℕ)). AreFaults setup delete (100 - i - 1) o fs) (sym is_next)
      (subst (λ (n : ℕ). AreFaults setup delete n (Some next) fs) fewer are) in
      subst (λ (l : List TextFault). AreFaults setup delete 100 (Some text) l) (joined found f new fs is) (goes (f ∷ fs) (one, (has, later)))

  pub last : (i : ℕ) (rest : List ℕ) (found : List TextFault) (f : TextFault) (new : List TextFault) → i < 100 → Goes (100 - i) rest found
      → HasFirst setup delete rest f → after f rest ≡ None → new ≡ found ++ (f ∷ []) → AreFaults setup delete 100 (Some text) new
  last i rest found f new below goes has none is =
      let one : 1 ≤ 100 - i = omega (arith, below) in
      let later : AreFaults setup delete (100 - i - 1) (after f rest) [] =
      subst (λ (o : Option (List ℕ)). AreFaults setup delete (100 - i - 1) o []) (sym none) tt in
      subst (λ (l : List TextFault). AreFaults setup delete 100 (Some text) l) (sym is) (goes (f ∷ []) (one, (has, later)))
