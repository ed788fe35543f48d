-- Changes, added in order.
use Rattle.std.proofs.Common.{◌≡◌, ℕ, List, [], ◌∷◌, ◌++◌, refl, ap, sym, subst, ◌∙◌, arith}
use Rattle.std.proofs.lemmas.List.{append_assoc, length-append}
use Rattle.ngc_pulses.specs.Vcd.{Change, change_text, stamp_after, dumped}
use Rattle.ngc_pulses.specs.Dumping.{last_half, AddsChanges}

pub dumped-append : (r last : ℕ) (cs ds : List Change) → dumped r last (cs ++ ds) ≡ dumped r last cs ++ dumped r (last_half last cs) ds
dumped-append r last [] ds = refl
dumped-append r last (c ∷ cs) ds =
    let first = stamp_after r last c.half ++ change_text c.wire c.high in
    ap (λ l. first ++ l) (dumped-append r c.half cs ds) ∙ sym (append_assoc first (dumped r c.half cs) (dumped r (last_half c.half cs) ds))

pub last_half-append : (last : ℕ) (cs ds : List Change) → last_half last (cs ++ ds) ≡ last_half (last_half last cs) ds
last_half-append last [] ds = refl
last_half-append last (c ∷ cs) ds = last_half-append c.half cs ds

both : (r : ℕ) (cs ds : List Change) (x y z : ℕ) (a b c : List ℕ) → AddsChanges r cs x y a b → AddsChanges r ds y z b c → AddsChanges r (cs ++ ds) x z a c
both r cs ds x y z a b c p q = record {
  text =
      q.text ∙ ap (λ l. l ++ dumped r y ds) p.text ∙ append_assoc a (dumped r x cs) (dumped r y ds)
      ∙ ap (λ h. a ++ (dumped r x cs ++ dumped r h ds)) p.stamped ∙ ap (λ l. a ++ l) (sym (dumped-append r x cs ds));
  stamped = q.stamped ∙ ap (λ h. last_half h ds) p.stamped ∙ sym (last_half-append x cs ds);
  short = omega (arith, p.short, q.short, length-append cs ds);
}

-- if the second ones are added at the rate after the first ones
pub adds_both : (r s : ℕ) (cs ds : List Change) (x y z : ℕ) (a b c : List ℕ) → s ≡ r → AddsChanges r cs x y a b → AddsChanges s ds y z b c →
    AddsChanges r (cs ++ ds) x z a c
adds_both r s cs ds x y z a b c same p q = both r cs ds x y z a b c p (subst (λ n. AddsChanges n ds y z b c) same q)
