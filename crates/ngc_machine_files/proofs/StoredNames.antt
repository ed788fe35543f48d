-- How names are stored.
use Rattle.std.proofs.Common.{◌≡◌, ◌≤◌, ◌∙◌, ℕ, ◌-◌, ◌+◌, List, ◌++◌, length, drop, true, arith, sym, ap}
use Rattle.std.specs.Prelude.{replicate, nat_le}
use Rattle.std.specs.List.{All, list_all}
use Rattle.std.proofs.Math.Path.{subst}
use Rattle.std.proofs.lemmas.Bool.{and_parts, leb-true}
use Rattle.std.proofs.lemmas.List.{drop-replicate, length-append, length-replicate}
use Rattle.std.proofs.Math.Seq.{take-append_seam, drop-append_seam}
use Rattle.std.proofs.lemmas.List.Sums.{AllPass-from_list_all}
use Rattle.std.proofs.lemmas.List.Elements.{All-weaker}
use Rattle.ngc_machine_files.specs.Names.{is_printable, is_name, IsPrintable, IsKept}

printable : (c : ℕ) → is_printable c ≡ true → IsPrintable c
printable c h =
    let (least, greatest) = and_parts (nat_le 32 c) (nat_le c 126) h in
    record { least = leb-true _ _ least; greatest = leb-true _ _ greatest }

-- a text that is a name, padded with zeros
pub text_kept : (text : List ℕ) → is_name text ≡ true → IsKept (record { characters = text ++ drop (length text) (replicate 40 0); count = length text })
text_kept text h =
    let (sized, each) = and_parts _ (list_all is_printable text) h in
    let (_, at_most) = and_parts (nat_le 1 (length text)) (nat_le (length text) 40) sized in
    let greatest : length text ≤ 40 = leb-true _ _ at_most in
    let zeros : drop (length text) (replicate 40 0) ≡ replicate (40 - length text) 0 = drop-replicate (length text) 40 0 in
    let rest : length (drop (length text) (replicate 40 0)) ≡ 40 - length text = ap length zeros ∙ length-replicate (40 - length text) 0 in
    let all : length (text ++ drop (length text) (replicate 40 0)) ≡ length text + length (drop (length text) (replicate 40 0)) = length-append text _ in
    record {
      places = omega (arith, rest, all, greatest);
      greatest = greatest;
      rest = drop-append_seam text _ ∙ zeros;
      printable =
          subst (All IsPrintable) (sym (take-append_seam text _)) (All-weaker (λ c. is_printable c ≡ true) IsPrintable printable text (AllPass-from_list_all is_printable text each));
    }
