-- The parts of a tool. Our own.
use Rattle.std.specs.Prelude.{◌≤◌, ◌-◌, ◌++◌, nat_le, pos, ◌≡◌, List, length, take, drop}
use Rattle.std.specs.Prelude.{replicate, Option, Some, None, ◌&&◌, if◌then◌else◌}
use Rattle.std.proofs.Math.Path.{◌∙◌, ap, sym, subst}
use Rattle.std.proofs.lemmas.List.{length-take-le, take-append-drop}
use Rattle.ngc_machine_files.specs.declared.parts.Part.{Part}
use Rattle.ngc_machine_files.specs.declared.parts.Parts.TheInside.{Inside}

-- the list itself, if it has one to four parts
abbrev pub one_to_four : List Part → Option (List Part)
one_to_four parts = if nat_le 1 (length parts) && nat_le (length parts) 4 then Some parts else None

-- ---- the stored form: four places, of which `count` are used

abbrev pub unused : Part
unused = record { length = pos 0; radius = pos 0 }

abbrev pub used : Inside → List Part
used p = take p.count p.places

pub record AreKept (p : Inside) : Type 0 where
  pub least : 1 ≤ p.count
  pub greatest : p.count ≤ 4
  pub places : length p.places ≡ 4
  pub rest : drop p.count p.places ≡ replicate (4 - p.count) unused

abbrev pub kept : List Part → Inside
kept parts = record { places = parts ++ replicate (4 - length parts) unused; count = length parts }

-- storing parts loses nothing
pub kept-used : (p : Inside) → AreKept p → kept (used p) ≡ p
kept-used p h =
    let n : length (take p.count p.places) ≡ p.count =
    length-take-le p.count p.places (subst (λ n. p.count ≤ n) (sym h.places) h.greatest) in
    ap (λ n. record { places = take p.count p.places ++ replicate (4 - n) unused; count = n }) n
    ∙ ap (λ rest. record { places = take p.count p.places ++ rest; count = p.count }) (sym h.rest)
    ∙ ap (λ places. record { places = places; count = p.count }) (take-append-drop p.count p.places)
