use Rattle.std.proofs.Common.{◌≡◌, arith, to_z, of_z}
use Rattle.std.specs.Int.{w64}
use Rattle.std.proofs.lemmas.Int.{ints}
use Rattle.std.proofs.lemmas.List.{append_assoc}
use Rattle.ngc_origin_warnings.specs.Texts.{place_fact}
use Rattle.ngc_origin_warnings.proofs.texts.add_place_fact.Goals as goal

pub returns-clause-text : goal.returns-clause-text
unfolding place_fact
returns-clause-text c =
    let far : to_z w64 (of_z w64 c.args.origin.now.beyond) ≡ c.args.origin.now.beyond = omega (arith, ints) in
    rw (
      c.add_number.ensures.text,
      far,
      c.add_text-4.ensures,
      c.add_triple.ensures.text,
      c.add_text-3.ensures,
      c.add_text-2.ensures,
      c.system_name.ensures.text,
      c.add_text.ensures,
    ) (simp append_assoc)
