use Rattle.std.proofs.Common.{◌≡◌, arith, to_z, of_z}
use Rattle.std.specs.Int.{w128}
use Rattle.std.proofs.lemmas.Int.{ints}
use Rattle.std.proofs.lemmas.List.{append_assoc}
use Rattle.ngc_origin_warnings.specs.Texts.{lacking_text}
use Rattle.ngc_origin_warnings.proofs.texts.add_lacking.Goals as goal

pub returns-clause-text : goal.returns-clause-text
unfolding lacking_text
returns-clause-text c =
    let far : to_z w128 (of_z w128 c.from.result) ≡ c.args.origin.now.beyond = omega (arith, ints, c.from.ensures) in
    rw (
      c.add_text-4.ensures,
      c.add_millimetres.ensures.text,
      far,
      c.add_text-3.ensures,
      c.add_text-2.ensures,
      c.system_name.ensures.text,
      c.add_text.ensures,
    ) (simp append_assoc)
