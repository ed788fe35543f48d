use Rattle.std.proofs.lemmas.List.{append_assoc}
use Rattle.ngc_origin_warnings.proofs.texts.add_fact.Goals as goal

pub returns : goal.returns
returns c =
    rw (
      c.add_text-5.ensures,
      c.add_number-2.ensures.text,
      c.add_text-4.ensures,
      c.add_number.ensures.text,
      c.add_text-3.ensures,
      c.add_place_fact.ensures.text,
      c.add_text-2.ensures,
      c.kind_text.ensures.text,
      c.add_text.ensures,
    ) (simp append_assoc)
