use Rattle.std.proofs.lemmas.List.{append_assoc}
use Rattle.ngc_lowest_tips.specs.Texts.{pair_fact}
use Rattle.ngc_lowest_tips.proofs.texts.add_pair_fact.Goals as goal

pub returns-clause-text : goal.returns-clause-text
unfolding pair_fact
returns-clause-text c =
    rw (c.add_tool_value.ensures.text, c.add_text-3.ensures, c.add_text-2.ensures, c.system_name.ensures.text, c.add_text.ensures) (simp append_assoc)
