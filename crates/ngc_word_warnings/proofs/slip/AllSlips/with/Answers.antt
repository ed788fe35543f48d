use Rattle.ngc_word_warnings.specs.declared.slip.Kind.TheVariants as kinds
use Rattle.ngc_word_warnings.proofs.slip.AllSlips.with.Goals as goal

pub counted-requires : goal.counted-requires
counted-requires c = c.requires kinds.Unmounted

pub counted-requires-2 : goal.counted-requires-2
counted-requires-2 c = c.requires kinds.OtherOffset

pub counted-requires-3 : goal.counted-requires-3
counted-requires-3 c = c.requires kinds.NoOffset

pub counted-requires-4 : goal.counted-requires-4
counted-requires-4 c = c.requires kinds.StaleOffset

pub counted-requires-5 : goal.counted-requires-5
counted-requires-5 c = c.requires kinds.PartHome
