-- The codes of straight motions, and the first code of a line.
use Rattle.std.proofs.Common.{◌≡◌, List, [], ◌∷◌, ◌++◌, length, Ok, refl, arith}
use Rattle.ngc_dialect_names.specs.declared.dialect.Dialect.{Dialect}
use Rattle.ngc_dialect_names.specs.declared.dialect.Dialect.TheVariants as dialects
use Rattle.ngc_dialect_rules.specs.declared.code.Code.{Code}
use Rattle.ngc_dialect_rules.specs.declared.code.Code.TheVariants.{G, M}
use Rattle.ngc_dialect_rules.specs.Tables.{known_code, lacks, left_out_motion, left_out_mode, left_out_switch, group_of, is_among, joined, code_in}

pub known_traverse : (d : Dialect) → known_code d (G 0) ≡ Ok (G 0)
unfolding known_code lacks left_out_motion left_out_mode left_out_switch group_of is_among
known_traverse dialects.LinuxCnc = refl
known_traverse dialects.Grbl = refl
known_traverse dialects.Mach3 = refl
known_traverse dialects.Fanuc = refl

pub known_feed : (d : Dialect) → known_code d (G 10) ≡ Ok (G 10)
unfolding known_code lacks left_out_motion left_out_mode left_out_switch group_of is_among
known_feed dialects.LinuxCnc = refl
known_feed dialects.Grbl = refl
known_feed dialects.Mach3 = refl
known_feed dialects.Fanuc = refl

pub ruleset known_straight = (known_traverse, known_feed)

pub joined_first : (code : Code) → joined code [] ≡ Ok (code ∷ [])
unfolding joined code_in
joined_first (G t) = refl
joined_first (M n) = refl

pub joined_empty : (code : Code) (line : List Code) → length line ≡ 0 → joined code line ≡ Ok (line ++ code ∷ [])
joined_empty code [] h = joined_first code
joined_empty code (c ∷ line) h = absurd (omega (arith, h))
