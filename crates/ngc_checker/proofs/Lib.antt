-- If the checker refuses nothing, the certificate is valid at both settings, and if it is valid,
-- the checker refuses nothing.
pub mod NoRefusal
-- If nothing is refused, the program that the checker returns has the promised properties.
pub mod Acceptance
-- The effect of a certificate's motions and pieces on the check of a setting.
pub mod WalkLaws
-- The effect of a line on the check of a certificate.
pub mod JudgeLaws
-- The judge's state after a line.
pub mod LineJudging
-- A verdict agrees with the checker's result.
pub mod AnswerLaw
-- The check of a job is that of the program whose job it is.
pub mod JobLaws
-- The result of checking a source's bytes, from the effects of its pieces.
pub mod SourceLaws
