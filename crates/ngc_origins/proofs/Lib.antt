-- Origins that are replaced one at a time, in the order of the systems, and their range.
pub mod ReplacedOrigins
-- The origins that texts write, up to the first mistake.
pub mod ReadOrigins
-- The lines that remain, one system further.
pub mod RemainingLines
