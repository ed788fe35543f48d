-- Collected texts, one text at a time.
pub mod CollectedTexts
-- Texts that a page says in order.
pub mod Said
