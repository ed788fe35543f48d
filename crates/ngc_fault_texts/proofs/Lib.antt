-- A number is on a page exactly where it is among the page's numbers.
mod NumberSearch
-- How far a text is written.
mod WrittenProgress
