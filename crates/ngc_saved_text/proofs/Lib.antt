-- texts without the carriage returns before line feeds, piece by piece
mod ReturnLaws
-- what is left of a source after a carriage return was held back
mod HeldLaws
-- texts without the byte order mark at the beginning
mod MarkLaws
