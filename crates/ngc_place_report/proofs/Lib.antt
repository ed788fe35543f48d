-- The motions that are counted, one after the other.
pub mod StayingLaws
-- The shifts of an interval that is reported have certificates.
pub mod CertifiedLaws
-- What is known of the shifts along an axis, from the commands that are executed with the origin shifted.
pub mod FoundLaws
-- A program without a line that begins with `/` is the same at both settings.
pub mod SamePrograms
