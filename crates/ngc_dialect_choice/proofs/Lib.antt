-- What a command did with the options that were chosen, of the files as they were before.
pub mod ChoiceLaws
