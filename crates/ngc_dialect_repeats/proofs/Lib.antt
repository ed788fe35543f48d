-- Words that are kept, one after another.
pub mod OneMore
