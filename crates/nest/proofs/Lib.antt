-- Laws that the proofs of the walk use.
pub mod WalkLaws
pub mod EntryLaws
