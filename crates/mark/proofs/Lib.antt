-- Laws that the proofs of the searches cite.
pub mod MarkLaws
pub mod PlainLaws
pub mod FoursLaws
