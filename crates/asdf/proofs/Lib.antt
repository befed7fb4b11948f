-- Laws that the proofs of the exported functions cite.
pub mod CountLaws
pub mod WordLaws
pub mod AnswerLaws
