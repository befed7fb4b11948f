-- Laws that the proofs of the check cite.
pub mod CheckLaws
