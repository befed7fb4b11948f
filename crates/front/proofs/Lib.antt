-- Laws that the proofs of the front cite.
pub mod HeaderLaws
pub mod CommentsLaws
pub mod TreeLaws
