-- Laws that the proofs of the steps use.
pub mod BlockLaws
pub mod AgainLaws
pub mod ChainLaws
