-- Laws that the proofs of the leaf functions and of their callers cite.
pub mod FindLaws
pub mod TextLaws
pub mod NumberLaws
pub mod LineLaws
pub mod ExactLaws
pub mod SplitLaws
