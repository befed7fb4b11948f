-- Laws that the proofs of the steps use.
pub mod KeptLaws
pub mod LayoutLaws
pub mod IndexWriterLaws
