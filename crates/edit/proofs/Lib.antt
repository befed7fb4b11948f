-- Laws about the tree edit.
pub mod FillLaws
pub mod DoneLaws
