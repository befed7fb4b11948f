-- Laws about rows and stored outlines.
pub mod RowLaws
pub mod StoredLaws
pub mod CountLaws
pub mod WriteLaws
