pub mod RequestRows
