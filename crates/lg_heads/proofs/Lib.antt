pub mod FieldLemmas
pub mod HeadLines
pub mod Prefixes
pub mod ScanLemmas
pub mod VerdictLemmas
