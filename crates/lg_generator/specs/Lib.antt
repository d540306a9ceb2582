pub mod Made
pub mod MadeRuns
pub mod Summaries
pub mod SummaryParts
