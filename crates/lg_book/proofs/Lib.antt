pub mod Lists
mod LedgerMaps
mod Places
mod FoundRecords
mod BookReads
mod Copies
mod BookSteps
pub mod EntryIds
mod ForgetSteps
mod IndexSteps
mod RecordSteps
pub mod Sound
mod Views
