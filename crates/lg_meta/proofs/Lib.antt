mod Cuts
mod Folds
mod Logs
mod Marking
mod Marks
mod Histories
mod Readings
mod Rising
