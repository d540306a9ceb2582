mod Lines
mod Counting
mod Endings
