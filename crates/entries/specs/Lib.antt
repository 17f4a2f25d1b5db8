-- Document 01's sizes, phases and entries as definitions.
pub mod Sizes
pub mod Phases
pub mod Entries
pub mod Facts
pub mod PhaseFacts
