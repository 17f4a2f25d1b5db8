-- Document 01 as definitions, one file for each part of its text, in its order.
pub mod Parts
pub mod Soundness
pub mod Sound
pub mod Fresh
pub mod Calls
pub mod GoOn
pub mod Answers
pub mod Told
pub mod Operations
pub mod Refusals
pub mod Accepted
pub mod Admits
pub mod Step
pub mod Count
pub mod Computing
