-- What is computed of the inputs and the texts.
pub mod WorkedRun
pub mod Stops
pub mod PulledCard
pub mod DailySlot
pub mod Texts
