-- What is printed and packed, computed: document 01's run, each way in which a run stops, the pulled card, a slot in daily use, two small scripts.
-- Printing is how these compute.
pub mod Printing
pub mod WorkedRun
pub mod Stops
pub mod PulledCard
pub mod DailySlot
pub mod Texts
