-- Document 01's edges, a run with each of request 7's seven numbers, the machines that document 01 rules out and its traps, computed from the definitions.
pub mod Runs
pub mod Pictures
pub mod Bytes
pub mod Edges
pub mod Works
pub mod RuledOut
pub mod Rules
pub mod TrapRules
pub mod Traps
pub mod Lemmas
