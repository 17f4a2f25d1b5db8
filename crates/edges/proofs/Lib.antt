-- What is computed of the edges, the run, the machines that are ruled out and the traps.
pub mod Edges
pub mod Works
pub mod RuledOut
pub mod Traps
