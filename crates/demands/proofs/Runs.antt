-- Demand 3: a program that runs, and how it ends.
pub mod LinesRun
pub mod Undisturbed
pub mod ByTheRules
pub mod Ends
pub mod Stops
pub mod Planned
