pub mod Dots
pub mod OnCandidates
pub mod Relations
pub mod Step
mod Spread
mod Form
mod Clearing
mod Filling
mod AtPlaces
pub mod WantedColumns
mod Tables
pub mod Loops
mod Choosing
pub mod Units
