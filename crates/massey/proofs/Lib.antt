mod Refusals
mod Values
mod Members
mod Spanning
pub mod Assembled
mod Causes
mod Positive
mod Maps
mod Composites
mod Chosen
mod MapValues
mod NextGoals
mod LastMap
pub mod Nearby
