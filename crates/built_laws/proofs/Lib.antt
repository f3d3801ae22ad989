pub mod Values
pub mod Coordinates
pub mod Sorted
pub mod Making
pub mod Renamed
