pub mod Above
pub mod LastDegrees
