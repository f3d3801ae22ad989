mod Coaction
pub mod Multinomials
pub mod Periods
