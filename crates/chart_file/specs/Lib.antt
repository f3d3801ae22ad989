pub mod Parts
pub mod Faults
pub mod Laws
pub mod Files
