mod Outside
mod Coordinates
pub mod Lifted
pub mod Cut
pub mod OneProduct
pub mod Through
