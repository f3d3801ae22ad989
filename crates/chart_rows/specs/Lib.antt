pub mod Standing
pub mod Placing
pub mod Canonical
pub mod Within
