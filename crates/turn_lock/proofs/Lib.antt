pub mod Histories
mod Views
mod Looking
mod Holding
mod Seats
mod Passes
mod Rows
pub mod Numbers
pub mod Crossing
