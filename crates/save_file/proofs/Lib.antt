mod Unpacking
mod RowByRow
mod Outlines
mod Bodies
mod Examples
pub mod Rules
pub mod Entries
mod Decoding
mod DecodingQuasi
mod Encoding
mod Appending
pub mod Pushing
mod Reductions
mod Inverting
mod Inexact
pub mod Adding
pub mod Keeping
pub mod TakingUp
mod TakenUp
mod Keeps
mod Behind
mod There
