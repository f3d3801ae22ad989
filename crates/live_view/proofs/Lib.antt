mod Prefixes
pub mod Lists
mod Adding
mod Ties
mod Rows
mod Counts
mod Looks
mod Within
mod ReadRows
pub mod ReadFrom
mod Follows
mod Parts
mod Examples
pub mod MayPublish
pub mod Crossing
