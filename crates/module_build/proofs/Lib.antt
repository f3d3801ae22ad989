mod SplittingLists
mod Entries
pub mod LimitCases
mod Constructed
mod OperatorLists
mod Duals
mod Arms
mod FileSteps
