pub mod Agreement
pub mod Bare
mod ClassSteps
pub mod DumpSteps
pub mod Examples
mod ImageWidths
mod ProductSteps
pub mod RowSteps
pub mod Seen
pub mod Stems
pub mod Targets
mod SummarySteps
