-- What private contracts, invariants and rules cite: how a view is read from a board, how it lies in memory, and by which rules the list of
-- published views and the two copies of the newest are kept.
pub mod Reading
pub mod Rows
pub mod SeriesRules
pub mod Ties
