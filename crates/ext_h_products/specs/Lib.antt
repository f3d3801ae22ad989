pub mod RowOne
