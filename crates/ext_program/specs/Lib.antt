pub mod SecondLine
