pub mod Inside
pub mod Remark
pub mod Words
