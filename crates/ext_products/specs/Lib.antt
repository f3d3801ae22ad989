pub mod Products
pub mod Inside
