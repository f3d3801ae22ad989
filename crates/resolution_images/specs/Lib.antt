pub mod BareRows
pub mod Made
pub mod Inside
