pub mod Times
