pub mod FileLaw
