-- Lemmas that an `impl` cites, and the terms of vectors: no public contract stands on them.
pub mod FreeLaws
pub mod Terms
