-- What the proofs speak of behind the definitions: the target of d_s, as its vectors are written.
pub mod Targets
