-- What the proofs speak of behind the definitions: the command line as `clap` is told of it.
pub mod CommandLine
