-- What the proofs speak of behind the definitions: where the numbers of a body say that its parts are, what is refused, and the laws of the
-- keeper.
pub mod Differentials
pub mod Exactness
pub mod Outline
pub mod Reach
pub mod SavingLaws
pub mod Taking
