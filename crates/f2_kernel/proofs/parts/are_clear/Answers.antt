use Rattle.f2_kernel.proofs.parts.are_clear.Goals as goal

pub returns : goal.returns
returns c = (
  λ t. λ i j p l first. c.are_zero_at.ensures.0 t i p l (c.in_ok-pivots.ensures.marks_all j p first),
  λ h. c.are_zero_at.ensures.1 (λ i p l mark. let found = c.in_ok-pivots.ensures.marked p mark in h i found.0 p l found.1),
)
