-- The exponents from the k-th on are chosen.
use Rattle.std.proofs.Common.{◌≡◌, ◌+◌, ◌≤◌, length, take, drop}
use Rattle.milnor_basis.specs.Exponents.{degree_of}
use Rattle.milnor_basis.specs.Basis.{lists_of, basis_of}
use Rattle.milnor_basis.specs.Inside.FreeRows.{ArePlaced}
use Rattle.milnor_basis.proofs.all_products.fill_last.Given as goal

abbrev pub invariant-loop-k : goal.invariant-loop-k
invariant-loop-k l = record {
  low : l.width + 1 ≤ l.k;
  high : l.k ≤ 9;
  small : l.term.degree ≤ l.degrees.1;
  weight : l.term.degree ≡ degree_of (take l.k l.open.diagonals) + (degree_of (take l.width l.open.columns) + l.room);
  room : l.term.place + length (lists_of l.k l.term.degree) ≤ length (basis_of l.degrees.1);
  placed : ArePlaced l.degrees.1 l.k l.term.degree l.term.place (drop l.k l.open.diagonals);
}

abbrev pub decreases-loop-k : goal.decreases-loop-k
decreases-loop-k l = l.k
