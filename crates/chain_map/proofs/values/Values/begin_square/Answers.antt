use Rattle.std.proofs.Common.{◌≡◌, ℕ, List, Bool, [], ◌∷◌, ◌++◌, length, get_or, ap, sym, subst, ◌∙◌, arith}
use Rattle.chain_map.specs.Inside.{by_square, AreInOrder}
use Rattle.chain_map.proofs.Squares.{by_square-begun, start-begun, order-begun}
use Rattle.chain_map.proofs.values.Values.begin_square.Goals as goal
use Rattle.chain_map.proofs.values.Values.begin_square.Goals.{In_ok-push}

-- the places with the next one
firsts-are : (c : In_ok-push) → c.push.new.self.items ≡ c.self.inside.firsts.items ++ length c.self.inside.vectors.items ∷ []
firsts-are c =
    let count : c.len.result ≡ length c.self.inside.vectors.items = omega (arith, c.len.ensures, c.self.inside.vectors.ok) in
    c.in_ok-push.ensures.items ∙ ap (λ (n : ℕ). c.self.inside.firsts.items ++ n ∷ []) count

pub invariant_of-self-2 : goal.invariant_of-self-2
invariant_of-self-2 c =
    let inside = c.self.inside in
    let firsts = inside.firsts.items in
    let n = length inside.vectors.items in
    subst (λ (z : List ℕ). (get_or z 0 0 ≡ 0) × AreInOrder z n) (sym (firsts-are ((goal.at.invariant_of-self-2 c).In_ok-push))) (start-begun firsts n c.self.invariant.0 c.self.invariant.1, order-begun firsts n c.self.invariant.1)

pub returns-clause-ok : goal.returns-clause-ok
returns-clause-ok c =
    let inside = c.self.inside in
    ap (λ (z : List ℕ). by_square z inside.vectors.items) (firsts-are ((goal.at.returns-clause-ok c).In_ok-push))
    ∙ (by_square-begun inside.firsts.items inside.vectors.items c.self.invariant.0 c.self.invariant.1 ∙ ap (λ (z : List (List (List Bool))). z ++ [] ∷ []) c.self.view_is)
