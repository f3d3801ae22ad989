use Rattle.std.proofs.Common.{◌≡◌, ℤ, SFits, w32, to_z, of_z, rules, sym, subst}
use Rattle.std.proofs.lemmas.Int.{to_z-of_z}
use Rattle.square_board.specs.Courses.{Course}
use Rattle.square_board.specs.Desks.{IsDesk}
use Rattle.square_board.proofs.Desks.{desk_back}
use Rattle.square_board.proofs.Held.{job_given}
use Rattle.square_board.proofs.desk.Desk.back.Goals as goal

pub back-requires : goal.back-requires
back-requires g c =
    let w = g.T.Stock.words in
    let inside = c.job.inside in
    let t : ℤ = to_z w32 (of_z w32 inside.t) in
    let fits : SFits w32 inside.t = search rules in
    let at : t ≡ inside.t = to_z-of_z w32 inside.t fits in
    let is = job_given w _ _ _ c.args.self.now _ c.args.job.now t c.self.invariant c.self.view_is c.job.view_is at c.requires.job in
    is.held

pub invariant_of-self : goal.invariant_of-self
invariant_of-self g c =
    let w = g.T.Stock.words in
    let inside = c.job.inside in
    let t : ℤ = to_z w32 (of_z w32 inside.t) in
    let fits : SFits w32 inside.t = search rules in
    let at : t ≡ inside.t = to_z-of_z w32 inside.t fits in
    let is = job_given w _ _ _ c.args.self.now _ c.args.job.now t c.self.invariant c.self.view_is c.job.view_is at c.requires.job in
    let D : Course → Type 0 = λ x. IsDesk w c.self.inside.opening x c.self.inside.stock in
    subst D (sym c.back.ensures) (desk_back w _ _ _ c.self.invariant inside.who inside.s t is.held)

pub returns-clause-is_desk : goal.returns-clause-is_desk
returns-clause-is_desk g c =
    let w = g.T.Stock.words in
    let inside = c.job.inside in
    let t : ℤ = to_z w32 (of_z w32 inside.t) in
    let fits : SFits w32 inside.t = search rules in
    let at : t ≡ inside.t = to_z-of_z w32 inside.t fits in
    let is = job_given w _ _ _ c.args.self.now _ c.args.job.now t c.self.invariant c.self.view_is c.job.view_is at c.requires.job in
    let D : Course → Type 0 = λ x. IsDesk w c.self.inside.opening x c.self.inside.stock in
    subst D (sym c.back.ensures) (desk_back w _ _ _ c.self.invariant inside.who inside.s t is.held)
