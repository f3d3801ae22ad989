use Rattle.std.proofs.Common.{◌≡◌, ℕ, ℤ, None, Err, SFits, w32, to_z, of_z, rules, ap, sym, ◌∙◌, subst, arith, inr}
use Rattle.std.proofs.lemmas.Int.{to_z-of_z}
use Rattle.board_core.specs.declared.event.Entry.TheVariants.{Give, Back, Fail}
use Rattle.square_board.specs.Stocks.{IsNextOf, degree_of}
use Rattle.square_board.specs.Courses.{Course, state_of}
use Rattle.square_board.specs.Desks.{IsDesk}
use Rattle.square_board.proofs.Desks.{none_failed, desk_back, desk_lacked, desk_failed, desk_given}
use Rattle.square_board.proofs.Held.{none_of, job_given, goes_seen}
use Rattle.square_board.proofs.desk.Desk.give.Goals as goal

pub back-requires : goal.back-requires
back-requires g c =
    let w = g.T.Stock.words in
    let inside = c.job.inside in
    let t : ℤ = to_z w32 (of_z w32 inside.t) in
    let fits : SFits w32 inside.t = search rules in
    let at : t ≡ inside.t = to_z-of_z w32 inside.t fits in
    let is = job_given w _ _ _ c.args.self.now _ c.args.job.now t c.self.invariant c.self.view_is c.job.view_is at c.requires.job in
    is.held

pub invariant_of-self : goal.invariant_of-self
invariant_of-self g c =
    let w = g.T.Stock.words in
    let inside = c.job.inside in
    let t : ℤ = to_z w32 (of_z w32 inside.t) in
    let fits : SFits w32 inside.t = search rules in
    let at : t ≡ inside.t = to_z-of_z w32 inside.t fits in
    let is = job_given w _ _ _ c.args.self.now _ c.args.job.now t c.self.invariant c.self.view_is c.job.view_is at c.requires.job in
    let D : Course → Type 0 = λ x. IsDesk w c.self.inside.opening x c.self.inside.stock in
    subst D (sym c.back.ensures) (desk_back w _ _ _ c.self.invariant inside.who inside.s t is.held)

pub returns-in-Some-clause-is_desk : goal.returns-in-Some-clause-is_desk
returns-in-Some-clause-is_desk g c =
    let w = g.T.Stock.words in
    let inside = c.job.inside in
    let t : ℤ = to_z w32 (of_z w32 inside.t) in
    let fits : SFits w32 inside.t = search rules in
    let at : t ≡ inside.t = to_z-of_z w32 inside.t fits in
    let is = job_given w _ _ _ c.args.self.now _ c.args.job.now t c.self.invariant c.self.view_is c.job.view_is at c.requires.job in
    let D : Course → Type 0 = λ x. IsDesk w c.self.inside.opening x c.self.inside.stock in
    subst D (sym c.back.ensures) (desk_back w _ _ _ c.self.invariant inside.who inside.s t is.held)

pub overflow_cast-above : goal.overflow_cast-above
overflow_cast-above g c =
    let w = g.T.Stock.words in
    let inside = c.job.inside in
    let t : ℤ = to_z w32 (of_z w32 inside.t) in
    let fits : SFits w32 inside.t = search rules in
    let at : t ≡ inside.t = to_z-of_z w32 inside.t fits in
    let is = job_given w _ _ _ c.args.self.now _ c.args.job.now t c.self.invariant c.self.view_is c.job.view_is at c.requires.job in
    let short = is.short in
    let front = c.front-above.ensures.front in
    omega arith

pub put-requires-clause-takes : goal.put-requires-clause-takes
put-requires-clause-takes g c =
    let w = g.T.Stock.words in
    let inside = c.job.inside in
    let t : ℤ = to_z w32 (of_z w32 inside.t) in
    let fits : SFits w32 inside.t = search rules in
    let at : t ≡ inside.t = to_z-of_z w32 inside.t fits in
    let is = job_given w _ _ _ c.args.self.now _ c.args.job.now t c.self.invariant c.self.view_is c.job.view_is at c.requires.job in
    let none : (state_of c.self.inside.schedule).cause ≡ None = sym c.stopped.ensures.cause ∙ none_of c.stopped.result c.in_default.not-Some in
    c.self.invariant.takes (none_failed w _ _ _ c.self.invariant none)

pub put-requires-clause-next : goal.put-requires-clause-next
put-requires-clause-next g c =
    let w = g.T.Stock.words in
    let inside = c.job.inside in
    let t : ℤ = to_z w32 (of_z w32 inside.t) in
    let fits : SFits w32 inside.t = search rules in
    let at : t ≡ inside.t = to_z-of_z w32 inside.t fits in
    let is = job_given w _ _ _ c.args.self.now _ c.args.job.now t c.self.invariant c.self.view_is c.job.view_is at c.requires.job in
    let front : c.front-above.result ≡ is.above = c.front-above.ensures.front ∙ is.place.next in
    subst (λ (k : ℕ). IsNextOf w c.self.inside.stock inside.s k) (sym front) is.next

pub put-requires-clause-inputs : goal.put-requires-clause-inputs
put-requires-clause-inputs g c =
    let w = g.T.Stock.words in
    let inside = c.job.inside in
    let t : ℤ = to_z w32 (of_z w32 inside.t) in
    let fits : SFits w32 inside.t = search rules in
    let at : t ≡ inside.t = to_z-of_z w32 inside.t fits in
    let is = job_given w _ _ _ c.args.self.now _ c.args.job.now t c.self.invariant c.self.view_is c.job.view_is at c.requires.job in
    let front : c.front-above.result ≡ is.above = c.front-above.ensures.front ∙ is.place.next in
    subst (λ (k : ℕ). w.is_for (w.subject c.self.inside.stock) inside.s k inside.inputs) (sym front) is.is_for

pub give-requires : goal.give-requires
give-requires g c =
    let w = g.T.Stock.words in
    let inside = c.job.inside in
    let t : ℤ = to_z w32 (of_z w32 inside.t) in
    let fits : SFits w32 inside.t = search rules in
    let at : t ≡ inside.t = to_z-of_z w32 inside.t fits in
    let is = job_given w _ _ _ c.args.self.now _ c.args.job.now t c.self.invariant c.self.view_is c.job.view_is at c.requires.job in
    let none : (state_of c.self.inside.schedule).cause ≡ None = sym c.stopped.ensures.cause ∙ none_of c.stopped.result c.in_default.not-Some in
    record { no_cause = none; held = is.held }

pub fail-requires : goal.fail-requires
fail-requires g c =
    let w = g.T.Stock.words in
    let inside = c.job.inside in
    let t : ℤ = to_z w32 (of_z w32 inside.t) in
    let fits : SFits w32 inside.t = search rules in
    let at : t ≡ inside.t = to_z-of_z w32 inside.t fits in
    let is = job_given w _ _ _ c.args.self.now _ c.args.job.now t c.self.invariant c.self.view_is c.job.view_is at c.requires.job in
    let none : (state_of c.self.inside.schedule).cause ≡ None = sym c.stopped.ensures.cause ∙ none_of c.stopped.result c.in_default.not-Some in
    record { no_cause = none; held = is.held }

pub back-requires-in-Err-Memory : goal.back-requires-in-Err-Memory
back-requires-in-Err-Memory g c =
    let w = g.T.Stock.words in
    let inside = c.job.inside in
    let t : ℤ = to_z w32 (of_z w32 inside.t) in
    let fits : SFits w32 inside.t = search rules in
    let at : t ≡ inside.t = to_z-of_z w32 inside.t fits in
    let is = job_given w _ _ _ c.args.self.now _ c.args.job.now t c.self.invariant c.self.view_is c.job.view_is at c.requires.job in
    is.held

pub invariant_of-self-in-Ok : goal.invariant_of-self-in-Ok
invariant_of-self-in-Ok g c =
    let w = g.T.Stock.words in
    let inside = c.job.inside in
    let t : ℤ = to_z w32 (of_z w32 inside.t) in
    let fits : SFits w32 inside.t = search rules in
    let at : t ≡ inside.t = to_z-of_z w32 inside.t fits in
    let is = job_given w _ _ _ c.args.self.now _ c.args.job.now t c.self.invariant c.self.view_is c.job.view_is at c.requires.job in
    let none : (state_of c.self.inside.schedule).cause ≡ None = sym c.stopped.ensures.cause ∙ none_of c.stopped.result c.in_default.not-Some in
    let front : c.front-above.result ≡ is.above = c.front-above.ensures.front ∙ is.place.next in
    let degree : degree_of w (w.subject c.self.inside.stock) c.front-above.result ≡ t = ap (λ (k : ℕ). degree_of w (w.subject c.self.inside.stock) k) front ∙ is.put_at in
    let gives = subst (λ (u : ℤ). w.gives c.self.inside.stock inside.s u c.put.new.self) degree c.in-Ok.ensures.gives in
    let D : Course → Type 0 = λ x. IsDesk w c.self.inside.opening x c.put.new.self in
    subst D (sym c.give.ensures) (desk_given w _ _ _ c.self.invariant inside.who inside.s is.above t c.put.new.self (record { no_cause = none; held = is.held }) is.degree gives c.in-Ok.ensures.subject c.in-Ok.ensures.fronts c.in-Ok.ensures.takes)

pub returns-in-Ok-clause-is_desk : goal.returns-in-Ok-clause-is_desk
returns-in-Ok-clause-is_desk g c =
    let w = g.T.Stock.words in
    let inside = c.job.inside in
    let t : ℤ = to_z w32 (of_z w32 inside.t) in
    let fits : SFits w32 inside.t = search rules in
    let at : t ≡ inside.t = to_z-of_z w32 inside.t fits in
    let is = job_given w _ _ _ c.args.self.now _ c.args.job.now t c.self.invariant c.self.view_is c.job.view_is at c.requires.job in
    let none : (state_of c.self.inside.schedule).cause ≡ None = sym c.stopped.ensures.cause ∙ none_of c.stopped.result c.in_default.not-Some in
    let front : c.front-above.result ≡ is.above = c.front-above.ensures.front ∙ is.place.next in
    let degree : degree_of w (w.subject c.self.inside.stock) c.front-above.result ≡ t = ap (λ (k : ℕ). degree_of w (w.subject c.self.inside.stock) k) front ∙ is.put_at in
    let gives = subst (λ (u : ℤ). w.gives c.self.inside.stock inside.s u c.put.new.self) degree c.in-Ok.ensures.gives in
    let D : Course → Type 0 = λ x. IsDesk w c.self.inside.opening x c.put.new.self in
    subst D (sym c.give.ensures) (desk_given w _ _ _ c.self.invariant inside.who inside.s is.above t c.put.new.self (record { no_cause = none; held = is.held }) is.degree gives c.in-Ok.ensures.subject c.in-Ok.ensures.fronts c.in-Ok.ensures.takes)

pub invariant_of-self-in-Err-Failed : goal.invariant_of-self-in-Err-Failed
invariant_of-self-in-Err-Failed g c =
    let w = g.T.Stock.words in
    let inside = c.job.inside in
    let t : ℤ = to_z w32 (of_z w32 inside.t) in
    let fits : SFits w32 inside.t = search rules in
    let at : t ≡ inside.t = to_z-of_z w32 inside.t fits in
    let is = job_given w _ _ _ c.args.self.now _ c.args.job.now t c.self.invariant c.self.view_is c.job.view_is at c.requires.job in
    let none : (state_of c.self.inside.schedule).cause ≡ None = sym c.stopped.ensures.cause ∙ none_of c.stopped.result c.in_default.not-Some in
    let front : c.front-above.result ≡ is.above = c.front-above.ensures.front ∙ is.place.next in
    let degree : degree_of w (w.subject c.self.inside.stock) c.front-above.result ≡ t = ap (λ (k : ℕ). degree_of w (w.subject c.self.inside.stock) k) front ∙ is.put_at in
    let fails = subst (λ (u : ℤ). w.fails c.self.inside.stock inside.s u c.put.new.self) degree (c.in-Err-Failed.ensures.fails (ap Err c.in-Err-Failed.field-0-is)) in
    let D : Course → Type 0 = λ x. IsDesk w c.self.inside.opening x c.put.new.self in
    subst D (sym c.fail.ensures) (desk_failed w _ _ _ c.self.invariant inside.who inside.s t c.put.new.self (record { no_cause = none; held = is.held }) fails c.in-Err-Failed.ensures.subject c.in-Err-Failed.ensures.same)

pub returns-in-Err-Failed-clause-is_desk : goal.returns-in-Err-Failed-clause-is_desk
returns-in-Err-Failed-clause-is_desk g c =
    let w = g.T.Stock.words in
    let inside = c.job.inside in
    let t : ℤ = to_z w32 (of_z w32 inside.t) in
    let fits : SFits w32 inside.t = search rules in
    let at : t ≡ inside.t = to_z-of_z w32 inside.t fits in
    let is = job_given w _ _ _ c.args.self.now _ c.args.job.now t c.self.invariant c.self.view_is c.job.view_is at c.requires.job in
    let none : (state_of c.self.inside.schedule).cause ≡ None = sym c.stopped.ensures.cause ∙ none_of c.stopped.result c.in_default.not-Some in
    let front : c.front-above.result ≡ is.above = c.front-above.ensures.front ∙ is.place.next in
    let degree : degree_of w (w.subject c.self.inside.stock) c.front-above.result ≡ t = ap (λ (k : ℕ). degree_of w (w.subject c.self.inside.stock) k) front ∙ is.put_at in
    let fails = subst (λ (u : ℤ). w.fails c.self.inside.stock inside.s u c.put.new.self) degree (c.in-Err-Failed.ensures.fails (ap Err c.in-Err-Failed.field-0-is)) in
    let D : Course → Type 0 = λ x. IsDesk w c.self.inside.opening x c.put.new.self in
    subst D (sym c.fail.ensures) (desk_failed w _ _ _ c.self.invariant inside.who inside.s t c.put.new.self (record { no_cause = none; held = is.held }) fails c.in-Err-Failed.ensures.subject c.in-Err-Failed.ensures.same)

pub invariant_of-self-in-Err-Memory : goal.invariant_of-self-in-Err-Memory
invariant_of-self-in-Err-Memory g c =
    let w = g.T.Stock.words in
    let inside = c.job.inside in
    let t : ℤ = to_z w32 (of_z w32 inside.t) in
    let fits : SFits w32 inside.t = search rules in
    let at : t ≡ inside.t = to_z-of_z w32 inside.t fits in
    let is = job_given w _ _ _ c.args.self.now _ c.args.job.now t c.self.invariant c.self.view_is c.job.view_is at c.requires.job in
    let front : c.front-above.result ≡ is.above = c.front-above.ensures.front ∙ is.place.next in
    let degree : degree_of w (w.subject c.self.inside.stock) c.front-above.result ≡ t = ap (λ (k : ℕ). degree_of w (w.subject c.self.inside.stock) k) front ∙ is.put_at in
    let lacks = subst (λ (u : ℤ). w.lacks c.self.inside.stock inside.s u c.put.new.self) degree (c.in-Err-Memory.ensures.lacks (ap Err c.in-Err-Memory.field-0-is)) in
    let D : Course → Type 0 = λ x. IsDesk w c.self.inside.opening x c.put.new.self in
    subst D (sym c.back-in-Err-Memory.ensures) (desk_lacked w _ _ _ c.self.invariant inside.who inside.s t c.put.new.self is.held lacks c.in-Err-Memory.ensures.subject c.in-Err-Memory.ensures.same (c.in-Err-Memory.ensures.takes_still (ap Err c.in-Err-Memory.field-0-is)))

pub returns-in-Err-Memory-clause-is_desk : goal.returns-in-Err-Memory-clause-is_desk
returns-in-Err-Memory-clause-is_desk g c =
    let w = g.T.Stock.words in
    let inside = c.job.inside in
    let t : ℤ = to_z w32 (of_z w32 inside.t) in
    let fits : SFits w32 inside.t = search rules in
    let at : t ≡ inside.t = to_z-of_z w32 inside.t fits in
    let is = job_given w _ _ _ c.args.self.now _ c.args.job.now t c.self.invariant c.self.view_is c.job.view_is at c.requires.job in
    let front : c.front-above.result ≡ is.above = c.front-above.ensures.front ∙ is.place.next in
    let degree : degree_of w (w.subject c.self.inside.stock) c.front-above.result ≡ t = ap (λ (k : ℕ). degree_of w (w.subject c.self.inside.stock) k) front ∙ is.put_at in
    let lacks = subst (λ (u : ℤ). w.lacks c.self.inside.stock inside.s u c.put.new.self) degree (c.in-Err-Memory.ensures.lacks (ap Err c.in-Err-Memory.field-0-is)) in
    let D : Course → Type 0 = λ x. IsDesk w c.self.inside.opening x c.put.new.self in
    subst D (sym c.back-in-Err-Memory.ensures) (desk_lacked w _ _ _ c.self.invariant inside.who inside.s t c.put.new.self is.held lacks c.in-Err-Memory.ensures.subject c.in-Err-Memory.ensures.same (c.in-Err-Memory.ensures.takes_still (ap Err c.in-Err-Memory.field-0-is)))

pub returns-in-Ok-clause-goes : goal.returns-in-Ok-clause-goes
returns-in-Ok-clause-goes g c =
    let w = g.T.Stock.words in
    let inside = c.job.inside in
    let t : ℤ = to_z w32 (of_z w32 inside.t) in
    let fits : SFits w32 inside.t = search rules in
    let at : t ≡ inside.t = to_z-of_z w32 inside.t fits in
    let is = job_given w _ _ _ c.args.self.now _ c.args.job.now t c.self.invariant c.self.view_is c.job.view_is at c.requires.job in
    let front : c.front-above.result ≡ is.above = c.front-above.ensures.front ∙ is.place.next in
    let degree : degree_of w (w.subject c.self.inside.stock) c.front-above.result ≡ t = ap (λ (k : ℕ). degree_of w (w.subject c.self.inside.stock) k) front ∙ is.put_at in
    let gives = subst (λ (u : ℤ). w.gives c.self.inside.stock inside.s u c.put.new.self) degree c.in-Ok.ensures.gives in
    goes_seen w _ _ c.self.inside.stock c.put.new.self c.args.self.now _ c.args.job.now t (λ a b u. Give a b u) c.self.view_is c.job.view_is at gives

pub returns-in-Err-Failed-clause-goes : goal.returns-in-Err-Failed-clause-goes
returns-in-Err-Failed-clause-goes g c =
    let w = g.T.Stock.words in
    let inside = c.job.inside in
    let t : ℤ = to_z w32 (of_z w32 inside.t) in
    let fits : SFits w32 inside.t = search rules in
    let at : t ≡ inside.t = to_z-of_z w32 inside.t fits in
    let is = job_given w _ _ _ c.args.self.now _ c.args.job.now t c.self.invariant c.self.view_is c.job.view_is at c.requires.job in
    let front : c.front-above.result ≡ is.above = c.front-above.ensures.front ∙ is.place.next in
    let degree : degree_of w (w.subject c.self.inside.stock) c.front-above.result ≡ t = ap (λ (k : ℕ). degree_of w (w.subject c.self.inside.stock) k) front ∙ is.put_at in
    let fails = subst (λ (u : ℤ). w.fails c.self.inside.stock inside.s u c.put.new.self) degree (c.in-Err-Failed.ensures.fails (ap Err c.in-Err-Failed.field-0-is)) in
    goes_seen w _ _ c.self.inside.stock c.put.new.self c.args.self.now _ c.args.job.now t (λ a b u. Fail a b u) c.self.view_is c.job.view_is at fails

pub returns-in-Err-Memory-clause-goes : goal.returns-in-Err-Memory-clause-goes
returns-in-Err-Memory-clause-goes g c =
    let w = g.T.Stock.words in
    let inside = c.job.inside in
    let t : ℤ = to_z w32 (of_z w32 inside.t) in
    let fits : SFits w32 inside.t = search rules in
    let at : t ≡ inside.t = to_z-of_z w32 inside.t fits in
    let is = job_given w _ _ _ c.args.self.now _ c.args.job.now t c.self.invariant c.self.view_is c.job.view_is at c.requires.job in
    let front : c.front-above.result ≡ is.above = c.front-above.ensures.front ∙ is.place.next in
    let degree : degree_of w (w.subject c.self.inside.stock) c.front-above.result ≡ t = ap (λ (k : ℕ). degree_of w (w.subject c.self.inside.stock) k) front ∙ is.put_at in
    let lacks = subst (λ (u : ℤ). w.lacks c.self.inside.stock inside.s u c.put.new.self) degree (c.in-Err-Memory.ensures.lacks (ap Err c.in-Err-Memory.field-0-is)) in
    goes_seen w _ _ c.self.inside.stock c.put.new.self c.args.self.now _ c.args.job.now t (λ a b u. Back a b u) c.self.view_is c.job.view_is at (inr lacks)
