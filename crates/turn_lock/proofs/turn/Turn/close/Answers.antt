use Rattle.std.proofs.Common.{◌≡◌, ℕ, ◌<◌, ◌≤◌, List, All, false, Some, None, ap, sym, subst, ◌∙◌}
use Rattle.turn_lock.specs.History.{IsKnown}
use Rattle.turn_lock.specs.Turns.{PassState, TurnId, Continues, HasAll}
use Rattle.turn_lock.proofs.Seats.{closes, taken_out}
use Rattle.turn_lock.proofs.turn.Turn.close.Goals as goal

pub unreachable-requires : goal.unreachable-requires
unreachable-requires g c =
    let P : Type 0 = PassState g.row.T-Name.Denot g.row.T-Entry.Denot in
    let same = ap (λ (p : P). p.turn) c.pass.view_is ∙ (c.requires.pass ∙ sym c.self.view_is) in
    let free : c.pass.inside.seat.me.0.holds ≡ false = ap (λ (p : P). p.holds) c.pass.view_is ∙ c.requires.idle in
    let final = c.close_with-closed.ensures.values.2 in
    let e = closes g.T.Told.entries g.T.Told.name g.T.Told.front_of g.T.Told.width _ _ same final.0 _ c.pass.inside.number c.pass.inside.count c.pass.inside.seat.me final.1 c.pass.invariant free (subst HasAll (sym c.pass.view_is) c.requires.joined) in
    let out : c.take.result ≡ Some e.state = taken_out g.T.Told.entries g.T.Told.name _ _ _ _ _ _ _ c.take.result e final.4 c.take.ensures.value in
    let no : None ≡ Some e.state = sym c.in_default.is ∙ out in
    cc

pub returns-clause-name : goal.returns-clause-name
returns-clause-name g c =
    let P : Type 0 = PassState g.row.T-Name.Denot g.row.T-Entry.Denot in
    let same = ap (λ (p : P). p.turn) c.pass.view_is ∙ (c.requires.pass ∙ sym c.self.view_is) in
    let free : c.pass.inside.seat.me.0.holds ≡ false = ap (λ (p : P). p.holds) c.pass.view_is ∙ c.requires.idle in
    let final = c.close_with-closed.ensures.values.2 in
    let e = closes g.T.Told.entries g.T.Told.name g.T.Told.front_of g.T.Told.width _ _ same final.0 _ c.pass.inside.number c.pass.inside.count c.pass.inside.seat.me final.1 c.pass.invariant free (subst HasAll (sym c.pass.view_is) c.requires.joined) in
    let out : c.take.result ≡ Some e.state = taken_out g.T.Told.entries g.T.Told.name _ _ _ _ _ _ _ c.take.result e final.4 c.take.ensures.value in
    let is : Some c.in-Some.state ≡ Some e.state = sym c.in-Some.is ∙ out in
    let state : c.in-Some.state ≡ e.state = cc is in
    ap g.T.Told.name state ∙ (e.named ∙ ap (λ (t : TurnId g.row.T-Name.Denot). t.name) c.self.view_is)

pub returns-clause-whole : goal.returns-clause-whole
returns-clause-whole g c =
    let P : Type 0 = PassState g.row.T-Name.Denot g.row.T-Entry.Denot in
    let same = ap (λ (p : P). p.turn) c.pass.view_is ∙ (c.requires.pass ∙ sym c.self.view_is) in
    let free : c.pass.inside.seat.me.0.holds ≡ false = ap (λ (p : P). p.holds) c.pass.view_is ∙ c.requires.idle in
    let final = c.close_with-closed.ensures.values.2 in
    let e = closes g.T.Told.entries g.T.Told.name g.T.Told.front_of g.T.Told.width _ _ same final.0 _ c.pass.inside.number c.pass.inside.count c.pass.inside.seat.me final.1 c.pass.invariant free (subst HasAll (sym c.pass.view_is) c.requires.joined) in
    let out : c.take.result ≡ Some e.state = taken_out g.T.Told.entries g.T.Told.name _ _ _ _ _ _ _ c.take.result e final.4 c.take.ensures.value in
    let is : Some c.in-Some.state ≡ Some e.state = sym c.in-Some.is ∙ out in
    let state : c.in-Some.state ≡ e.state = cc is in
    ap g.T.Told.entries state ∙ (e.whole ∙ ap (λ (p : P). p.seen) c.pass.view_is)

pub returns-clause-fronts : goal.returns-clause-fronts
returns-clause-fronts g c =
    let P : Type 0 = PassState g.row.T-Name.Denot g.row.T-Entry.Denot in
    let same = ap (λ (p : P). p.turn) c.pass.view_is ∙ (c.requires.pass ∙ sym c.self.view_is) in
    let free : c.pass.inside.seat.me.0.holds ≡ false = ap (λ (p : P). p.holds) c.pass.view_is ∙ c.requires.idle in
    let final = c.close_with-closed.ensures.values.2 in
    let e = closes g.T.Told.entries g.T.Told.name g.T.Told.front_of g.T.Told.width _ _ same final.0 _ c.pass.inside.number c.pass.inside.count c.pass.inside.seat.me final.1 c.pass.invariant free (subst HasAll (sym c.pass.view_is) c.requires.joined) in
    let out : c.take.result ≡ Some e.state = taken_out g.T.Told.entries g.T.Told.name _ _ _ _ _ _ _ c.take.result e final.4 c.take.ensures.value in
    let is : Some c.in-Some.state ≡ Some e.state = sym c.in-Some.is ∙ out in
    let state : c.in-Some.state ≡ e.state = cc is in
    let E : Type 0 = g.row.T-Entry.Denot in
    let seen : c.pass.inside.seat.me.0.seen ≡ g.T.Told.entries c.in-Some.state = sym (ap g.T.Told.entries state ∙ e.whole) in
    let A : g.row.T-Name.Denot → List (ℕ × E) → List (ℕ × ℕ) → Type 0 = λ n l ts. All (λ (t : ℕ × ℕ). t.1 ≤ g.T.Told.front_of n l t.0) ts in
    let at_end : A c.args.self.name c.pass.inside.seat.me.0.seen c.pass.inside.seat.me.0.told = subst (λ n. A n c.pass.inside.seat.me.0.seen c.pass.inside.seat.me.0.told) (ap (λ (t : TurnId g.row.T-Name.Denot). t.name) c.self.view_is) e.fronts_told in
    subst (λ ts. A c.args.self.name (g.T.Told.entries c.in-Some.state) ts) (ap (λ (p : P). p.told) c.pass.view_is)
    (subst (λ l. A c.args.self.name l c.pass.inside.seat.me.0.told) seen at_end)

pub returns-clause-continues : goal.returns-clause-continues
returns-clause-continues g c =
    let P : Type 0 = PassState g.row.T-Name.Denot g.row.T-Entry.Denot in
    let same = ap (λ (p : P). p.turn) c.pass.view_is ∙ (c.requires.pass ∙ sym c.self.view_is) in
    let free : c.pass.inside.seat.me.0.holds ≡ false = ap (λ (p : P). p.holds) c.pass.view_is ∙ c.requires.idle in
    let final = c.close_with-closed.ensures.values.2 in
    let e = closes g.T.Told.entries g.T.Told.name g.T.Told.front_of g.T.Told.width _ _ same final.0 _ c.pass.inside.number c.pass.inside.count c.pass.inside.seat.me final.1 c.pass.invariant free (subst HasAll (sym c.pass.view_is) c.requires.joined) in
    let out : c.take.result ≡ Some e.state = taken_out g.T.Told.entries g.T.Told.name _ _ _ _ _ _ _ c.take.result e final.4 c.take.ensures.value in
    let is : Some c.in-Some.state ≡ Some e.state = sym c.in-Some.is ∙ out in
    let state : c.in-Some.state ≡ e.state = cc is in
    let seen : c.pass.inside.seat.me.0.seen ≡ g.T.Told.entries c.in-Some.state = sym (ap g.T.Told.entries state ∙ e.whole) in
    subst (λ (p : P). Continues p (g.T.Told.entries c.in-Some.state)) c.pass.view_is
    (subst (λ l. IsKnown c.pass.inside.number c.pass.inside.seat.me.0.seen c.pass.inside.seat.me.0.latest c.pass.inside.seat.me.0.own c.pass.inside.seat.me.0.joined l) seen e.known)

pub returns-clause-only : goal.returns-clause-only
returns-clause-only g c =
    let P : Type 0 = PassState g.row.T-Name.Denot g.row.T-Entry.Denot in
    let same = ap (λ (p : P). p.turn) c.pass.view_is ∙ (c.requires.pass ∙ sym c.self.view_is) in
    let free : c.pass.inside.seat.me.0.holds ≡ false = ap (λ (p : P). p.holds) c.pass.view_is ∙ c.requires.idle in
    let final = c.close_with-closed.ensures.values.2 in
    let e = closes g.T.Told.entries g.T.Told.name g.T.Told.front_of g.T.Told.width _ _ same final.0 _ c.pass.inside.number c.pass.inside.count c.pass.inside.seat.me final.1 c.pass.invariant free (subst HasAll (sym c.pass.view_is) c.requires.joined) in
    let out : c.take.result ≡ Some e.state = taken_out g.T.Told.entries g.T.Told.name _ _ _ _ _ _ _ c.take.result e final.4 c.take.ensures.value in
    let is : Some c.in-Some.state ≡ Some e.state = sym c.in-Some.is ∙ out in
    let state : c.in-Some.state ≡ e.state = cc is in
    let seen : c.pass.inside.seat.me.0.seen ≡ g.T.Told.entries c.in-Some.state = sym (ap g.T.Told.entries state ∙ e.whole) in
    let passes : c.self.inside.table.shared.key.passes ≡ c.args.self.passes = ap (λ (t : TurnId g.row.T-Name.Denot). t.passes) c.self.view_is in
    let O : ℕ → List (ℕ × g.row.T-Entry.Denot) → Type 0 = λ n l. All (λ (x : ℕ × g.row.T-Entry.Denot). x.0 < n) l in
    subst (λ n. O n (g.T.Told.entries c.in-Some.state)) passes (subst (λ l. O c.self.inside.table.shared.key.passes l) seen e.only)
