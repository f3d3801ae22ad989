use Rattle.std.proofs.Common.{◌≡◌, ◌<◌, ◌≤ℤ◌, ℕ, length, get_or, set, to_z, of_z, w32, ap, sym, subst, ◌∙◌, arith}
use Rattle.std.proofs.lemmas.Int.{to_z-of_z}
use Rattle.std.proofs.lemmas.List.{get_or_default}
use Rattle.free_module.specs.FreeModule.{degree_at}
use Rattle.square.specs.Squares.{over}
use Rattle.resolution_images.specs.BareRows.{no_bare_row, bare_row_in}
use Rattle.chart_rows.specs.Standing.{AreCharted}
use Rattle.chart_rows.proofs.Growing.{charted_more, put_is, none_above}
use Rattle.chart_rows.proofs.place.Place.put.Goals as goal

pub push-requires : goal.push-requires
push-requires c =
    let self = c.args.self.now in
    let m = over self.module.now in
    let rows = c.args.rows.now in
    let d = c.index-rows-from.result in
    let e : c.from.result ≡ self.s = omega (arith, c.from.ensures) in
    let t = to_z w32 (of_z w32 c.degree.result) in
    let at = to_z-of_z w32 c.degree.result (record { sfits = c.degree.type_inv }) ∙ c.degree.ensures in
    let within : self.s < length rows = omega (arith, c.requires.rows.count, c.requires.row) in
    let here : get_or rows self.s d ≡ bare_row_in rows self.s = get_or_default rows self.s d no_bare_row within in
    record {
      not_below =
          subst (λ (x : ℕ). (g : ℕ) → g < length (get_or rows x d).degrees → degree_at (get_or rows x d).degrees g ≤ℤ t) (sym e)
          (none_above m rows self.s self.k c.args.square.now (get_or rows self.s d) t c.requires.rows c.requires.row c.in_ok-look.ensures.may here at);
    }

pub returns-clause-charted : goal.returns-clause-charted
returns-clause-charted c =
    let self = c.args.self.now in
    let m = over self.module.now in
    let rows = c.args.rows.now in
    let q = c.args.square.now in
    let d = c.index-rows-from.result in
    let more = c.push.new.self in
    let e : c.from.result ≡ self.s = omega (arith, c.from.ensures) in
    let t = to_z w32 (of_z w32 c.degree.result) in
    let at = to_z-of_z w32 c.degree.result (record { sfits = c.degree.type_inv }) ∙ c.degree.ensures in
    let within : self.s < length rows = omega (arith, c.requires.rows.count, c.requires.row) in
    let read : get_or rows c.from.result d ≡ get_or rows self.s d = ap (λ x. get_or rows x d) e in
    let here = read ∙ get_or_default rows self.s d no_bare_row within in
    let is = put_is m rows self.s self.k q (get_or rows c.from.result d) more t c.in_ok-images.images.items here at (c.in_ok-images.ensures ∙ c.images.ensures.images) c.in_ok-push.ensures.ok in
    subst (λ x. AreCharted m (set rows x more)) (sym e)
    (subst (AreCharted m) (sym is) (charted_more m rows self.s self.k q c.requires.rows c.requires.row c.requires.degree c.in_ok-look.ensures.may c.images.ensures.bare.widths))
