use Rattle.std.proofs.Common.{◌≡◌, ◌↔◌, ◌<◌, ◌-◌, ℕ, suc, Bool, IsTrue, length, take, to_z, of_z, w32, ap, sym, ◌∙◌, arith}
use Rattle.std.proofs.lemmas.Int.{to_z-of_z}
use Rattle.f2_vec.specs.Vectors.{IsZero}
use Rattle.f2_vec.specs.Spans.{row}
use Rattle.finite_module.specs.Checked.{Checked}
use Rattle.finite_module.specs.Graded.{module_graded}
use Rattle.free_module.specs.Graded.{free_graded}
use Rattle.free_module.specs.LinearMap.{mapped}
use Rattle.resolution_laws.specs.Resolution.{degrees_from, images_of, row_of}
use Rattle.resolution_laws.proofs.Rows.{IsWithinReach-row}
use Rattle.square.specs.Squares.{over}
use Rattle.resolution_images.specs.BareRows.{squares_of}
use Rattle.resolution_images.proofs.Standing.{if_ok_both}
use Rattle.chart_rows.specs.Standing.{target_below, whole_row, AreCycles}
use Rattle.chart_rows.proofs.Looking.{IsBelow, target_free, below_images, below_reach, below_widths, below_cycles}
use Rattle.chart_rows.proofs.place.Place.are_cycles.Goals as goal

-- ---- over the module

pub new-hom-requires : goal.new-hom-requires
new-hom-requires c =
    let self = c.args.self.now in
    let m = over self.module.now in
    let rows = c.args.rows.now in
    let squares = squares_of rows in
    let s = self.s in
    let k = self.k in
    let i = c.from-i.result - 1 in
    let n = c.saturating_sub.result in
    let t = to_z w32 (of_z w32 c.degree-t.result) in
    let above : s ≡ suc i = omega (arith, c.from-i.ensures, c.if-self-eq0.false) in
    let here : c.from-k.result ≡ k = omega (arith, c.from-k.ensures) in
    let cut : n ≡ k - 1 = omega (arith, c.saturating_sub.ensures, here) in
    let at = to_z-of_z w32 c.degree-t.result (record { sfits = c.degree-t.type_inv }) ∙ c.degree-t.ensures in
    let degrees_are : c.in_ok-source.source ≡ degrees_from m.bottom (take k (row_of squares i)) = c.in_ok-source.ensures ∙ ap (λ x. degrees_from m.bottom (take x (row_of squares i))) here in
    let images_are : c.in_ok-images.images.items ≡ images_of (whole_row squares i n k) = c.in_ok-images.ensures ∙ ap (λ x. images_of (whole_row squares i n x)) here in
    let first : i ≡ 0 = omega (arith, c.if-i-eq0.true) in
    let target_is = sym (ap (λ x. target_below m squares x n) first) in
    let o : IsBelow m rows s k i n m.graded c.in_ok-source.source c.as_slice.result.now t = record { above = above; cut = cut; target_is = target_is; degrees_are = degrees_are; images_are = c.as_slice.ensures.value ∙ images_are; at = at } in
    below_images m rows s k i n m.graded c.in_ok-source.source c.as_slice.result.now t o c.requires.rows c.requires.row c.requires.next

pub are_taken_to_zero-requires-clause-source : goal.are_taken_to_zero-requires-clause-source
are_taken_to_zero-requires-clause-source c =
    let self = c.args.self.now in
    let m = over self.module.now in
    let rows = c.args.rows.now in
    let squares = squares_of rows in
    let s = self.s in
    let k = self.k in
    let i = c.from-i.result - 1 in
    let n = c.saturating_sub.result in
    let t = to_z w32 (of_z w32 c.degree-t.result) in
    let above : s ≡ suc i = omega (arith, c.from-i.ensures, c.if-self-eq0.false) in
    let here : c.from-k.result ≡ k = omega (arith, c.from-k.ensures) in
    let cut : n ≡ k - 1 = omega (arith, c.saturating_sub.ensures, here) in
    let at = to_z-of_z w32 c.degree-t.result (record { sfits = c.degree-t.type_inv }) ∙ c.degree-t.ensures in
    let degrees_are : c.in_ok-source.source ≡ degrees_from m.bottom (take k (row_of squares i)) = c.in_ok-source.ensures ∙ ap (λ x. degrees_from m.bottom (take x (row_of squares i))) here in
    let images_are : c.in_ok-images.images.items ≡ images_of (whole_row squares i n k) = c.in_ok-images.ensures ∙ ap (λ x. images_of (whole_row squares i n x)) here in
    let first : i ≡ 0 = omega (arith, c.if-i-eq0.true) in
    let target_is = sym (ap (λ x. target_below m squares x n) first) in
    let hom = c.new-hom.result in
    let o : IsBelow m rows s k i n (module_graded hom.target.now.plain) hom.source.now hom.images.now t = record {
      above = above;
      cut = cut;
      target_is = ap (λ (x : Checked). module_graded x.plain) c.new-hom.ensures.target ∙ target_is;
      degrees_are = c.new-hom.ensures.source ∙ degrees_are;
      images_are = c.new-hom.ensures.images ∙ c.as_slice.ensures.value ∙ images_are;
      at = at;
    } in
    below_reach m rows s k i n (module_graded hom.target.now.plain) hom.source.now hom.images.now t o hom.basis.now (omega (arith, c.new-hom.ensures.basis, c.requires.basis))

pub returns-then-i-eq0 : goal.returns-then-i-eq0
returns-then-i-eq0 c =
    let self = c.args.self.now in
    let m = over self.module.now in
    let rows = c.args.rows.now in
    let squares = squares_of rows in
    let s = self.s in
    let k = self.k in
    let i = c.from-i.result - 1 in
    let n = c.saturating_sub.result in
    let t = to_z w32 (of_z w32 c.degree-t.result) in
    let above : s ≡ suc i = omega (arith, c.from-i.ensures, c.if-self-eq0.false) in
    let here : c.from-k.result ≡ k = omega (arith, c.from-k.ensures) in
    let cut : n ≡ k - 1 = omega (arith, c.saturating_sub.ensures, here) in
    let at = to_z-of_z w32 c.degree-t.result (record { sfits = c.degree-t.type_inv }) ∙ c.degree-t.ensures in
    let degrees_are : c.in_ok-source.source ≡ degrees_from m.bottom (take k (row_of squares i)) = c.in_ok-source.ensures ∙ ap (λ x. degrees_from m.bottom (take x (row_of squares i))) here in
    let images_are : c.in_ok-images.images.items ≡ images_of (whole_row squares i n k) = c.in_ok-images.ensures ∙ ap (λ x. images_of (whole_row squares i n x)) here in
    let first : i ≡ 0 = omega (arith, c.if-i-eq0.true) in
    let target_is = sym (ap (λ x. target_below m squares x n) first) in
    let hom = c.new-hom.result in
    let o : IsBelow m rows s k i n (module_graded hom.target.now.plain) hom.source.now hom.images.now t = record {
      above = above;
      cut = cut;
      target_is = ap (λ (x : Checked). module_graded x.plain) c.new-hom.ensures.target ∙ target_is;
      degrees_are = c.new-hom.ensures.source ∙ degrees_are;
      images_are = c.new-hom.ensures.images ∙ c.as_slice.ensures.value ∙ images_are;
      at = at;
    } in
    let told : (b : Bool) → Type 0 = λ b. IsTrue b ↔ ((h : ℕ) → h < length c.args.vectors.now → IsZero (mapped (module_graded hom.target.now.plain) hom.source.now hom.images.now t (row c.args.vectors.now h))) in
    if_ok_both c.are_taken_to_zero.result told told (λ b. IsTrue b ↔ AreCycles m squares s k c.args.vectors.now)
    (λ b x y. below_cycles m rows s k i n (module_graded hom.target.now.plain) hom.source.now hom.images.now t o c.args.vectors.now b x) c.are_taken_to_zero.ensures c.are_taken_to_zero.ensures

-- ---- over the row below

pub new-hom-requires-2 : goal.new-hom-requires-2
new-hom-requires-2 c =
    let self = c.args.self.now in
    let m = over self.module.now in
    let rows = c.args.rows.now in
    let squares = squares_of rows in
    let s = self.s in
    let k = self.k in
    let i = c.from-i.result - 1 in
    let n = c.saturating_sub.result in
    let t = to_z w32 (of_z w32 c.degree-t.result) in
    let above : s ≡ suc i = omega (arith, c.from-i.ensures, c.if-self-eq0.false) in
    let here : c.from-k.result ≡ k = omega (arith, c.from-k.ensures) in
    let cut : n ≡ k - 1 = omega (arith, c.saturating_sub.ensures, here) in
    let at = to_z-of_z w32 c.degree-t.result (record { sfits = c.degree-t.type_inv }) ∙ c.degree-t.ensures in
    let degrees_are : c.in_ok-source.source ≡ degrees_from m.bottom (take k (row_of squares i)) = c.in_ok-source.ensures ∙ ap (λ x. degrees_from m.bottom (take x (row_of squares i))) here in
    let images_are : c.in_ok-images.images.items ≡ images_of (whole_row squares i n k) = c.in_ok-images.ensures ∙ ap (λ x. images_of (whole_row squares i n x)) here in
    let next : i ≡ suc (i - 1) = omega (arith, c.if-i-eq0.false) in
    let less : c.saturating_sub-2.result ≡ n = omega (arith, c.saturating_sub-2.ensures, c.saturating_sub.ensures) in
    let target_is = target_free m squares i (i - 1) n c.saturating_sub-2.result c.in_ok-target.target next less c.in_ok-target.ensures in
    let o : IsBelow m rows s k i n (free_graded c.in_ok-target.target) c.in_ok-source.source c.as_slice-2.result.now t = record { above = above; cut = cut; target_is = target_is; degrees_are = degrees_are; images_are = c.as_slice-2.ensures.value ∙ images_are; at = at } in
    below_images m rows s k i n (free_graded c.in_ok-target.target) c.in_ok-source.source c.as_slice-2.result.now t o c.requires.rows c.requires.row c.requires.next

pub are_taken_to_zero-requires-2-clause-widths : goal.are_taken_to_zero-requires-2-clause-widths
are_taken_to_zero-requires-2-clause-widths c =
    let self = c.args.self.now in
    let m = over self.module.now in
    let rows = c.args.rows.now in
    let squares = squares_of rows in
    let s = self.s in
    let k = self.k in
    let i = c.from-i.result - 1 in
    let n = c.saturating_sub.result in
    let t = to_z w32 (of_z w32 c.degree-t.result) in
    let above : s ≡ suc i = omega (arith, c.from-i.ensures, c.if-self-eq0.false) in
    let here : c.from-k.result ≡ k = omega (arith, c.from-k.ensures) in
    let cut : n ≡ k - 1 = omega (arith, c.saturating_sub.ensures, here) in
    let at = to_z-of_z w32 c.degree-t.result (record { sfits = c.degree-t.type_inv }) ∙ c.degree-t.ensures in
    let degrees_are : c.in_ok-source.source ≡ degrees_from m.bottom (take k (row_of squares i)) = c.in_ok-source.ensures ∙ ap (λ x. degrees_from m.bottom (take x (row_of squares i))) here in
    let images_are : c.in_ok-images.images.items ≡ images_of (whole_row squares i n k) = c.in_ok-images.ensures ∙ ap (λ x. images_of (whole_row squares i n x)) here in
    let next : i ≡ suc (i - 1) = omega (arith, c.if-i-eq0.false) in
    let less : c.saturating_sub-2.result ≡ n = omega (arith, c.saturating_sub-2.ensures, c.saturating_sub.ensures) in
    let target_is = target_free m squares i (i - 1) n c.saturating_sub-2.result c.in_ok-target.target next less c.in_ok-target.ensures in
    let hom = c.new-hom-2.result in
    let o : IsBelow m rows s k i n (free_graded hom.target.now) hom.source.now hom.images.now t = record {
      above = above;
      cut = cut;
      target_is = ap free_graded c.new-hom-2.ensures.target ∙ target_is;
      degrees_are = c.new-hom-2.ensures.source ∙ degrees_are;
      images_are = c.new-hom-2.ensures.images ∙ c.as_slice-2.ensures.value ∙ images_are;
      at = at;
    } in
    below_widths m rows s k i n (free_graded hom.target.now) hom.source.now hom.images.now t o c.args.vectors.now c.requires.widths

pub are_taken_to_zero-requires-2-clause-source : goal.are_taken_to_zero-requires-2-clause-source
are_taken_to_zero-requires-2-clause-source c =
    let self = c.args.self.now in
    let m = over self.module.now in
    let rows = c.args.rows.now in
    let squares = squares_of rows in
    let s = self.s in
    let k = self.k in
    let i = c.from-i.result - 1 in
    let n = c.saturating_sub.result in
    let t = to_z w32 (of_z w32 c.degree-t.result) in
    let above : s ≡ suc i = omega (arith, c.from-i.ensures, c.if-self-eq0.false) in
    let here : c.from-k.result ≡ k = omega (arith, c.from-k.ensures) in
    let cut : n ≡ k - 1 = omega (arith, c.saturating_sub.ensures, here) in
    let at = to_z-of_z w32 c.degree-t.result (record { sfits = c.degree-t.type_inv }) ∙ c.degree-t.ensures in
    let degrees_are : c.in_ok-source.source ≡ degrees_from m.bottom (take k (row_of squares i)) = c.in_ok-source.ensures ∙ ap (λ x. degrees_from m.bottom (take x (row_of squares i))) here in
    let images_are : c.in_ok-images.images.items ≡ images_of (whole_row squares i n k) = c.in_ok-images.ensures ∙ ap (λ x. images_of (whole_row squares i n x)) here in
    let next : i ≡ suc (i - 1) = omega (arith, c.if-i-eq0.false) in
    let less : c.saturating_sub-2.result ≡ n = omega (arith, c.saturating_sub-2.ensures, c.saturating_sub.ensures) in
    let target_is = target_free m squares i (i - 1) n c.saturating_sub-2.result c.in_ok-target.target next less c.in_ok-target.ensures in
    let hom = c.new-hom-2.result in
    let o : IsBelow m rows s k i n (free_graded hom.target.now) hom.source.now hom.images.now t = record {
      above = above;
      cut = cut;
      target_is = ap free_graded c.new-hom-2.ensures.target ∙ target_is;
      degrees_are = c.new-hom-2.ensures.source ∙ degrees_are;
      images_are = c.new-hom-2.ensures.images ∙ c.as_slice-2.ensures.value ∙ images_are;
      at = at;
    } in
    below_reach m rows s k i n (free_graded hom.target.now) hom.source.now hom.images.now t o hom.basis.now (omega (arith, c.new-hom-2.ensures.basis, c.requires.basis))

pub are_taken_to_zero-requires-2-clause-target : goal.are_taken_to_zero-requires-2-clause-target
are_taken_to_zero-requires-2-clause-target c =
    let self = c.args.self.now in
    let m = over self.module.now in
    let rows = c.args.rows.now in
    let squares = squares_of rows in
    let s = self.s in
    let k = self.k in
    let i = c.from-i.result - 1 in
    let n = c.saturating_sub.result in
    let t = to_z w32 (of_z w32 c.degree-t.result) in
    let above : s ≡ suc i = omega (arith, c.from-i.ensures, c.if-self-eq0.false) in
    let here : c.from-k.result ≡ k = omega (arith, c.from-k.ensures) in
    let cut : n ≡ k - 1 = omega (arith, c.saturating_sub.ensures, here) in
    let at = to_z-of_z w32 c.degree-t.result (record { sfits = c.degree-t.type_inv }) ∙ c.degree-t.ensures in
    let degrees_are : c.in_ok-source.source ≡ degrees_from m.bottom (take k (row_of squares i)) = c.in_ok-source.ensures ∙ ap (λ x. degrees_from m.bottom (take x (row_of squares i))) here in
    let images_are : c.in_ok-images.images.items ≡ images_of (whole_row squares i n k) = c.in_ok-images.ensures ∙ ap (λ x. images_of (whole_row squares i n x)) here in
    let next : i ≡ suc (i - 1) = omega (arith, c.if-i-eq0.false) in
    let less : c.saturating_sub-2.result ≡ n = omega (arith, c.saturating_sub-2.ensures, c.saturating_sub.ensures) in
    let target_is = target_free m squares i (i - 1) n c.saturating_sub-2.result c.in_ok-target.target next less c.in_ok-target.ensures in
    let hom = c.new-hom-2.result in
    let o : IsBelow m rows s k i n (free_graded hom.target.now) hom.source.now hom.images.now t = record {
      above = above;
      cut = cut;
      target_is = ap free_graded c.new-hom-2.ensures.target ∙ target_is;
      degrees_are = c.new-hom-2.ensures.source ∙ degrees_are;
      images_are = c.new-hom-2.ensures.images ∙ c.as_slice-2.ensures.value ∙ images_are;
      at = at;
    } in
    IsWithinReach-row m.bottom (take c.saturating_sub-2.result (row_of squares (i - 1))) k hom.basis.now hom.target.now t at (c.new-hom-2.ensures.target ∙ c.in_ok-target.ensures) (omega (arith, c.new-hom-2.ensures.basis, c.requires.basis))

pub returns : goal.returns
returns c =
    let self = c.args.self.now in
    let m = over self.module.now in
    let rows = c.args.rows.now in
    let squares = squares_of rows in
    let s = self.s in
    let k = self.k in
    let i = c.from-i.result - 1 in
    let n = c.saturating_sub.result in
    let t = to_z w32 (of_z w32 c.degree-t.result) in
    let above : s ≡ suc i = omega (arith, c.from-i.ensures, c.if-self-eq0.false) in
    let here : c.from-k.result ≡ k = omega (arith, c.from-k.ensures) in
    let cut : n ≡ k - 1 = omega (arith, c.saturating_sub.ensures, here) in
    let at = to_z-of_z w32 c.degree-t.result (record { sfits = c.degree-t.type_inv }) ∙ c.degree-t.ensures in
    let degrees_are : c.in_ok-source.source ≡ degrees_from m.bottom (take k (row_of squares i)) = c.in_ok-source.ensures ∙ ap (λ x. degrees_from m.bottom (take x (row_of squares i))) here in
    let images_are : c.in_ok-images.images.items ≡ images_of (whole_row squares i n k) = c.in_ok-images.ensures ∙ ap (λ x. images_of (whole_row squares i n x)) here in
    let next : i ≡ suc (i - 1) = omega (arith, c.if-i-eq0.false) in
    let less : c.saturating_sub-2.result ≡ n = omega (arith, c.saturating_sub-2.ensures, c.saturating_sub.ensures) in
    let target_is = target_free m squares i (i - 1) n c.saturating_sub-2.result c.in_ok-target.target next less c.in_ok-target.ensures in
    let hom = c.new-hom-2.result in
    let o : IsBelow m rows s k i n (free_graded hom.target.now) hom.source.now hom.images.now t = record {
      above = above;
      cut = cut;
      target_is = ap free_graded c.new-hom-2.ensures.target ∙ target_is;
      degrees_are = c.new-hom-2.ensures.source ∙ degrees_are;
      images_are = c.new-hom-2.ensures.images ∙ c.as_slice-2.ensures.value ∙ images_are;
      at = at;
    } in
    let told : (b : Bool) → Type 0 = λ b. IsTrue b ↔ ((h : ℕ) → h < length c.args.vectors.now → IsZero (mapped (free_graded hom.target.now) hom.source.now hom.images.now t (row c.args.vectors.now h))) in
    if_ok_both c.are_taken_to_zero-2.result told told (λ b. IsTrue b ↔ AreCycles m squares s k c.args.vectors.now)
    (λ b x y. below_cycles m rows s k i n (free_graded hom.target.now) hom.source.now hom.images.now t o c.args.vectors.now b x) c.are_taken_to_zero-2.ensures c.are_taken_to_zero-2.ensures
