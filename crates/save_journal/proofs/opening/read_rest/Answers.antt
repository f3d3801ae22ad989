use Rattle.std.proofs.Common.{rules, ◌≡◌, ℕ, ◌+◌, ◌-◌, ◌≤◌, List, [], ◌++◌, length, take, drop, sym, ◌∙◌, ap, arith, length-append, take-append-drop}
use Rattle.std.proofs.lemmas.List.{take_at, take_all, drop_all, append-nil, length-take-le, length-drop}
use Rattle.std.proofs.lemmas.Slice.{take-put_mid_below}
use Rattle.edge.proofs.Moments.{where_told, at_told}
use Rattle.save_journal.proofs.opening.read_rest.Goals as goal
use borrow.Rule.Slice.PartMut.{put_mid}

module _ (h head into ys : List ℕ) (is : h ≡ head) (width : length head ≡ 40) where
  long : length h ≡ 40
  long = ap length is ∙ width

  begun : take 40 (put_mid 40 (length (h ++ drop 40 into) - 40) (h ++ drop 40 into) ys) ≡ head
  begun =
      take-put_mid_below 40 (length (h ++ drop 40 into) - 40) (h ++ drop 40 into) ys 40 (omega arith) (omega (arith, long, length-append h (drop 40 into)))
      ∙ take_at h (drop 40 into) 40 long ∙ is

  whole : (file : List ℕ) (n : ℕ) → length file ≤ 40 + n → ys ≡ take n (drop 40 file) → head ≡ take 40 file → put_mid 40 (length (h ++ drop 40 into) - 40) (h ++ drop 40 into) ys ≡ file
  whole file n fits rest first =
      let past : drop (length (h ++ drop 40 into) - 40) (drop 40 (h ++ drop 40 into)) ≡ [] = drop_all (length (h ++ drop 40 into) - 40) (drop 40 (h ++ drop 40 into)) (omega (arith, length-drop 40 (h ++ drop 40 into))) in
      let front : take 40 (h ++ drop 40 into) ≡ take 40 file = take_at h (drop 40 into) 40 long ∙ is ∙ first in
      let behind : ys ≡ drop 40 file = rest ∙ take_all n (drop 40 file) (omega (arith, length-drop 40 file)) in
      ap (λ (l : List ℕ). take 40 (h ++ drop 40 into) ++ (ys ++ l)) past
      ∙ ap (λ (l : List ℕ). take 40 (h ++ drop 40 into) ++ l) (append-nil ys ∙ behind)
      ∙ ap (λ (l : List ℕ). l ++ drop 40 file) front ∙ take-append-drop 40 file

pub copy_from_slice-requires : goal.copy_from_slice-requires
copy_from_slice-requires g c =
    let width : length c.args.head.now ≡ 40 = search rules in
    length-take-le 40 c.args.into.now c.requires.room ∙ sym width

pub returns-in_err-read-clause-head : goal.returns-in_err-read-clause-head
returns-in_err-read-clause-head g c =
    let width : length c.args.head.now ≡ 40 = search rules in
    begun c.copy_from_slice.new.self c.args.head.now c.args.into.now c.read.new.into (search rules) width

pub returns-clause-head : goal.returns-clause-head
returns-clause-head g c =
    let width : length c.args.head.now ≡ 40 = search rules in
    begun c.copy_from_slice.new.self c.args.head.now c.args.into.now c.read.new.into (search rules) width

pub returns-clause-read : goal.returns-clause-read
returns-clause-read g c =
    let width : length c.args.head.now ≡ 40 = search rules in
    let is : c.copy_from_slice.new.self ≡ c.args.head.now = search rules in
    where_told (g.D.Disk.now c.args.disk.now) _ _ c.in_ok-read.ensures.read (λ file here rest first.
    let size : length c.args.into.now ≡ length file = at_told (g.D.Disk.now c.args.disk.now) (λ f. length c.args.into.now ≡ length f) file here c.requires.told in
    whole c.copy_from_slice.new.self c.args.head.now c.args.into.now c.read.new.into is width file _ (omega (arith, size, ap length is, width, length-append c.copy_from_slice.new.self (drop 40 c.args.into.now), length-drop 40 c.args.into.now, length-drop 40 (c.copy_from_slice.new.self ++ drop 40 c.args.into.now), ap length rest)) rest first)
