-- The laws of the keeper of a save file.
use Rattle.std.proofs.Common.{sym, ◌∙◌, ap, arith}
use Rattle.std.proofs.lemmas.List.{take_all}
use Rattle.std.specs.Prelude.{◌≡◌, ◌↔◌, ℕ, ◌≤◌, List, Option, None, Some, Ok, IfSome}
use Rattle.std.specs.Option.{option_map}
use Rattle.std.specs.Result.{result_ok}
use Rattle.finite_module.specs.Checked.{Checked}
use Rattle.resolution_laws.specs.Start.{Entry}
use Rattle.square.specs.Squares.{over}
use Rattle.square.specs.Keeping.{WasImageSince}
use Rattle.edge.specs.Disk.{Only, WasImageSince as WasFileSince}
use Rattle.save_journal.specs.Journals.{IsSettled}
use Rattle.save_journal.specs.Records.{Records}
use Rattle.save_file.specs.Files.{Standing, of_squares, of_records, standing_of, squares_in, first_records, list_in, first_squares}
use Rattle.save_file.specs.Saving.{SaveState, HasSquares, TakesSquares, kept_in, WasLeft, telling_of}

pub left_earlier : {D : Type 0} (since : D → ℕ → List ℕ → Type 0)
    (law : (d : D) (t u : ℕ) (c : List ℕ) → t ≤ u → since d u c → since d t c) (k : SaveState D) (m n : ℕ)
    (image : Option (List Entry)) →
    m ≤ n → WasLeft since k n image → WasLeft since k m image
left_earlier since law k m n image le left = (left.0, law k.journal.disk m n left.0 le left.1, left.2)

pub left_since : {D : Type 0} (now : D → Option (List ℕ)) (moment : D → ℕ) (images : D → List ℕ → Type 0)
    (images_at since : D → ℕ → List ℕ → Type 0) (faults : D → ℕ)
    (law : (d : D) (t : ℕ) (c : List ℕ) → since d t c ↔ WasFileSince (moment d) (images_at d) t c) (k : SaveState D)
    (t : ℕ) (image : Option (List Entry)) →
    WasLeft since k t image ↔ WasImageSince (telling_of now moment images images_at since faults k) t image
left_since now moment images images_at since faults law k t image = (
  λ left.
      let was = (law k.journal.disk t left.0).0 left.1 in
      record { moment = was.moment; from = was.from; within = was.within; there = (left.0, was.image, left.2) },
  λ was.
      let left = was.there in
      (left.0, (law k.journal.disk t left.0).1 (record { moment = was.moment; from = was.from; within = was.within; image = left.1 }), left.2),
)

-- what a file with squares stands for
pub standing_is : (m : Checked) (start : List Entry) (n : ℕ) (file : List ℕ) (h : HasSquares m start n file) →
    standing_of m.plain file ≡ Ok h.list
standing_is m start n file h = ap (of_records (over m)) h.records ∙ ap (of_squares h.bodies) h.squares

-- as many as are counted are all of them
pub first_are_all : (m : Checked) (start : List Entry) (n : ℕ) (file : List ℕ) (h : HasSquares m start n file) →
    first_squares m n file ≡ h.list
first_are_all m start n file h =
    let few = h.counted in
    ap (λ (r : Records). list_in (of_records (over m) (first_records n r))) h.records
    ∙ ap (λ (bodies : List (List ℕ)). list_in (of_records (over m) (Ok bodies))) (take_all n h.bodies (omega arith))
    ∙ ap (λ r. list_in (of_squares h.bodies r)) h.squares

pub all_in : (m : Checked) (start : List Entry) (n : ℕ) (file : List ℕ) → HasSquares m start n file →
    squares_in m file ≡ Some (first_squares m n file)
all_in m start n file h = ap (λ (r : Standing). result_ok r) (standing_is m start n file h) ∙ ap (λ (list : List Entry). Some list) (sym (first_are_all m start n file h))

only_settled : (o : Option (List ℕ)) (digest : List ℕ) (end : ℕ) (images : List ℕ → Type 0) →
    IfSome o (λ file. IsSettled digest end file images) → IfSome o (λ file. Only file images)
only_settled None digest end images s = tt
only_settled (Some file) digest end images s = s.only

kept_at : (o : Option (List ℕ)) (m : Checked) (start : List Entry) (n : ℕ) (images : List ℕ → Type 0)
    (left : Option (List Entry) → Type 0) →
    ((image : Option (List Entry)) → left image → (c : List ℕ) × images c × (image ≡ squares_in m c)) →
    IfSome o (λ file. Only file images) → IfSome o (HasSquares m start n) →
    IfSome (option_map (first_squares m n) o) (λ list. (image : Option (List Entry)) → left image → image ≡ Some list)
kept_at None m start n images left is only has = tt
kept_at (Some file) m start n images left is only has = λ image l.
    let found = is image l in
    found.2 ∙ ap (squares_in m) (only found.0 found.1) ∙ all_in m start n file has

pub left_is_kept : {D : Type 0} (now : D → Option (List ℕ)) (moment : D → ℕ) (images : D → List ℕ → Type 0)
    (since : D → ℕ → List ℕ → Type 0) (only_now : (d : D) (c : List ℕ) → since d (moment d) c → images d c)
    (k : SaveState D) →
    TakesSquares now images k →
    IfSome (kept_in now k) (λ list. (image : Option (List Entry)) → WasLeft since k (moment k.journal.disk) image →
    image ≡ Some list)
left_is_kept now moment images since only_now k takes =
    kept_at (now k.journal.disk) k.resolved k.start k.count (images k.journal.disk) (WasLeft since k (moment k.journal.disk)) (λ image l. (l.0, only_now k.journal.disk l.0 l.1, l.2))
    (only_settled (now k.journal.disk) k.journal.digest k.journal.end (images k.journal.disk) takes.live.settled) takes.has
