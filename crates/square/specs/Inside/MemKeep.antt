-- The keeper of tests.
use Rattle.std.proofs.Common.{◌∙◌, ap, arith}
use Rattle.std.proofs.lemmas.List.{take_all}
use Rattle.std.specs.Prelude.{◌≡◌, ℕ, ◌≤◌, ◌↔◌, Bool, false, List, [], ◌∷◌, ◌++◌, length, take, Option, Some, None}
use Rattle.edge.specs.Faults.{one_up, is_listed}
use Rattle.resolution_laws.specs.Start.{Entry}
use Rattle.square.specs.Squares.{Placed, entry_of}
use Rattle.square.specs.Keeping.{WasImageSince}

-- What a keeper of tests holds. Its calls, counted from 1, fail where they are listed in failing; it is live until one does.
pub record Kept : Type 0 where
  pub list : List Entry
  pub failing : List ℕ
  pub calls : ℕ
  pub faults : ℕ
  pub live : Bool

abbrev pub keep_fails : Kept → Bool
keep_fails kept = is_listed kept.failing (one_up kept.calls)

abbrev pub after_keep : Kept → Placed → Kept
after_keep kept q = record kept { list = kept.list ++ entry_of q ∷ []; calls = one_up kept.calls }

abbrev pub after_failed_keep : Kept → Kept
after_failed_keep kept = record kept { calls = one_up kept.calls; faults = one_up kept.faults; live = false }

-- the image is a first part of the list, at least so long
pub record IsFirstPart (list : List Entry) (least : ℕ) (image : Option (List Entry)) : Type 0 where
  pub len : ℕ
  pub at_least : least ≤ len
  pub at_most : len ≤ length list
  pub part : image ≡ Some (take len list)

-- the image is the first t of the list, which has so many
pub record IsPartOf (list : List Entry) (t : ℕ) (image : Option (List Entry)) : Type 0 where
  pub within : t ≤ length list
  pub part : image ≡ Some (take t list)

-- a first part as long as the list is the list
pub whole_part : (list : List Entry) (image : Option (List Entry)) → IsFirstPart list (length list) image →
    image ≡ Some list
whole_part list image p = p.part ∙ ap (λ (x : List Entry). Some x) (take_all p.len list p.at_least)

-- a first part at least so long is at least as long as less
pub longer_part : (list : List Entry) (m n : ℕ) (image : Option (List Entry)) → m ≤ n → IsFirstPart list n image →
    IsFirstPart list m image
longer_part list m n image before p = let least = p.at_least in record { len = p.len; at_least = omega arith; at_most = p.at_most; part = p.part }

-- the first parts of at least a length are those of each length from it on
pub parts_since : (live : Type 0) (faults : ℕ) (list : List Entry) (t : ℕ) (image : Option (List Entry)) →
    IsFirstPart list t image
    ↔ WasImageSince
    (record {
      live = live;
      faults = faults;
      kept = Some list;
      resolved = None;
      start = None;
      moment = length list;
      images_at = λ t image. IsPartOf list t image;
      since = λ m image. IsFirstPart list m image;
    })
    t image
parts_since live faults list t image = (
  λ p. record { moment = p.len; from = p.at_least; within = p.at_most; there = record { within = p.at_most; part = p.part } },
  λ w. record { len = w.moment; at_least = w.from; at_most = w.within; part = w.there.part },
)
