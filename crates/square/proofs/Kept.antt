-- What becomes of a keeper, one square after the other.
use Rattle.std.proofs.Common.{◌≡◌, ◌⊎◌, ◌↔◌, inl, inr, ℕ, ◌≤◌, List, [], ◌∷◌, ◌++◌, Option, Some, None, IfSome, refl, sym, ◌∙◌, ap, subst, arith}
use Rattle.std.specs.Option.{option_map}
use Rattle.std.proofs.lemmas.Bool.{cases_lt}
use Rattle.std.proofs.lemmas.List.{append-nil, append_assoc}
use Rattle.std.proofs.lemmas.List.Elements.{All-nil, All-cons, All-append}
use Rattle.std.proofs.lemmas.Option.{IfSome_then}
use Rattle.resolution_laws.specs.Resolution.{Module}
use Rattle.resolution_laws.specs.Start.{Entry, IsOf, AreOf}
use Rattle.square.specs.Squares.{Placed, entry_of}
use Rattle.square.specs.Keeping.{Keeper, with_squares, IsImageBetween, HasFirst, Retains, IsImageWith, IsImageAmid, IsImagePart, HasKept}

-- ---- options

both : {X : Type 0} (o : Option X) (P Q : X → Type 0) → IfSome o P → IfSome o Q → IfSome o (λ x. P x × Q x)
both None P Q p q = tt
both (Some x) P Q p q = (p, q)

mapped : {X Y : Type 0} (o : Option X) (f : X → Y) (P : Y → Type 0) → IfSome (option_map f o) P → IfSome o (λ x. P (f x))
mapped None f P p = tt
mapped (Some x) f P p = p

where_kept : {X : Type 0} (o : Option X) (P : Type 0) → P → IfSome o (λ _. P)
where_kept None P p = tt
where_kept (Some x) P p = p

with_squares-append : (kept : Option (List Entry)) (a b : List Entry) → with_squares (with_squares kept a) b ≡ with_squares kept (a ++ b)
with_squares-append None a b = refl
with_squares-append (Some list) a b = ap (λ (x : List Entry). Some x) (append_assoc list a b)

with_squares-none : (kept : Option (List Entry)) → kept ≡ with_squares kept []
with_squares-none None = refl
with_squares-none (Some list) = ap (λ (x : List Entry). Some x) (sym (append-nil list))

-- ---- images

module _ (m : Module) (start : List Entry) where
  are_none : AreOf m start []
  are_none = All-nil (λ e. IsOf m start e.s e.above e.content)

  are_one : (e : Entry) → IsOf m start e.s e.above e.content → AreOf m start (e ∷ [])
  are_one e p = All-cons (λ e. IsOf m start e.s e.above e.content) e [] p are_none

  with_none : (list : List Entry) (image : Option (List Entry)) → image ≡ Some list → IsImageWith m start list image
  with_none list image e = record { more = []; at_most_one = omega arith; are_of = are_none; is = e ∙ ap (λ (x : List Entry). Some x) (sym (append-nil list)) }

  with_one : (list : List Entry) (image : Option (List Entry)) (e : Entry) → IsOf m start e.s e.above e.content → image ≡ Some (list ++ e ∷ []) → IsImageWith m start list image
  with_one list image e p h = record { more = e ∷ []; at_most_one = omega arith; are_of = are_one e p; is = h }

  -- of a list to which none was added
  same_list : (list : List Entry) (image : Option (List Entry)) → IsImageWith m start list image → IsImageWith m start (list ++ []) image
  same_list list image p = subst (λ (x : List Entry). IsImageWith m start x image) (sym (append-nil list)) p

  amid_none : (list given : List Entry) (image : Option (List Entry)) → IsImageWith m start list image → IsImageAmid m start list given image
  amid_none list given image p = record { first = []; rest = given; parts = refl; with_more = same_list list image p }

  amid_all : (list given : List Entry) (image : Option (List Entry)) → image ≡ Some (list ++ given) → IsImageAmid m start list given image
  amid_all list given image e = record { first = given; rest = []; parts = sym (append-nil given); with_more = with_none (list ++ given) image e }

  -- more squares were given later, or earlier
  amid_earlier : (list given more : List Entry) (image : Option (List Entry)) → IsImageAmid m start list given image → IsImageAmid m start list (given ++ more) image
  amid_earlier list given more image p = record {
    first = p.first;
    rest = p.rest ++ more;
    parts = ap (λ (x : List Entry). x ++ more) p.parts ∙ append_assoc p.first p.rest more;
    with_more = p.with_more;
  }

  amid_later : (list given more : List Entry) (image : Option (List Entry)) → IsImageAmid m start (list ++ given) more image → IsImageAmid m start list (given ++ more) image
  amid_later list given more image p = record {
    first = given ++ p.first;
    rest = p.rest;
    parts = ap (λ (x : List Entry). given ++ x) p.parts ∙ sym (append_assoc given p.first p.rest);
    with_more = subst (λ (x : List Entry). IsImageWith m start x image) (append_assoc list given p.first) p.with_more;
  }

-- images that have no square more

part_none : (list given : List Entry) (image : Option (List Entry)) → image ≡ Some list → IsImagePart list given image
part_none list given image e = record { first = []; rest = given; parts = refl; is = e ∙ ap (λ (x : List Entry). Some x) (sym (append-nil list)) }

part_all : (list given : List Entry) (image : Option (List Entry)) → image ≡ Some (list ++ given) → IsImagePart list given image
part_all list given image e = record { first = given; rest = []; parts = sym (append-nil given); is = e }

part_earlier : (list given more : List Entry) (image : Option (List Entry)) → IsImagePart list given image → IsImagePart list (given ++ more) image
part_earlier list given more image p = record {
  first = p.first;
  rest = p.rest ++ more;
  parts = ap (λ (x : List Entry). x ++ more) p.parts ∙ append_assoc p.first p.rest more;
  is = p.is;
}

part_later : (list given more : List Entry) (image : Option (List Entry)) → IsImagePart (list ++ given) more image → IsImagePart list (given ++ more) image
part_later list given more image p = record {
  first = given ++ p.first;
  rest = p.rest;
  parts = ap (λ (x : List Entry). given ++ x) p.parts ∙ sym (append_assoc given p.first p.rest);
  is = p.is ∙ ap (λ (x : List Entry). Some x) (append_assoc list given p.first);
}

-- ---- moments

-- the images at earlier moments are those that they were
abbrev pub HavePast : Keeper → Keeper → Type 0
HavePast old new = (t : ℕ) (image : Option (List Entry)) → t ≤ old.moment → new.images_at t image ↔ old.images_at t image

HavePast-then : (old mid new : Keeper) → old.moment ≤ mid.moment → HavePast old mid → HavePast mid new → HavePast old new
HavePast-then old mid new later p q t image l =
    let there = q t image (omega arith) in
    let here = p t image l in
    (λ x. here.0 (there.0 x), λ x. there.1 (here.1 x))

pub Retains-none : (keeper : Keeper) → Retains keeper keeper
Retains-none keeper first u v from le within all image at =
    let same : v ≡ u = omega arith in
    all image (subst (λ t. keeper.images_at t image) same at)

pub Retains-then : (old mid new : Keeper) → old.moment ≤ mid.moment → HavePast mid new → Retains old mid → Retains mid new → Retains old new
Retains-then old mid new later past p q first u v from le within all =
    let early : u ≤ mid.moment → (image : Option (List Entry)) → mid.images_at u image → HasFirst first image = λ l image at. all image ((past u image l).1 at) in
    elim (cases_lt mid.moment v) [
      | inr before ↦ λ image at. p first u v from le before (early (omega arith)) image ((past v image before).0 at)
      | inl behind ↦ elim (cases_lt mid.moment u) [
        | inl after ↦ q first u v (omega arith) le within all
        | inr upto ↦ q first mid.moment v (omega arith) (omega arith) within
            (λ image at. p first u mid.moment from upto (omega arith) (early upto) image ((past mid.moment image (omega arith)).0 at))
      ]
    ]

-- ---- a keeper to which nothing was given

-- images of a live keeper now are what is kept, and images since a moment are images since each earlier one
pub record IsSettled (keeper : Keeper) : Type 0 where
  pub images : IfSome keeper.kept (λ list. (image : Option (List Entry)) → keeper.since keeper.moment image → image ≡ Some list)
  pub earlier : (m n : ℕ) (image : Option (List Entry)) → m ≤ n → keeper.since n image → keeper.since m image

pub HasKept-none : (m : Module) (start : List Entry) (keeper : Keeper) → IsSettled keeper → HasKept m start keeper keeper []
HasKept-none m start keeper settled = record {
  are_of = are_none m start;
  kept = with_squares-none keeper.kept;
  same_module = refl;
  same_start = refl;
  never_fall = omega arith;
  later = omega arith;
  was_live = λ live. live;
  since = IfSome_then keeper.kept settled.images (λ list h image s. amid_none m start list [] image (with_none m start list image (h image s)));
  now = IfSome_then keeper.kept settled.images (λ list h image s. same_list m start list image (with_none m start list image (h image s)));
  exact = λ _. IfSome_then keeper.kept settled.images (λ list h image s. part_none list [] image (h image s));
  earlier = IfSome_then keeper.kept settled.images (λ list _ m image l. (λ x. inl x, λ x. elim x [ inl y ↦ y | inr y ↦ settled.earlier m keeper.moment image l y ]));
  past = λ t image l. (λ x. x, λ x. x);
  retained = where_kept keeper.kept (Retains keeper keeper) (Retains-none keeper);
}

-- ---- a keeper to which one square was given

-- what is known after the call, whether it failed or not
pub record HasTried (old new : Keeper) (q : Placed) : Type 0 where
  pub never_fall : old.faults ≤ new.faults
  pub same_module : new.resolved ≡ old.resolved
  pub same_start : new.start ≡ old.start
  pub later : old.moment ≤ new.moment
  pub between : IfSome old.kept (λ list. (image : Option (List Entry)) → new.since old.moment image → IsImageBetween list q image)
  pub earlier : IfSome old.kept (λ list. (m : ℕ) (image : Option (List Entry)) → m ≤ old.moment → new.since m image ↔ (old.since m image ⊎ new.since old.moment image))
  pub past : HavePast old new
  pub retained : IfSome old.kept (λ _. Retains old new)

-- it was not kept: a keeper that is live nevertheless has the images that it had
abbrev pub IsUnmoved : Keeper → Keeper → Type 0
IsUnmoved old new = new.live → IfSome old.kept (λ list. (image : Option (List Entry)) → new.since old.moment image → image ≡ Some list)

pub IsUnmoved-same : {K : Type 0} (telling : K → Keeper) (old new : K) → IfSome (telling old).kept (λ list. (image : Option (List Entry)) → (telling old).since (telling old).moment image → image ≡ Some list) → new ≡ old → IsUnmoved (telling old) (telling new)
IsUnmoved-same telling old new images same _ = subst (λ k. IfSome (telling old).kept (λ list. (image : Option (List Entry)) → (telling k).since (telling old).moment image → image ≡ Some list)) (sym same) images

pub HasKept-tried : (m : Module) (start : List Entry) (old new : Keeper) (q : Placed) → IsOf m start q.s q.above q.content → HasTried old new q → old.live → new.kept ≡ old.kept → IsUnmoved old new → ((m n : ℕ) (image : Option (List Entry)) → m ≤ n → new.since n image → new.since m image) → HasKept m start old new []
HasKept-tried m start old new q is_of tried live kept unmoved antitone =
    let images : IfSome old.kept (λ list. (image : Option (List Entry)) → new.since old.moment image → IsImageWith m start list image) =
    IfSome_then old.kept tried.between (λ list h image s. elim (h image s) [ inl e ↦ with_none m start list image e | inr e ↦ with_one m start list image (entry_of q) is_of e ]) in
    record {
      are_of = are_none m start;
      kept = kept ∙ with_squares-none old.kept;
      same_module = tried.same_module;
      same_start = tried.same_start;
      never_fall = tried.never_fall;
      later = tried.later;
      was_live = λ _. live;
      since = IfSome_then old.kept images (λ list h image s. amid_none m start list [] image (h image s));
      now = IfSome_then old.kept images (λ list h image s. same_list m start list image (h image (antitone old.moment new.moment image tried.later s)));
      exact = λ still. IfSome_then old.kept (unmoved still) (λ list h image s. part_none list [] image (h image s));
      earlier = tried.earlier;
      past = tried.past;
      retained = tried.retained;
    }

-- it was kept
pub HasKept-one : (m : Module) (start : List Entry) (old new : Keeper) (q : Placed) → IsOf m start q.s q.above q.content → HasTried old new q → old.live → new.kept ≡ with_squares old.kept (entry_of q ∷ []) → IsSettled new → HasKept m start old new (entry_of q ∷ [])
HasKept-one m start old new q is_of tried live put settled =
    let I : List Entry → Type 0 = λ list. (image : Option (List Entry)) → new.since new.moment image → image ≡ Some list in
    let P : Option (List Entry) → Type 0 = λ o. IfSome o I in
    let now : IfSome old.kept (λ list. I (list ++ entry_of q ∷ [])) = mapped old.kept (λ list. list ++ entry_of q ∷ []) I (subst P put settled.images) in
    record {
      are_of = are_one m start (entry_of q) is_of;
      kept = put;
      same_module = tried.same_module;
      same_start = tried.same_start;
      never_fall = tried.never_fall;
      later = tried.later;
      was_live = λ _. live;
      since = IfSome_then old.kept tried.between (λ list h image s. elim (h image s) [
        | inl e ↦ amid_none m start list (entry_of q ∷ []) image (with_none m start list image e)
        | inr e ↦ amid_all m start list (entry_of q ∷ []) image e
      ]);
      now = IfSome_then old.kept now (λ list h image s. with_none m start (list ++ entry_of q ∷ []) image (h image s));
      exact = λ _. IfSome_then old.kept tried.between (λ list h image s. elim (h image s) [
        | inl e ↦ part_none list (entry_of q ∷ []) image e
        | inr e ↦ part_all list (entry_of q ∷ []) image e
      ]);
      earlier = tried.earlier;
      past = tried.past;
      retained = tried.retained;
    }

-- ---- one after the other

pub HasKept-then : (m : Module) (start : List Entry) (old mid new : Keeper) (a b : List Entry) → HasKept m start old mid a → HasKept m start mid new b → HasKept m start old new (a ++ b)
HasKept-then m start old mid new a b p q =
    let S : List Entry → Type 0 = λ list. (image : Option (List Entry)) → new.since mid.moment image → IsImageAmid m start list b image in
    let since : IfSome old.kept (λ list. S (list ++ a)) = mapped old.kept (λ list. list ++ a) S (subst (λ o. IfSome o S) p.kept q.since) in
    let N : List Entry → Type 0 = λ list. (image : Option (List Entry)) → new.since new.moment image → IsImageWith m start (list ++ b) image in
    let now : IfSome old.kept (λ list. N (list ++ a)) = mapped old.kept (λ list. list ++ a) N (subst (λ o. IfSome o N) p.kept q.now) in
    let X : List Entry → Type 0 = λ list. (image : Option (List Entry)) → new.since mid.moment image → IsImagePart list b image in
    let exact : new.live → IfSome old.kept (λ list. X (list ++ a)) = λ live. mapped old.kept (λ list. list ++ a) X (subst (λ o. IfSome o X) p.kept (q.exact live)) in
    let E : List Entry → Type 0 = λ _. (k : ℕ) (image : Option (List Entry)) → k ≤ mid.moment → new.since k image ↔ (mid.since k image ⊎ new.since mid.moment image) in
    let earlier : IfSome old.kept (λ list. E (list ++ a)) = mapped old.kept (λ list. list ++ a) E (subst (λ o. IfSome o E) p.kept q.earlier) in
    let later = p.later in
    let latest = q.later in
    let falls = p.never_fall in
    let never = q.never_fall in
    let R : List Entry → Type 0 = λ _. Retains mid new in
    let retained : IfSome old.kept (λ _. Retains mid new) = mapped old.kept (λ list. list ++ a) R (subst (λ o. IfSome o R) p.kept q.retained) in
    record {
      past = HavePast-then old mid new later p.past q.past;
      retained = IfSome_then old.kept (both old.kept _ _ p.retained retained) (λ list h. Retains-then old mid new later q.past h.0 h.1);
      are_of = All-append (λ e. IsOf m start e.s e.above e.content) a b p.are_of q.are_of;
      kept = q.kept ∙ (ap (λ o. with_squares o b) p.kept ∙ with_squares-append old.kept a b);
      same_module = q.same_module ∙ p.same_module;
      same_start = q.same_start ∙ p.same_start;
      never_fall = omega arith;
      later = omega arith;
      was_live = λ live. p.was_live (q.was_live live);
      since = IfSome_then old.kept (both old.kept _ _ (both old.kept _ _ p.since since) earlier) (λ list h image s. elim ((h.1 old.moment image later).0 s) [
        | inl y ↦ amid_earlier m start list a b image (h.0.0 image y)
        | inr y ↦ amid_later m start list a b image (h.0.1 image y)
      ]);
      now = IfSome_then old.kept now (λ list h image s. subst (λ (x : List Entry). IsImageWith m start x image) (append_assoc list a b) (h image s));
      exact = λ live. IfSome_then old.kept (both old.kept _ _ (both old.kept _ _ (p.exact (q.was_live live)) (exact live)) earlier) (λ list h image s. elim ((h.1 old.moment image later).0 s) [
        | inl y ↦ part_earlier list a b image (h.0.0 image y)
        | inr y ↦ part_later list a b image (h.0.1 image y)
      ]);
      earlier = IfSome_then old.kept (both old.kept _ _ p.earlier earlier) (λ list h k image l. (
        λ x. elim ((h.1 k image (omega arith)).0 x) [
          | inl y ↦ elim ((h.0 k image l).0 y) [
            | inl z ↦ inl z
            | inr z ↦ inr ((h.1 old.moment image later).1 (inl z))
          ]
          | inr y ↦ inr ((h.1 old.moment image later).1 (inr y))
        ],
        λ x. elim x [
          | inl y ↦ (h.1 k image (omega arith)).1 (inl ((h.0 k image l).1 (inl y)))
          | inr y ↦ elim ((h.1 old.moment image later).0 y) [
            | inl z ↦ (h.1 k image (omega arith)).1 (inl ((h.0 k image l).1 (inr z)))
            | inr z ↦ (h.1 k image (omega arith)).1 (inr z)
          ]
        ],
      ));
    }
