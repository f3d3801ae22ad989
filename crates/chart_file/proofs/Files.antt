-- The parts of columns that a file has.
use Rattle.std.proofs.Common.{◌≡◌, ◌≢◌, ℕ, ◌+◌, ◌<◌, Err, Ok, List, [], ◌∷◌, ◌++◌, map, take, drop, length, get_or, refl, sym, ◌∙◌, ap, subst, arith}
use Rattle.std.specs.Prelude.{All, Vec}
use Rattle.std.specs.List.{AllByRecursion}
use Rattle.std.specs.declared.alloc.Global.{Global}
use Rattle.std.proofs.lemmas.List.{length-map, map-append, get_or-map, take-map, take_more}
use Rattle.std.proofs.lemmas.List.Elements.{All-append, All-cons, All-nil, recursion_from_All}
use Rattle.save_journal.specs.Records.{Records, records_of, and_last}
use Rattle.save_journal.specs.Journals.{contents}
use Rattle.chart_file.specs.Parts.{Part, IsPart, part_bytes}
use Rattle.chart_file.specs.Faults.{IsWrong}
use Rattle.chart_file.specs.Files.{HasParts, IsRefusal, body_refusal}
use Rattle.chart_file.specs.declared.fault.DecodeFault.{DecodeFault}
use Rattle.chart_file.specs.declared.fault.DecodeFault.TheVariants.{Short, Kind, Limits, Crowded, SpareBits, Memory as WantOfMemory}
use Rattle.chart_file.specs.declared.fault.PartsFault.{PartsFault}
use Rattle.chart_file.specs.declared.fault.PartsFault.TheVariants.{Strange}
use Rattle.chart_file.proofs.Heads.{part_once}

same_parts : (ps qs : List Part) → AllByRecursion IsPart ps → AllByRecursion IsPart qs → map part_bytes ps ≡ map part_bytes qs → ps ≡ qs
same_parts [] [] are are' e = refl
same_parts [] (q ∷ qs) are are' e = let n = ap (λ (l : List (List ℕ)). length l) e in absurd (omega arith)
same_parts (p ∷ ps) [] are are' e = let n = ap (λ (l : List (List ℕ)). length l) e in absurd (omega arith)
same_parts (p ∷ ps) (q ∷ qs) are are' e =
    ap (λ (x : Part). x ∷ ps) (part_once p q are.0 are'.0 (ap (λ (l : List (List ℕ)). get_or l 0 []) e))
    ∙ ap (λ (xs : List Part). q ∷ xs) (same_parts ps qs are.1 are'.1 (ap (λ (l : List (List ℕ)). drop 1 l) e))

bodies_in : Records → List (List ℕ)
bodies_in (Ok list) = list
bodies_in (Err fault) = []

pub parts_once : (digest file : List ℕ) (ps qs : List Part) → HasParts digest ps file → HasParts digest qs file → ps ≡ qs
unfolding bodies_in
parts_once digest file ps qs h k =
    let same : map part_bytes ps ≡ map part_bytes qs = ap bodies_in (sym h.records ∙ k.records) in
    same_parts ps qs (recursion_from_All IsPart ps h.are) (recursion_from_All IsPart qs k.are) same

pub parts_still : (digest before file : List ℕ) (parts : List Part) → HasParts digest parts before → records_of digest file ≡ records_of digest before → HasParts digest parts file
parts_still digest before file parts h same = record { records = same ∙ h.records; are = h.are }

pub one_part_more : (digest before file : List ℕ) (parts : List Part) → HasParts digest parts before → (p : Part) → IsPart p → records_of digest file ≡ and_last (records_of digest before) (part_bytes p) → HasParts digest (parts ++ p ∷ []) file
one_part_more digest before file parts h p is more =
    let ok : List (List ℕ) → Records = λ list. Ok list in
    record {
      records = more ∙ ap (λ (r : Records). and_last r (part_bytes p)) h.records ∙ ap ok (sym (map-append part_bytes parts (p ∷ [])));
      are = All-append IsPart parts (p ∷ []) h.are (All-cons IsPart p [] is (All-nil IsPart));
    }

-- ---- bodies, one after the other

pub record AreRead (bodies : List (Vec ℕ Global)) (i : ℕ) (parts : List Part) : Type 0 where
  pub bytes : map part_bytes parts ≡ contents (take i bodies)
  pub are : All IsPart parts

pub one_body_read : (bodies : List (Vec ℕ Global)) (i : ℕ) (parts : List Part) (body : Vec ℕ Global) (p : Part) → AreRead bodies i parts → i < length bodies → body ≡ get_or bodies i body → IsPart p → part_bytes p ≡ body.items → AreRead bodies (i + 1) (parts ++ p ∷ [])
one_body_read bodies i parts body p h l at is bytes =
    record {
      bytes =
          map-append part_bytes parts (p ∷ [])
          ∙ ap (λ (xs : List (List ℕ)). xs ++ part_bytes p ∷ []) h.bytes
          ∙ ap (λ (x : List ℕ). contents (take i bodies) ++ x ∷ []) bytes
          ∙ sym (map-append (λ (v : Vec ℕ Global). v.items) (take i bodies) (body ∷ []))
          ∙ ap (λ (v : Vec ℕ Global). contents (take i bodies ++ v ∷ [])) at
          ∙ ap contents (sym (take_more bodies i body l));
      are = All-append IsPart parts (p ∷ []) h.are (All-cons IsPart p [] is (All-nil IsPart));
    }

strange_body : (bodies : List (Vec ℕ Global)) (i : ℕ) (parts : List Part) (body : Vec ℕ Global) (fault : DecodeFault) → AreRead bodies i parts → i < length bodies → body ≡ get_or bodies i body → ((p : Part) → IsPart p → part_bytes p ≡ body.items → ⊥) → IsWrong body.items fault → IsRefusal (contents bodies) (Strange i fault)
strange_body bodies i parts body fault read l at none wrong =
    let many = length-map bodies (λ (v : Vec ℕ Global). v.items) in
    let there : get_or (contents bodies) i [] ≡ body.items = get_or-map (λ (v : Vec ℕ Global). v.items) bodies i body [] l ∙ ap (λ (v : Vec ℕ Global). v.items) (sym at) in (
      omega arith,
      subst (λ (b : List ℕ). IsWrong b fault) (sym there) wrong,
      λ p is same. none p is (same ∙ there),
      (parts, read.are, read.bytes ∙ sym (take-map (λ (v : Vec ℕ Global). v.items) i bodies)),
    )

refused_as : (bodies : List (Vec ℕ Global)) (i : ℕ) (parts : List Part) (body : Vec ℕ Global) (fault : DecodeFault) → AreRead bodies i parts → i < length bodies → body ≡ get_or bodies i body → (fault ≢ WantOfMemory → (p : Part) → IsPart p → part_bytes p ≡ body.items → ⊥) → IsWrong body.items fault → IsRefusal (contents bodies) (body_refusal i fault)
refused_as bodies i parts body WantOfMemory read l at none wrong = tt
refused_as bodies i parts body Short read l at none wrong = strange_body bodies i parts body Short read l at (none (λ e. absurd (cc))) wrong
refused_as bodies i parts body Kind read l at none wrong = strange_body bodies i parts body Kind read l at (none (λ e. absurd (cc))) wrong
refused_as bodies i parts body Limits read l at none wrong = strange_body bodies i parts body Limits read l at (none (λ e. absurd (cc))) wrong
refused_as bodies i parts body Crowded read l at none wrong = strange_body bodies i parts body Crowded read l at (none (λ e. absurd (cc))) wrong
refused_as bodies i parts body SpareBits read l at none wrong = strange_body bodies i parts body SpareBits read l at (none (λ e. absurd (cc))) wrong

pub refused_body : (bodies : List (Vec ℕ Global)) (i : ℕ) (parts : List Part) (body : Vec ℕ Global) (fault : DecodeFault) (e : PartsFault) → AreRead bodies i parts → i < length bodies → body ≡ get_or bodies i body → (fault ≢ WantOfMemory → (p : Part) → IsPart p → part_bytes p ≡ body.items → ⊥) → IsWrong body.items fault → e ≡ body_refusal i fault → IsRefusal (contents bodies) e
refused_body bodies i parts body fault e read l at none wrong is = subst (IsRefusal (contents bodies)) (sym is) (refused_as bodies i parts body fault read l at none wrong)
