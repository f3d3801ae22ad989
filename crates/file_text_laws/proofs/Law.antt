-- The text of a module's file describes its file, and gives the module back.
use Rattle.std.specs.List.{flat_map}
use Rattle.std.proofs.lemmas.Bool.{le-leb}
use Rattle.std.proofs.Common.{◌≡◌, ℕ, zero, suc, ◌+◌, ◌<◌, ◌≤◌, max, ℤ, List, [], ◌∷◌, ◌++◌, length, map, codes, None, Some, Ok, Err, IsUtf8, refl, sym, ap, subst, ◌∙◌, arith}
use Rattle.std.proofs.lemmas.Int.{ints}
use Rattle.json.specs.Print.{IsNumber}
use Rattle.json.specs.Tree.{depth, items_depth, members_depth}
use Rattle.json.proofs.Printed.Decimals.{IsNumber-decimal, IsNumber-signed_decimal}
use Rattle.json.proofs.Printed.Utf8.{IsUtf8-are_ascii}
use Rattle.serde_json.specs.Read.{read}
use Rattle.serde_json.specs.Written.{outline, items_outline, members_outline}
use Rattle.module_json.specs.Checks.{unless, size_refusal, value}
use Rattle.module_spec.specs.Spec.{Generator}
use Rattle.module_json.specs.ModuleFile.{IsFileOf, described as described_by, file_of, with_entries}
use Rattle.module_spec.specs.WellFormed.{AreByDegree}
use Rattle.module_json.specs.declared.malformed.Malformed.TheVariants.{Limit}
use Rattle.module_json.specs.declared.malformed.What.TheVariants.{Bytes}
use Rattle.module_json.proofs.Reading.{file_unique}
use Rattle.finite_module.specs.Module.{Module}
use Rattle.finite_module.specs.Axioms.{IsModule}
use Rattle.finite_module.specs.DerivedAction.{span}
use Rattle.finite_module.specs.Text.{name_at}
use Rattle.finite_module.proofs.Degrees.{are_near}
use Rattle.built_laws.specs.Constructed.{generators_from}
use Rattle.file_laws.specs.Files.{file_of as file_of_module, squares_of}
use Rattle.file_laws.proofs.FileLaw.{files_give_back}
use Rattle.module_build.specs.Names.{numbered_name}
use Rattle.module_build.specs.FileText.{joined_by_comma, member, file_text}
use Rattle.module_build.proofs.LimitCases.{by_degree-standing}
use Rattle.file_text_laws.specs.Texts.{AreNumbered, AllBuiltAreNumbered, TextDescribesFile, GivesBack, TextGivesBack}
use Rattle.file_text_laws.proofs.Values.{IsWritten, AreWritten, HasWritten, read_text}
use Rattle.file_text_laws.proofs.Written.{members_of, items_of, data_of, text_of, text_written, degree_text}
use Rattle.file_text_laws.proofs.Header.{Numbered, rise, small, value_of_file, data_read, described}
use Rattle.file_text_laws.proofs.Described.{numbered_from, near, lines_of, actions_written, entries_read}
use Rattle.file_text_laws.proofs.Bounds.{ascii_is, plain_names, plain_texts, few_lines, few_squares, text_fits}

written_members : (i : ℕ) (gs : List Generator) → Numbered i gs → HasWritten (members_of gs)
written_members i [] h = tt
written_members i (g ∷ gs) h = (subst IsNumber (sym (degree_text g.degree)) (IsNumber-signed_decimal g.degree (small g.degree h.1)), written_members (suc i) gs h.2)

written_items : (ts : List (List ℕ)) → AreWritten (items_of ts)
written_items [] = tt
written_items (t ∷ ts) = (tt, written_items ts)

flat_members : (gs : List Generator) → members_depth (members_outline (members_of gs)) ≡ 0
flat_members [] = refl
flat_members (g ∷ gs) = ap (max 0) (flat_members gs)

flat_items : (ts : List (List ℕ)) → items_depth (items_outline (items_of ts)) ≡ 0
flat_items [] = refl
flat_items (t ∷ ts) = ap (max 0) (flat_items ts)

shallow : (gs : List Generator) (ts : List (List ℕ)) → depth (outline (data_of gs ts)) ≡ 2
shallow gs ts =
    ap (λ a. suc (max 0 (max 0 (max (suc a) (max (suc (items_depth (items_outline (items_of ts)))) 0))))) (flat_members gs)
    ∙ ap (λ a. suc (max 0 (max 0 (max 1 (max (suc a) 0))))) (flat_items ts)

span_small : (gs : List Generator) → AreByDegree gs → span gs ≤ 64
span_small gs h = let close = are_near gs h in omega (arith, ints, close.above, close.near)

-- ---- a module whose generators are named by their numbers

module _ (m : Module) (limits : AreByDegree m.generators) (is : IsModule m) (names : AreNumbered m.generators) where
  abbrev gs : List Generator
  gs = m.generators

  few : length gs ≤ 64
  few = limits.few

  numbered : Numbered 0 gs
  numbered = numbered_from 0 gs (λ k l. let z : k ≡ 0 + k = omega arith in names k l ∙ ap numbered_name z) limits.lowest limits.highest

  abbrev ts : List (List ℕ)
  ts = flat_map (lines_of m) (squares_of m)

  text_is : file_text m ≡ text_of gs ts
  text_is = ap (λ xs. codes "{\"type\":\"finite dimensional module\",\"p\":2,\"gens\":{" ++ (joined_by_comma (map member gs) ++ (codes "},\"actions\":[" ++ (joined_by_comma xs ++ (codes "]}" ++ 10 ∷ []))))) (actions_written m)

  value_written : IsWritten (data_of gs ts)
  value_written = (tt, (IsNumber-decimal 2 (omega arith), (written_members 0 gs numbered, (written_items ts, tt))))

  value_read : read (file_text m) ≡ Some (value_of_file gs ts)
  value_read =
      let two = shallow gs ts in
      ap read (text_is ∙ sym (text_written gs ts (plain_names 0 gs numbered (omega (arith, few))) (plain_texts m is numbered few)))
      ∙ read_text (data_of gs ts) value_written (omega arith)
      ∙ data_read gs ts (rise gs numbered few)

  few_texts : length ts ≤ 4096
  few_texts = omega (arith, few_lines m is numbered few (squares_of m), few_squares m is numbered few, few)

  file_is : file_of (value_of_file gs ts) ≡ Ok (file_of_module m)
  file_is = described gs ts numbered few few_texts (by_degree-standing gs limits.ordered) (near gs limits) ∙ ap (with_entries gs) (entries_read m is numbered few)

  size_is : size_refusal (file_text m) ≡ None
  size_is =
      let fits = text_fits m is numbered few in
      let short = fits.short in
      ap (λ b. unless b (Limit Bytes)) (le-leb (length (file_text m)) 1048576 (omega (arith, ap length text_is)))

  text_ascii : IsUtf8 (file_text m)
  text_ascii = subst IsUtf8 (sym text_is) (IsUtf8-are_ascii (text_of gs ts) (ascii_is (text_of gs ts) (text_fits m is numbered few).ascii))

  describes : IsFileOf (file_text m) (Ok (file_of_module m))
  describes = subst (IsFileOf (file_text m)) file_is (described_by (value_of_file gs ts) (value size_is (value_of_file gs ts) (record { is_text = text_ascii; reads = value_read })))

pub text_describes : TextDescribesFile
text_describes m limits is names = describes m limits is names

pub text_gives_back : TextGivesBack
text_gives_back m limits is names = record {
  given = λ f h.
      let one : Ok f ≡ Ok (file_of_module m) = file_unique (file_text m) (Ok f) (Ok (file_of_module m)) h (describes m limits is names) in
      let same : f ≡ file_of_module m = cc in
      let back = files_give_back m limits.ordered (span_small m.generators limits) is in
      subst (GivesBack m) (sym same) (record { generators = refl; accepted = back.0; values = back.1 });
  read = λ e h. let two : Err e ≡ Ok (file_of_module m) = file_unique (file_text m) (Err e) (Ok (file_of_module m)) h (describes m limits is names) in absurd cc;
}

-- ---- what is made of modules

module _ {X : Type 0} (degree : X → ℤ) where
  made_numbered : (i : ℕ) (xs : List X) (k : ℕ) → k < length (generators_from numbered_name degree i xs) → name_at (generators_from numbered_name degree i xs) k ≡ numbered_name (i + k)
  made_numbered i [] k l = absurd (omega arith)
  made_numbered i (x ∷ xs) zero l = let z : i ≡ i + 0 = omega arith in ap numbered_name z
  made_numbered i (x ∷ xs) (suc k) l = let z : suc i + k ≡ i + suc k = omega arith in made_numbered (suc i) xs k (omega arith) ∙ ap numbered_name z

  from_nothing : (xs : List X) → AreNumbered (generators_from numbered_name degree 0 xs)
  from_nothing xs k l = let z : 0 + k ≡ k = omega arith in made_numbered 0 xs k l ∙ ap numbered_name z

pub built_are_numbered : AllBuiltAreNumbered
built_are_numbered m k n = record { shift = from_nothing _ _; sum = from_nothing _ _; tensor = from_nothing _ _; dual = from_nothing _ _ }
