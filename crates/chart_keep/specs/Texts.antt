-- The texts whose digests say whose records a file has.
use Rattle.std.specs.Prelude.{◌≡◌, ◌≢◌, ℕ, List, ◌++◌}
use Rattle.sha2.specs.Sha256.{sha256}
use Rattle.finite_module.specs.Module.{Module as SteenrodModule}
use Rattle.finite_module.specs.Text.{canonical_text}
use Rattle.chart_keep.specs.declared.digest.TheConstants.{LINE}

-- of a chart file: the line `chart 1` and the canonical text of the module
abbrev pub chart_text : SteenrodModule → List ℕ
chart_text m = LINE ++ canonical_text m

-- what the records of a module's chart file belong to
abbrev pub digest_of_chart : SteenrodModule → List ℕ
digest_of_chart m = sha256 (chart_text m)

-- it is the text of no save file, and that of the chart files of modules with one canonical text only
pub record TextsAreApart : Type 0 where
  pub saves : (m n : SteenrodModule) → chart_text m ≢ canonical_text n
  pub charts : (m n : SteenrodModule) → chart_text m ≡ chart_text n → canonical_text m ≡ canonical_text n
