-- What a source may do with the bytes that it has left.
use Rattle.std.specs.Prelude.{◌≡◌, ℕ, ◌≤◌, min, Bool, List, length, drop, Option}
use Rattle.std.specs.Option.{option_map}
use Rattle.edge.specs.Faults.{one_up, is_listed}

-- what a source has left, where it tells, without so many first bytes
abbrev pub without_first : Option (List ℕ) → ℕ → Option (List ℕ)
without_first left n = option_map (λ l. drop n l) left

-- new is old without some first bytes, so many at most
pub record HasGivenUpTo (most : ℕ) (old new : Option (List ℕ)) : Type 0 where
  pub given : ℕ
  pub within : given ≤ most
  pub rest : new ≡ without_first old given

-- What a source of tests has. It gives at most piece bytes a call, and its calls, counted from 1, fail where they are
-- listed in failing.
pub record Supply : Type 0 where
  pub left : List ℕ
  pub piece : ℕ
  pub failing : List ℕ
  pub calls : ℕ
  pub faults : ℕ

-- the next read fails where it is listed
abbrev pub read_fails : Supply → Bool
read_fails supply = is_listed supply.failing (one_up supply.calls)

-- how many bytes a read gives that does not fail, where so many are asked for
abbrev pub read_count : Supply → ℕ → ℕ
read_count supply n = min (min n supply.piece) (length supply.left)

abbrev pub after_failed_read : Supply → Supply
after_failed_read supply = record supply { calls = one_up supply.calls; faults = one_up supply.faults }

abbrev pub after_read : Supply → ℕ → Supply
after_read supply n = record supply { left = drop (read_count supply n) supply.left; calls = one_up supply.calls }
