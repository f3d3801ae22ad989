-- What a sink may do with the bytes that it is given.
use Rattle.std.specs.Prelude.{◌≡◌, ℕ, ◌-◌, min, Bool, ◌||◌, nat_le, List, ◌++◌, length, take, Option}
use Rattle.std.specs.Option.{option_map}
use Rattle.edge.specs.Faults.{one_up, is_listed}

-- what a sink got, where it tells, with more bytes at the end
abbrev pub with_more : Option (List ℕ) → List ℕ → Option (List ℕ)
with_more written bytes = option_map (λ w. w ++ bytes) written

-- new is old with some first bytes of the text behind it
pub record HasPrefixMore (text : List ℕ) (old new : Option (List ℕ)) : Type 0 where
  pub taken : ℕ
  pub gained : new ≡ with_more old (take taken text)

-- What a sink of tests holds. It takes at most piece bytes a call and room in all, and its calls, counted from 1,
-- fail where they are listed in failing.
pub record Held : Type 0 where
  pub written : List ℕ
  pub piece : ℕ
  pub room : ℕ
  pub failing : List ℕ
  pub calls : ℕ
  pub faults : ℕ

-- the next write fails where no room is left or it is listed
abbrev pub write_fails : Held → Bool
write_fails held = nat_le held.room (length held.written) || is_listed held.failing (one_up held.calls)

-- how many of so many bytes a write takes that does not fail
abbrev pub write_count : Held → ℕ → ℕ
write_count held n = min (min n held.piece) (held.room - length held.written)

abbrev pub after_failed_write : Held → Held
after_failed_write held = record held { calls = one_up held.calls; faults = one_up held.faults }

abbrev pub after_write : Held → List ℕ → Held
after_write held bytes = record held {
  written = held.written ++ take (write_count held (length bytes)) bytes;
  calls = one_up held.calls;
}
