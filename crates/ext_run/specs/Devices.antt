-- How what a run was given is seen.
use Rattle.std.specs.Prelude.{ℕ, List, Option}

-- a source, a sink or standard error, by its trait's left or written, and its faults
pub record Device (State : Type 0) : Type 0 where
  pub shows : State → Option (List ℕ)
  pub faults : State → ℕ

abbrev pub device_of : {State : Type 0} → (State → Option (List ℕ)) → (State → ℕ) → Device State
device_of shows faults = record { shows = shows; faults = faults }

-- a disk, by its trait's meanings
pub record Store (State : Type 0) : Type 1 where
  pub now : State → Option (List ℕ)
  pub moment : State → ℕ
  pub images : State → List ℕ → Type 0
  pub images_at : State → ℕ → List ℕ → Type 0
  pub since : State → ℕ → List ℕ → Type 0
  pub faults : State → ℕ

abbrev pub store_of : {State : Type 0} → (State → Option (List ℕ)) → (State → ℕ) → (State → List ℕ → Type 0) →
    (State → ℕ → List ℕ → Type 0) → (State → ℕ → List ℕ → Type 0) → (State → ℕ) → Store State
store_of now moment images images_at since faults = record {
  now = now;
  moment = moment;
  images = images;
  images_at = images_at;
  since = since;
  faults = faults;
}
