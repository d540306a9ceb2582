-- Rows of sixteen places, and what is known of the stripes that a caller holds.
use Rattle.std.specs.Prelude.{◌≡◌, ℕ, ◌<◌, ◌≤◌, Bool, true, false, List, [], ◌∷◌, Option, Some, None, ◌++◌, ◌&&◌, is_some, nat_le, nat_lt, length, slice_get, slice_index_or, option_map}
use Rattle.lg_types.specs.declared.records.Event.{Event}
use Rattle.lg_types.specs.declared.marks.Marked.{Marked}
use Rattle.lg_types.specs.Marked.{events_of}
use Rattle.lg_types.specs.Parts.{Share, part_of}

-- a function of what each place holds
abbrev pub mapped : {A B : Type 0} → List (Option A) → (A → B) → List (Option B)
mapped [] f = []
mapped (x ∷ xs) f = option_map f x ∷ mapped xs f

-- a fact of each place that holds something
abbrev pub AllHeld : {A : Type 0} → List (Option A) → (ℕ → A → Type 0) → Type 0
AllHeld {A} xs F = (i : ℕ) (a : A) → slice_get xs i ≡ Some (Some a) → F i a

-- the same places hold something
abbrev pub SameHeld : {A B : Type 0} → List (Option A) → List (Option B) → Type 0
SameHeld xs ys = (k : ℕ) → is_some (slice_index_or xs k None) ≡ is_some (slice_index_or ys k None)

-- those places below n that a test names hold something, and no other place
abbrev pub HeldBelow : {A : Type 0} → (ℕ → Bool) → ℕ → List (Option A) → Type 0
HeldBelow test n xs = (k : ℕ) → k < 16 → is_some (slice_index_or xs k None) ≡ (nat_lt k n && test k)

-- a stripe that was locked, its part not older than the last event that touches it
pub record Ready (k stripe : ℕ) (prepared : Bool) (stamp known : ℕ) : Type 0 where
  pub stripe_is : stripe ≡ k
  pub unprepared : prepared ≡ false
  pub current : stamp ≤ known

-- a stripe that was met: its part is its part of the list of all events
pub record Stripe (preparing : Bool) (log : List Marked) (k stripe known : ℕ) (prepared : Bool) (shares : List Share) : Type 0 where
  pub stripe_is : stripe ≡ k
  pub known_fits : known ≤ length log
  pub shares_is : shares ≡ part_of k (events_of log)
  pub unprepared : preparing ≡ false → prepared ≡ false

-- where the stripes before the i-th were met
pub record Refreshing (i : ℕ) (log : List Marked) (k stripe : ℕ) (prepared : Bool) (stamp known : ℕ) (shares : List Share) : Type 0 where
  pub before : k < i → Stripe false log k stripe known prepared shares
  pub after : i ≤ k → Ready k stripe prepared stamp known

-- where the touched stripes from lo on and before hi have a change prepared on them, and no other stripe has
pub record Staged (lo hi : ℕ) (touched : ℕ → Bool) (log : List Marked) (k stripe known : ℕ) (prepared : Bool) (shares : List Share) (on : Type 0) : Type 0 where
  pub stripe_is : stripe ≡ k
  pub known_fits : known ≤ length log
  pub shares_is : shares ≡ part_of k (events_of log)
  pub flag : prepared ≡ (nat_le lo k && (nat_lt k hi && touched k))
  pub ready : lo ≤ k → k < hi → touched k ≡ true → on

-- a stripe whose part is its part of a list of events, with nothing prepared on it
pub record Applied (events : List Event) (k stripe known : ℕ) (prepared : Bool) (shares : List Share) : Type 0 where
  pub stripe_is : stripe ≡ k
  pub known_fits : known ≤ length events
  pub shares_is : shares ≡ part_of k events
  pub unprepared : prepared ≡ false

-- where the stripes before the i-th took the events of a change, and the touched ones from the i-th on have it prepared on them
pub record Applying (i : ℕ) (touched : ℕ → Bool) (events added : List Event) (k stripe known : ℕ) (prepared : Bool) (shares : List Share) (on : Type 0) : Type 0 where
  pub stripe_is : stripe ≡ k
  pub before : k < i → Applied (events ++ added) k stripe known prepared shares
  pub known_fits : i ≤ k → known ≤ length events
  pub shares_is : i ≤ k → shares ≡ part_of k events
  pub flag : i ≤ k → prepared ≡ touched k
  pub ready : i ≤ k → touched k ≡ true → on
