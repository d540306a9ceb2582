-- What a call leaves of an object that bytes are given to: what it stands for has grown by the bytes, or by a front of
-- them where the call failed, and a failure shows in the object's count of faults. Names no trait.
use Rattle.std.specs.Prelude.{◌≡◌, ℕ, ◌+◌, ◌-◌, ◌^◌, ◌≤◌, min, List, ◌++◌, Result, OnOk, OnErr}

-- the count went up by at least one; at its type's end it stands still
abbrev pub Rose : ℕ → ℕ → Type 0
Rose before now = min (before + 1) (2 ^ 64 - 1) ≤ now

-- the count never falls, and an error comes only where it rose
pub record HasCause {T E : Type 0} (before now : ℕ) (result : Result T E) : Type 0 where
  pub later : before ≤ now
  pub failed : OnErr result (Rose before now)

-- each list that the old object stands for, followed by the bytes, is one that the new object stands for
abbrev pub Grows : {F : Type 0} → (F → List ℕ → Type 0) → F → F → List ℕ → Type 0
Grows fed old new bytes = (m : List ℕ) → fed old m → fed new (m ++ bytes)

-- the same with some front of the bytes
abbrev pub GrowsInPart : {F : Type 0} → (F → List ℕ → Type 0) → F → F → List ℕ → Type 0
GrowsInPart fed old new bytes =
    (m : List ℕ) → fed old m → (front : List ℕ) × (rest : List ℕ) × (bytes ≡ front ++ rest) × fed new (m ++ front)

-- a call gives a text to an object: whole where it succeeds, in part where it stops, and stops only by a cause; the
-- borrow that the object goes through stays the same
pub record Gives {F T E : Type 0} (fed : F → List ℕ → Type 0) (stops : F → ℕ) (lent : F → ℕ) (old new : F) (text : List ℕ) (result : Result T E) : Type 0 where
  pub ok : OnOk result (Grows fed old new text)
  pub stopped : OnErr result (GrowsInPart fed old new text)
  pub cause : HasCause (stops old) (stops new) result
  pub same : lent new ≡ lent old

-- whatever call gives what is left, from now on, has given the whole from the first state on
pub record Completes {F : Type 0} (E : Type 0) (fed : F → List ℕ → Type 0) (stops lent : F → ℕ) (first now : F) (whole left : List ℕ) : Type 0 where
  pub on : (last : F) (result : Result (Unit {0}) E) → Gives fed stops lent now last left result → Gives fed stops lent first last whole result
