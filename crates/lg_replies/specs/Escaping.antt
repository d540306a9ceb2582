-- What a feed that escapes stands for: lists that tell first what the feed behind it was when this one began. Those that
-- begin with 0 tell the name of its borrow and its count of stops, and those that begin with 1 one list that it stood
-- for, each number of which is one more here, with a 0 after it. What this feed was fed follows.
use Rattle.std.specs.Prelude.{◌≡◌, ℕ, ◌+◌, ◌≤◌, Bool, true, false, List, [], ◌∷◌, ◌++◌}
use Rattle.std.specs.List.{flat_map}
use Rattle.lg_base.specs.Growth.{Rose}
use Rattle.lg_base.specs.Texts.{escaped}

abbrev pub behind : List ℕ → List ℕ
behind [] = 0 ∷ []
behind (b ∷ bs) = (b + 1) ∷ behind bs

-- a stop shows in the count of the feed behind
abbrev pub Counted : Bool → ℕ → ℕ → Type 0
Counted false first now = first ≤ now
Counted true first now = Rose first now

-- the whole of what was fed stands escaped in the feed behind, and after a stop a front of it
abbrev pub StandsEscaped : (List ℕ → Type 0) → Bool → List ℕ → List ℕ → Type 0
StandsEscaped Fed false before text = Fed (before ++ flat_map escaped text)
StandsEscaped Fed true before text = (front : List ℕ) × (rest : List ℕ) × (flat_map escaped text ≡ front ++ rest) × Fed (before ++ front)

pub data StandsFor {F : Type 0} (fed : F → List ℕ → Type 0) (stops lent : F → ℕ) (to : F) (stopped : Bool) (m : List ℕ) : Type 0 where
  names : (first : ℕ) (text : List ℕ) → m ≡ 0 ∷ lent to ∷ first ∷ text → Counted stopped first (stops to) → StandsFor fed stops lent to stopped m
  stands : (before text : List ℕ) → m ≡ 1 ∷ (behind before ++ text) → StandsEscaped (fed to) stopped before text → StandsFor fed stops lent to stopped m
