-- The words of the command line, and what they ask for.
use Rattle.std.specs.Prelude.{◌≡◌, ℕ, ◌^◌, ◌<◌, ◌≤◌, List, [], ◌∷◌, Option, MatchOption, codes, decimal}
use Rattle.ledgerd.specs.declared.words.Command.{Command}
use Rattle.ledgerd.specs.declared.words.Command.TheVariants.{Run, Make, Script, Usage}

-- a word, a seed, and a number of lines from 1 to 100,000; a number is `0` or digits without a leading zero
pub record NamesScript (word : List ℕ) (words : List (List ℕ)) (seed lines : ℕ) : Type 0 where
  pub words_are : words ≡ word ∷ (decimal seed ∷ (decimal lines ∷ []))
  pub seed_fits : seed < 2 ^ 64
  pub some : 1 ≤ lines
  pub few : lines ≤ 100000

abbrev pub Asks : List (List ℕ) → Command → Type 0
Asks words Run = words ≡ codes "run" ∷ []
Asks words (Make seed lines) = NamesScript (codes "make") words seed lines
Asks words (Script seed lines) = NamesScript (codes "script") words seed lines
Asks words Usage = words ≡ codes "usage" ∷ []

-- the command that the words ask for, and none exactly where they ask for none
abbrev pub IsCommandOf : List (List ℕ) → Option Command → Type 0
IsCommandOf words result = MatchOption result ((c : Command) → ¬ (Asks words c)) (Asks words)

-- the number of lines that the digits stand for
abbrev pub IsCount : List ℕ → Option ℕ → Type 0
IsCount digits result = MatchOption result ((n : ℕ) → 1 ≤ n → n ≤ 100000 → ¬ (digits ≡ decimal n)) (λ n. (digits ≡ decimal n) × (1 ≤ n) × (n ≤ 100000))

-- a made script has at most 100,000 lines
abbrev pub IsInLimits : Command → Type 0
IsInLimits Run = Unit {0}
IsInLimits (Make seed lines) = lines ≤ 100000
IsInLimits (Script seed lines) = lines ≤ 100000
IsInLimits Usage = Unit {0}
