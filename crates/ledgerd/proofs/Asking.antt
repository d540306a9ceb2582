-- What words ask for, and that others ask for nothing.
use Rattle.std.proofs.Common.{◌≡◌, ℕ, ◌^◌, ◌<◌, ◌≤◌, List, [], ◌∷◌, sym, subst, ◌∙◌, arith}
use Rattle.std.specs.Prelude.{Bool, true, false, IsTrue, ◌↔◌, codes, decimal}
use Rattle.std.proofs.lemmas.Fmt.{decimal_injective}
use Rattle.ledgerd.specs.Words.{NamesScript, Asks}
use Rattle.ledgerd.specs.declared.words.Command.{Command}
use Rattle.ledgerd.specs.declared.words.Command.TheVariants.{Run, Make, Script, Usage}

-- the digits of a number that is no number of lines
pub no_count : (digits : List ℕ) (number : ℕ) → digits ≡ decimal number → number < 2 ^ 64 → ¬ ((1 ≤ number) × (number ≤ 100000))
    → (n : ℕ) → 1 ≤ n → n ≤ 100000 → ¬ (digits ≡ decimal n)
no_count digits number is fits out n some few e =
    let same = decimal_injective n number (omega arith) fits (sym e ∙ is) in
    let P : ℕ → Type 0 = λ m. 1 ≤ m in
    let Q : ℕ → Type 0 = λ m. m ≤ 100000 in
    out (subst P same some, subst Q same few)

-- a word, a seed and a number of lines
pub named : (text word seed lines : List ℕ) (s n : ℕ) → word ≡ text → seed ≡ decimal s → s < 2 ^ 64 → (lines ≡ decimal n) × (1 ≤ n) × (n ≤ 100000)
    → NamesScript text (word ∷ (seed ∷ (lines ∷ []))) s n
named text word seed lines s n is e fits h = record {
  words_are = cc;
  seed_fits = fits;
  some = h.1;
  few = h.2;
}

-- another word with them asks for nothing
pub no_made : (word seed lines : List ℕ) → ¬ (word ≡ codes "make") → ¬ (word ≡ codes "script") → (c : Command) → ¬ (Asks (word ∷ (seed ∷ (lines ∷ []))) c)
no_made word seed lines make script Run e = cc
no_made word seed lines make script (Make s n) h = make (let e = h.words_are in cc)
no_made word seed lines make script (Script s n) h = script (let e = h.words_are in cc)
no_made word seed lines make script Usage e = cc
