-- The text of a date between its quotes.
use Rattle.std.proofs.Common.{◌≡◌, ℕ, List, [], ◌∷◌, ◌++◌, ap, ◌∙◌, arith, append_assoc}
use Rattle.std.specs.Prelude.{ℤ}
use Rattle.lg_time.specs.Canonical.{moment_text}
use Rattle.lg_types.specs.PartTexts.{date_text}
use Rattle.lg_tokens.specs.Laws.{DateReadsBack}
use Rattle.lg_tokens.specs.Parts.{Lacks}
use Rattle.lg_tokens.proofs.Names.{ranged_lacks}

pub date_before : (date : ℤ) (more : List ℕ) → DateReadsBack date → date_text date ++ more ≡ 34 ∷ (moment_text date ++ 34 ∷ more)
date_before date more d =
    ap (λ (l : List ℕ). l ++ more) d.parts ∙ ap (λ (l : List ℕ). 34 ∷ l) (append_assoc (moment_text date) (34 ∷ []) more)

pub date_lacks : (date : ℤ) → DateReadsBack date → Lacks 34 (moment_text date)
date_lacks date d = ranged_lacks 34 (moment_text date) (omega arith) d.bytes
