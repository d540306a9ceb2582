-- Members that may be left out.
use Rattle.std.proofs.Common.{◌≡◌, ◌≢◌, ℕ, Bool, true, false, cond, List, [], ◌∷◌, ◌++◌, Option, Some, None, refl, sym, ◌∙◌, eqb-true, append_assoc}
use Rattle.std.specs.Prelude.{ℤ, codes, decimal, nat_eq}
use Rattle.std.specs.List.{concat}
use Rattle.lg_views.specs.Tokens.{expand_text}
use Rattle.lg_types.specs.PartTexts.{date_text}
use Rattle.lg_tokens.specs.Parts.{IsOther, dated, insertion_text, group_text}
use Rattle.lg_tokens.proofs.Beginnings.{other_absent}
use Rattle.lg_tokens.proofs.Cuts.{behind}

pub insertion_absent : (by_insertion : Bool) (bytes more : List ℕ) → ((rest : List ℕ) → bytes ≢ codes ",\"insertionDate\":true" ++ rest) → bytes ≡ insertion_text by_insertion ++ more → (false ≡ by_insertion) × (bytes ≡ more)
insertion_absent true bytes more absent e = absurd (absent more e)
insertion_absent false bytes more absent e = (refl, e)

group_absent_at : (group : ℕ) (is_zero : Bool) (bytes more : List ℕ) → nat_eq group 0 ≡ is_zero → ((rest : List ℕ) → bytes ≢ codes ",\"groupBy\":" ++ rest)
    → bytes ≡ cond is_zero [] (concat (codes ",\"groupBy\":" ∷ decimal group ∷ [])) ++ more → (0 ≡ group) × (bytes ≡ more)
group_absent_at group true bytes more z absent e = (sym (eqb-true group 0 z), e)
group_absent_at group false bytes more z absent e = absurd (absent ((decimal group ++ []) ++ more) e)

pub group_absent : (group : ℕ) (bytes more : List ℕ) → ((rest : List ℕ) → bytes ≢ codes ",\"groupBy\":" ++ rest) → bytes ≡ group_text group ++ more → (0 ≡ group) × (bytes ≡ more)
group_absent group bytes more absent e = group_absent_at group (nat_eq group 0) bytes more refl absent e

pub expand_absent : (volumes effective : Bool) (bytes more : List ℕ)
    → ((rest : List ℕ) → bytes ≢ codes ",\"expand\":[\"volumes\",\"effectiveVolumes\"]" ++ rest)
    → ((rest : List ℕ) → bytes ≢ codes ",\"expand\":[\"volumes\"]" ++ rest)
    → ((rest : List ℕ) → bytes ≢ codes ",\"expand\":[\"effectiveVolumes\"]" ++ rest)
    → bytes ≡ expand_text volumes effective ++ more → (volumes ≡ false) × (effective ≡ false) × (bytes ≡ more)
expand_absent true true bytes more a b c e = absurd (a more e)
expand_absent true false bytes more a b c e = absurd (b more e)
expand_absent false true bytes more a b c e = absurd (c more e)
expand_absent false false bytes more a b c e = (refl, refl, e)

pub dated_absent : (word : List ℕ) (date : Option ℤ) (bytes more : List ℕ) → ((rest : List ℕ) → bytes ≢ word ++ rest) → bytes ≡ dated word date ++ more → (None ≡ date) × (bytes ≡ more)
dated_absent word None bytes more absent e = (refl, e)
dated_absent word (Some d) bytes more absent e = absurd (absent ((date_text d ++ []) ++ more) (e ∙ append_assoc word (date_text d ++ []) more))

-- a word that is there has its date behind it
pub dated_present : (letter : ℕ) (word tail : List ℕ) (date : Option ℤ) (bytes rest more : List ℕ) → word ≡ 44 ∷ 34 ∷ letter ∷ tail → IsOther letter more → bytes ≡ word ++ rest → bytes ≡ dated word date ++ more
    → (d : ℤ) × (date ≡ Some d) × (rest ≡ date_text d ++ more)
dated_present letter word tail None bytes rest more w other b e = absurd (other_absent letter word tail more rest w other (sym e ∙ b))
dated_present letter word tail (Some d) bytes rest more w other b e =
    (d, refl, behind word rest ((date_text d ++ []) ++ more) (sym b ∙ (e ∙ append_assoc word (date_text d ++ []) more)) ∙ append_assoc (date_text d) [] more)
