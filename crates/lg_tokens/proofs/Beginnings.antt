-- What the members of a token's text begin with.
use Rattle.std.proofs.Common.{◌≡◌, ◌≢◌, ◌⊎◌, inl, inr, ℕ, Bool, true, false, List, [], ◌∷◌, ◌++◌, Option, Some, None, cond, refl, sym, ap, subst, ◌∙◌, append_assoc}
use Rattle.std.specs.Prelude.{ℤ, codes, decimal, nat_eq}
use Rattle.std.specs.List.{concat}
use Rattle.lg_types.specs.PartTexts.{date_text}
use Rattle.lg_types.specs.declared.filters.After.{After}
use Rattle.lg_types.specs.declared.filters.Filter.{Filter, All, Compare, Has, Both', Either', Not'}
use Rattle.lg_views.specs.Tokens.{expand_text}
use Rattle.lg_tokens.specs.Parts.{Begins, IsOther, IsTail, dated, insertion_text, group_text, tail_text}
use Rattle.lg_tokens.specs.Asked.{asked_text}
use Rattle.lg_tokens.specs.declared.asked.Asked.{Asked}

pub begins_as : (P Q : ℕ → Type 0) (bytes : List ℕ) → ((l : ℕ) → P l → Q l) → Begins P bytes → Begins Q bytes
begins_as P Q bytes f b = record { letter = b.letter; rest = b.rest; is = b.is; holds = f b.letter b.holds }

-- a list that begins with another member doesn't begin with the word
pub other_absent : (letter : ℕ) (word tail more rest : List ℕ) → word ≡ 44 ∷ 34 ∷ letter ∷ tail → IsOther letter more → more ≢ word ++ rest
other_absent letter word tail more rest w b e =
    let same : 44 ∷ 34 ∷ b.letter ∷ b.rest ≡ 44 ∷ 34 ∷ letter ∷ (tail ++ rest) = sym b.is ∙ (e ∙ ap (λ (l : List ℕ). l ++ rest) w) in
    b.holds (cc)

pub dated_begins : (P : ℕ → Type 0) (letter : ℕ) (word tail : List ℕ) (date : Option ℤ) (more : List ℕ) → word ≡ 44 ∷ 34 ∷ letter ∷ tail → P letter → Begins P more → Begins P (dated word date ++ more)
dated_begins P letter word tail None more w p b = b
dated_begins P letter word tail (Some d) more w p b = record {
  letter = letter;
  rest = (tail ++ (date_text d ++ [])) ++ more;
  is = ap (λ (l : List ℕ). (l ++ (date_text d ++ [])) ++ more) w;
  holds = p;
}

pub insertion_begins : (P : ℕ → Type 0) (by_insertion : Bool) (more : List ℕ) → P 105 → Begins P more → Begins P (insertion_text by_insertion ++ more)
insertion_begins P false more p b = b
insertion_begins P true more p b = record { letter = 105; rest = _; is = refl; holds = p }

grouped_begins : (P : ℕ → Type 0) (zero_group : Bool) (group : ℕ) (more : List ℕ) → P 103 → Begins P more → Begins P (cond zero_group [] (concat (codes ",\"groupBy\":" ∷ decimal group ∷ [])) ++ more)
grouped_begins P true group more p b = b
grouped_begins P false group more p b = record { letter = 103; rest = _; is = refl; holds = p }

pub group_begins : (P : ℕ → Type 0) (group : ℕ) (more : List ℕ) → P 103 → Begins P more → Begins P (group_text group ++ more)
group_begins P group more p b = grouped_begins P (nat_eq group 0) group more p b

pub expand_begins : (P : ℕ → Type 0) (volumes effective : Bool) (more : List ℕ) → P 101 → Begins P more → Begins P (expand_text volumes effective ++ more)
expand_begins P true true more p b = record { letter = 101; rest = _; is = refl; holds = p }
expand_begins P true false more p b = record { letter = 101; rest = _; is = refl; holds = p }
expand_begins P false true more p b = record { letter = 101; rest = _; is = refl; holds = p }
expand_begins P false false more p b = b

pub tail_begins : (filter : Filter) (place : After) → IsTail (tail_text filter place)
tail_begins All place = record { letter = 97; rest = _; is = refl; holds = inr refl }
tail_begins (Compare op field value) place = record { letter = 102; rest = _; is = refl; holds = inl refl }
tail_begins (Has name) place = record { letter = 102; rest = _; is = refl; holds = inl refl }
tail_begins (Both' shape filters) place = record { letter = 102; rest = _; is = refl; holds = inl refl }
tail_begins (Either' shape filters) place = record { letter = 102; rest = _; is = refl; holds = inl refl }
tail_begins (Not' shape filter) place = record { letter = 102; rest = _; is = refl; holds = inl refl }

-- at the end no other member's letter comes
pub tail_other : (letter : ℕ) (bytes : List ℕ) → letter ≢ 102 → letter ≢ 97 → IsTail bytes → IsOther letter bytes
tail_other letter bytes f a b = begins_as (λ l. (l ≡ 102) ⊎ (l ≡ 97)) (λ l. l ≢ letter) bytes (λ l p e. elim p [ inl x ↦ f (sym e ∙ x) | inr x ↦ a (sym e ∙ x) ]) b

-- the last members of a span, and the end
pub span_begins : (letter : ℕ) (by_insertion : Bool) (group : ℕ) (more : List ℕ) → 105 ≢ letter → 103 ≢ letter → letter ≢ 102 → letter ≢ 97 → IsTail more → IsOther letter (insertion_text by_insertion ++ (group_text group ++ more))
span_begins letter by_insertion group more i g f a tail =
    insertion_begins (λ l. l ≢ letter) by_insertion (group_text group ++ more) i (group_begins (λ l. l ≢ letter) group more g (tail_other letter more f a tail))

asked_regrouped : (p f t i g e m : List ℕ) → (p ++ ((f ++ (t ++ (i ++ g))) ++ e)) ++ m ≡ p ++ (f ++ (t ++ (i ++ (g ++ (e ++ m)))))
asked_regrouped p f t i g e m = simp append_assoc

-- what is asked for and the end begin with a member
pub asked_begins : (a : Asked) (more : List ℕ) → IsTail more → Begins (λ l. Unit {0}) (asked_text a ++ more)
asked_begins a more tail =
    subst (Begins (λ (l : ℕ). Unit {0}))
    (sym (asked_regrouped (dated (codes ",\"pit\":") a.pit) (dated (codes ",\"startTime\":") a.span.from) (dated (codes ",\"endTime\":") a.span.to)
    (insertion_text a.span.by_insertion) (group_text a.span.group) (expand_text a.expand.volumes a.expand.effective) more))
    (dated_begins (λ l. Unit {0}) 112 (codes ",\"pit\":") _ a.pit _ refl tt
    (dated_begins (λ l. Unit {0}) 115 (codes ",\"startTime\":") _ a.span.from _ refl tt
    (dated_begins (λ l. Unit {0}) 101 (codes ",\"endTime\":") _ a.span.to _ refl tt
    (insertion_begins (λ l. Unit {0}) a.span.by_insertion _ tt
    (group_begins (λ l. Unit {0}) a.span.group _ tt
    (expand_begins (λ l. Unit {0}) a.expand.volumes a.expand.effective more tt
    (begins_as (λ l. (l ≡ 102) ⊎ (l ≡ 97)) (λ l. Unit {0}) more (λ l p. tt) tail)))))))
