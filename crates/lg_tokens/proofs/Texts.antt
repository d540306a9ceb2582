-- Equations between the texts that are fed and those that are defined.
use Rattle.std.proofs.Common.{◌≡◌, ℕ, List, [], ◌∷◌, ◌++◌, sym, ap, ◌∙◌, append_assoc}
use Rattle.std.specs.List.{flat_map}
use Rattle.std.proofs.lemmas.List.Concat.{flat_map-append}
use Rattle.lg_base.specs.Texts.{quoted, escaped}
use Rattle.lg_views.specs.Tokens.{in_brackets, one_member}
use Rattle.lg_tokens.specs.TextParts.{opening}

-- an object of one member, from its opening on
pub opened : (name text : List ℕ) → opening name ++ (text ++ (125 ∷ [])) ≡ one_member name text
opened name text = ap (λ (l : List ℕ). 123 ∷ l) (append_assoc (quoted name) (58 ∷ []) (text ++ (125 ∷ [])))

-- an object in an object
pub opened_twice : (name other text : List ℕ) → opening name ++ (opening other ++ (text ++ (125 ∷ 125 ∷ []))) ≡ one_member name (one_member other text)
opened_twice name other text =
    let inner : opening other ++ (text ++ (125 ∷ 125 ∷ [])) ≡ one_member other text ++ (125 ∷ []) =
    ap (λ (l : List ℕ). opening other ++ l) (sym (append_assoc text (125 ∷ []) (125 ∷ [])))
    ∙ sym (append_assoc (opening other) (text ++ (125 ∷ [])) (125 ∷ []))
    ∙ ap (λ (l : List ℕ). l ++ (125 ∷ [])) (opened other text) in
    ap (λ (l : List ℕ). opening name ++ l) inner ∙ opened name (one_member other text)

-- an array in an object
pub opened_list : (name text : List ℕ) → opening name ++ ((91 ∷ []) ++ (text ++ (93 ∷ 125 ∷ []))) ≡ one_member name ((91 ∷ []) ++ (text ++ (93 ∷ [])))
opened_list name text =
    ap (λ (l : List ℕ). opening name ++ (91 ∷ l)) (sym (append_assoc text (93 ∷ []) (125 ∷ []))) ∙ opened name ((91 ∷ []) ++ (text ++ (93 ∷ [])))

-- a string that is fed in parts
pub quoted_in_brackets : (word name : List ℕ) → 34 ∷ (flat_map escaped word ++ (91 ∷ (flat_map escaped name ++ (93 ∷ 34 ∷ [])))) ≡ quoted (in_brackets word name)
quoted_in_brackets word name =
    let front : List ℕ = flat_map escaped word in
    let inner : List ℕ = flat_map escaped name in
    let parts : flat_map escaped (in_brackets word name) ≡ front ++ (91 ∷ (inner ++ (93 ∷ []))) =
    flat_map-append escaped word (91 ∷ (name ++ (93 ∷ []))) ∙ ap (λ (l : List ℕ). front ++ (91 ∷ l)) (flat_map-append escaped name (93 ∷ [])) in
    ap (λ (l : List ℕ). 34 ∷ (front ++ (91 ∷ l))) (sym (append_assoc inner (93 ∷ []) (34 ∷ [])))
    ∙ ap (λ (l : List ℕ). 34 ∷ l) (sym (append_assoc front (91 ∷ (inner ++ (93 ∷ []))) (34 ∷ [])))
    ∙ ap (λ (l : List ℕ). 34 ∷ (l ++ (34 ∷ []))) (sym parts)

pub quoted_pair : (account asset : List ℕ) → 34 ∷ (flat_map escaped account ++ (32 ∷ (flat_map escaped asset ++ (34 ∷ [])))) ≡ quoted (account ++ (32 ∷ asset))
quoted_pair account asset =
    let front : List ℕ = flat_map escaped account in
    let inner : List ℕ = flat_map escaped asset in
    ap (λ (l : List ℕ). 34 ∷ l) (sym (append_assoc front (32 ∷ inner) (34 ∷ [])))
    ∙ ap (λ (l : List ℕ). 34 ∷ (l ++ (34 ∷ []))) (sym (flat_map-append escaped account (32 ∷ asset)))
