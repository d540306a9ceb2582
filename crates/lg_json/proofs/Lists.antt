-- Blanks, items and members as they are read from left to right.
use Rattle.std.proofs.Common.{◌≡◌, ℕ, true, ◌==◌, nat_le, List, [], ◌∷◌, ◌++◌, refl, sym, ap, ◌∙◌, inl, inr, append_assoc, append-nil, eqb-true}
use Rattle.std.proofs.lemmas.Bool.{or_cases, and_parts, leb-true}
use Rattle.std.specs.List.{AllByRecursion}
use Rattle.lg_json.specs.Tree.{Tree, Entry, trees, entries}
use Rattle.lg_json.specs.Grammar.{IsBlankByte, IsBlank, IsDigit, Padded, IsMember, IsValue, AreItems, AreMembers}
use Rattle.lg_json.specs.Reading.{is_blank, is_digit}

pub blank_byte : (b : ℕ) → is_blank b ≡ true → IsBlankByte b
blank_byte b e = elim (or_cases _ (b == 13) e) [
  | inl f ↦ elim (or_cases _ (b == 10) f) [
    | inl g ↦ elim (or_cases (b == 32) (b == 9) g) [ inl h ↦ inl (eqb-true b 32 h) | inr h ↦ inr (inl (eqb-true b 9 h)) ]
    | inr g ↦ inr (inr (inl (eqb-true b 10 g)))
  ]
  | inr f ↦ inr (inr (inr (eqb-true b 13 f)))
]

pub digit_byte : (b : ℕ) → is_digit b ≡ true → IsDigit b
digit_byte b e = let p = and_parts (nat_le 48 b) (nat_le b 57) e in (leb-true 48 b p.0, leb-true b 57 p.1)

pub all_snoc : (P : ℕ → Type 0) (bs : List ℕ) (b : ℕ) → AllByRecursion P bs → P b → AllByRecursion P (bs ++ b ∷ [])
all_snoc P [] b h p = (p, tt)
all_snoc P (x ∷ xs) b h p = (h.0, all_snoc P xs b h.1 p)

pub blank_snoc : (bs : List ℕ) (b : ℕ) → IsBlank bs → IsBlankByte b → IsBlank (bs ++ b ∷ [])
blank_snoc bs b h p = all_snoc IsBlankByte bs b h p

-- one more byte at the end of what stands after `outer`
pub snoc : (front outer inner : List ℕ) (b : ℕ) → front ≡ outer ++ inner → front ++ b ∷ [] ≡ outer ++ (inner ++ b ∷ [])
snoc front outer inner b e = ap (λ (l : List ℕ). l ++ b ∷ []) e ∙ append_assoc outer inner (b ∷ [])

pub snoc2 : (front outer inner more : List ℕ) (b : ℕ) → front ≡ outer ++ (inner ++ more) → front ++ b ∷ [] ≡ outer ++ (inner ++ (more ++ b ∷ []))
snoc2 front outer inner more b e = snoc front outer (inner ++ more) b e ∙ ap (λ (l : List ℕ). outer ++ l) (append_assoc inner more (b ∷ []))

pub snoc3 : (front outer inner more last : List ℕ) (b : ℕ) → front ≡ outer ++ (inner ++ (more ++ last)) → front ++ b ∷ [] ≡ outer ++ (inner ++ (more ++ (last ++ b ∷ [])))
snoc3 front outer inner more last b e = snoc2 front outer inner (more ++ last) b e ∙ ap (λ (l : List ℕ). outer ++ (inner ++ l)) (append_assoc more last (b ∷ []))

pub padded : (P : List ℕ → Type 0) (before inner : List ℕ) → IsBlank before → P inner → Padded P (before ++ inner)
padded P before inner blank h = (before, inner, [], blank, h, tt, ap (λ (l : List ℕ). before ++ l) (sym (append-nil inner)))

pub padded_snoc : (P : List ℕ → Type 0) (bytes : List ℕ) (b : ℕ) → IsBlankByte b → Padded P bytes → Padded P (bytes ++ b ∷ [])
padded_snoc P bytes b blank h = (h.0, h.1, h.2 ++ b ∷ [], h.3, h.4, blank_snoc h.2 b h.5 blank, snoc2 bytes h.0 h.1 h.2 b h.6)

pub member_snoc : (name : List ℕ) (P : List ℕ → Type 0) (bytes : List ℕ) (b : ℕ) → IsBlankByte b → IsMember name P bytes → IsMember name P (bytes ++ b ∷ [])
member_snoc name P bytes b blank h = (h.0, h.1 ++ b ∷ [], h.2, padded_snoc P h.1 b blank h.3, snoc bytes h.0 (58 ∷ h.1) b h.4)

-- a blank after the last item
pub items_snoc : (t : Tree) (ts : List Tree) (inner : List ℕ) (b : ℕ) → IsBlankByte b → AreItems (trees (t ∷ ts)) inner → AreItems (trees (t ∷ ts)) (inner ++ b ∷ [])
items_snoc t [] inner b blank h = padded_snoc (IsValue t) inner b blank h
items_snoc t (u ∷ us) inner b blank h = (h.0, h.1 ++ b ∷ [], h.2, items_snoc u us h.1 b blank h.3, snoc inner h.0 (44 ∷ h.1) b h.4)

pub members_snoc : (m : Entry) (ms : List Entry) (inner : List ℕ) (b : ℕ) → IsBlankByte b → AreMembers (entries (m ∷ ms)) inner → AreMembers (entries (m ∷ ms)) (inner ++ b ∷ [])
members_snoc m [] inner b blank h = member_snoc m.0 (IsValue m.1) inner b blank h
members_snoc m (n ∷ ns) inner b blank h = (h.0, h.1 ++ b ∷ [], h.2, members_snoc n ns h.1 b blank h.3, snoc inner h.0 (44 ∷ h.1) b h.4)

-- one more item
pub items_push : (t : Tree) (ts : List Tree) (u : Tree) (inner last : List ℕ) → AreItems (trees (t ∷ ts)) inner → Padded (IsValue u) last → AreItems (trees ((t ∷ ts) ++ u ∷ [])) (inner ++ 44 ∷ last)
items_push t [] u inner last h p = (inner, last, h, p, refl)
items_push t (v ∷ vs) u inner last h p = (h.0, h.1 ++ 44 ∷ last, h.2, items_push v vs u h.1 last h.3 p, ap (λ (l : List ℕ). l ++ 44 ∷ last) h.4 ∙ append_assoc h.0 (44 ∷ h.1) (44 ∷ last))

pub members_push : (m : Entry) (ms : List Entry) (name : List ℕ) (u : Tree) (inner last : List ℕ) → AreMembers (entries (m ∷ ms)) inner → IsMember name (IsValue u) last → AreMembers (entries ((m ∷ ms) ++ (name, u) ∷ [])) (inner ++ 44 ∷ last)
members_push m [] name u inner last h p = (inner, last, h, p, refl)
members_push m (n ∷ ns) name u inner last h p = (h.0, h.1 ++ 44 ∷ last, h.2, members_push n ns name u h.1 last h.3 p, ap (λ (l : List ℕ). l ++ 44 ∷ last) h.4 ∙ append_assoc h.0 (44 ∷ h.1) (44 ∷ last))
