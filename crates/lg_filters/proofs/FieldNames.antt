-- What the names of fields and of operators tell.
use Rattle.std.proofs.Common.{◌≡◌, ◌≢◌, ℕ, inl, inr, List, [], ◌∷◌, ◌++◌, take, drop, refl, sym, ap, subst, ◌∙◌}
use Rattle.std.specs.Prelude.{Option, Some, None, MatchOption, Result, Ok, Err, IfOk, IsUtf8, codes, if◌then◌else◌}
use Rattle.std.specs.Borrow.{Bor}
use Rattle.std.proofs.lemmas.List.{append_cancel_left}
use Rattle.std.specs.Str.{bytes_eq}
use Rattle.lg_containers.specs.AssetGrammar.{IsAsset}
use Rattle.lg_types.specs.declared.filters.Op.{Op}
use Rattle.lg_types.specs.declared.filters.Op.TheVariants.{Equal, Less, LessEqual, Greater, GreaterEqual}
use Rattle.lg_types.specs.declared.filters.Field.{Field}
use Rattle.lg_types.specs.declared.filters.Field.TheVariants as field
use Rattle.lg_views.specs.Tokens.{op_name, field_name, in_brackets}
use Rattle.lg_filters.specs.Parts.{IsRead, NamesField, NamesTextField, NamesStateField, NamesBracketField}

metadata_named : (bytes inner : List ℕ) (f : Field) → bytes ≡ in_brackets (codes "metadata") inner → f ≡ field.Metadata inner → IsUtf8 inner → NamesField bytes f
metadata_named bytes inner f e is u = subst (λ (g : Field). NamesField bytes g) (sym is) (sym e, u)

balance_named : (bytes inner : List ℕ) (f : Field) → bytes ≡ in_brackets (codes "balance") inner → f ≡ field.Balance inner → IsAsset inner → NamesField bytes f
balance_named bytes inner f e is u = subst (λ (g : Field). NamesField bytes g) (sym is) (sym e, u)

bracket_named : (bytes : List ℕ) (f : Field) → NamesBracketField bytes f → NamesField bytes f
bracket_named bytes f h = elim h.1 [
  | inl k ↦ metadata_named bytes h.0 f k.0 k.1.0 k.1.1
  | inr k ↦ balance_named bytes h.0 f k.0 k.1.0 k.1.1
]

module _ (bytes : List ℕ) (no_text : (f : Field) → ¬ (NamesTextField bytes f)) (no_state : (f : Field) → ¬ (NamesStateField bytes f)) where
  unnamed : ((f : Field) → ¬ (NamesBracketField bytes f)) → (f : Field) → ¬ (NamesField bytes f)
  unnamed others field.Address n = no_text field.Address (n.0, tt)
  unnamed others field.Account n = no_text field.Account (n.0, tt)
  unnamed others field.Source n = no_text field.Source (n.0, tt)
  unnamed others field.Destination n = no_text field.Destination (n.0, tt)
  unnamed others field.Reference n = no_text field.Reference (n.0, tt)
  unnamed others field.Id n = no_state field.Id (n.0, tt)
  unnamed others field.Timestamp n = no_state field.Timestamp (n.0, tt)
  unnamed others field.Date n = no_state field.Date (n.0, tt)
  unnamed others field.Reverted n = no_state field.Reverted (n.0, tt)
  unnamed others (field.Metadata name) n = others (field.Metadata name) (name, inl (sym n.0, (refl, n.1)))
  unnamed others (field.Balance asset) n = others (field.Balance asset) (asset, inr (sym n.0, (refl, n.1)))

  -- a name that no field without brackets has
  pub field_read : (o : Option Field) → IsRead (NamesBracketField bytes) o → IsRead (NamesField bytes) o
  field_read (Some f) h = bracket_named bytes f h
  field_read None h = unnamed h

  pub field_read_in : {E : Type 0} (r : Result (Option Field) E) → IfOk r (IsRead (NamesBracketField bytes)) → IfOk r (IsRead (NamesField bytes))
  field_read_in (Ok o) h = field_read o h
  field_read_in (Err e) h = tt

-- a name between a front and a closing bracket
pub between_is : (name front rest : List ℕ) (o : Option (Bor (List ℕ))) → name ≡ front ++ rest
    → MatchOption o ((inner : List ℕ) → rest ≢ inner ++ 93 ∷ []) (λ inner. rest ≡ inner.now ++ 93 ∷ [])
    → MatchOption o ((inner : List ℕ) → name ≢ front ++ (inner ++ 93 ∷ [])) (λ inner. name ≡ front ++ (inner.now ++ 93 ∷ []))
between_is name front rest None e h = λ inner f. h inner (append_cancel_left front rest (inner ++ 93 ∷ []) (sym e ∙ f))
between_is name front rest (Some b) e h = e ∙ ap (λ (l : List ℕ). front ++ l) h

-- a field by its name
abbrev mutual
  front : List ℕ → List ℕ
  front [] = []
  front (b ∷ bs) = front_of b bs

  front_of : ℕ → List ℕ → List ℕ
  front_of b [] = []
  front_of b (c ∷ bs) = b ∷ front_of c bs

front_of_is : (b : ℕ) (name : List ℕ) → front_of b (name ++ 93 ∷ []) ≡ b ∷ name
front_of_is b [] = refl
front_of_is b (c ∷ bs) = ap (λ (l : List ℕ). b ∷ l) (front_of_is c bs)

front_is : (name : List ℕ) → front (name ++ 93 ∷ []) ≡ name
front_is [] = refl
front_is (b ∷ bs) = front_of_is b bs

abbrev bracket_field : List ℕ → Field
bracket_field bytes =
    if bytes_eq (take 9 bytes) (codes "metadata[") then field.Metadata (front (drop 9 bytes)) else field.Balance (front (drop 8 bytes))

abbrev state_field : List ℕ → Field
state_field bytes =
    if bytes_eq bytes (codes "id") then field.Id
    else (if bytes_eq bytes (codes "timestamp") then field.Timestamp
    else (if bytes_eq bytes (codes "date") then field.Date
    else (if bytes_eq bytes (codes "reverted") then field.Reverted
    else bracket_field bytes)))

abbrev pub field_of : List ℕ → Field
field_of bytes =
    if bytes_eq bytes (codes "address") then field.Address
    else (if bytes_eq bytes (codes "account") then field.Account
    else (if bytes_eq bytes (codes "source") then field.Source
    else (if bytes_eq bytes (codes "destination") then field.Destination
    else (if bytes_eq bytes (codes "reference") then field.Reference
    else state_field bytes))))

pub field_of_name : (f : Field) → field_of (field_name f) ≡ f
field_of_name field.Address = refl
field_of_name field.Account = refl
field_of_name field.Source = refl
field_of_name field.Destination = refl
field_of_name field.Reference = refl
field_of_name field.Id = refl
field_of_name field.Timestamp = refl
field_of_name field.Date = refl
field_of_name field.Reverted = refl
field_of_name (field.Metadata name) = ap (λ (l : List ℕ). field.Metadata l) (front_is name)
field_of_name (field.Balance asset) = ap (λ (l : List ℕ). field.Balance l) (front_is asset)

pub same_field : (f g : Field) → field_name f ≡ field_name g → f ≡ g
same_field f g e = sym (field_of_name f) ∙ ap (λ (bytes : List ℕ). field_of bytes) e ∙ field_of_name g

-- an operator by its name
abbrev pub op_of : List ℕ → Op
op_of bytes =
    if bytes_eq bytes (codes "$match") then Equal
    else (if bytes_eq bytes (codes "$lt") then Less
    else (if bytes_eq bytes (codes "$lte") then LessEqual
    else (if bytes_eq bytes (codes "$gt") then Greater
    else GreaterEqual)))

pub op_of_name : (op : Op) → op_of (op_name op) ≡ op
op_of_name Equal = refl
op_of_name Less = refl
op_of_name LessEqual = refl
op_of_name Greater = refl
op_of_name GreaterEqual = refl

pub same_op : (a b : Op) → op_name a ≡ op_name b → a ≡ b
same_op a b e = sym (op_of_name a) ∙ ap (λ (bytes : List ℕ). op_of bytes) e ∙ op_of_name b

pub compares_op : (op : Op) → ¬ (op_name op ≡ codes "$exists")
compares_op Equal e = cc
compares_op Less e = cc
compares_op LessEqual e = cc
compares_op Greater e = cc
compares_op GreaterEqual e = cc
