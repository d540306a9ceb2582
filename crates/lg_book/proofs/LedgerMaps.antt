-- Ledgers found and changed by their names.
use Rattle.std.proofs.Common.{◌≡◌, ℕ, Bool, true, false, cond, List, Ordering, Less, Equal, Greater, Option, Some, None, refl, sym, ap, ap₂, ◌∙◌}
use Rattle.std.specs.Option.{option_map}
use Rattle.std.specs.Ordering.{eq_by_cmp, is_eq}
use Rattle.std.specs.Cmp.{tied_itself}
use Rattle.std.specs.Cmp.Lexicographic.{nat_list_cmp_total}
use Rattle.lg_containers.specs.NameOrder.{name_order}
use Rattle.lg_containers.specs.NameTable.{name_order-same, same_table, get, insert, remove, get-insert, get-remove}
use Rattle.lg_book.specs.Index.{LedgerView, put_if, put_changed}
use Rattle.lg_book.specs.Writing.{Ledgers}

pub found_there : (name found : List ℕ) (ledgers : Ledgers) (old : LedgerView) → found ≡ name → get ledgers found ≡ Some old → get ledgers name ≡ Some old
found_there name found ledgers old same is = ap (get ledgers) (sym same) ∙ is

-- the value of a name changed
pub changed_there : (name found : List ℕ) (ledgers : Ledgers) (old new : LedgerView) (change : LedgerView → LedgerView) → found ≡ name → get ledgers found ≡ Some old → new ≡ change old
    → insert ledgers found new ≡ put_changed name change ledgers
changed_there name found ledgers old new change same is made =
    ap₂ (insert ledgers) same made ∙ ap (λ o. put_if name (option_map change o) ledgers) (sym (found_there name found ledgers old same is))

pub changed_nowhere : (name found : List ℕ) (ledgers : Ledgers) (change : LedgerView → LedgerView) → found ≡ name → None ≡ get ledgers found → ledgers ≡ put_changed name change ledgers
changed_nowhere name found ledgers change same is = ap (λ o. put_if name (option_map change o) ledgers) (is ∙ ap (get ledgers) same)

-- ---- what is found afterwards

equal : (o : Ordering) → is_eq o ≡ true → o ≡ Equal
equal Less h = absurd (let f : false ≡ true = h in cc)
equal Equal h = refl
equal Greater h = absurd (let f : false ≡ true = h in cc)

-- names that differ aren't equal in the order
apart : (x y : List ℕ) → (x ≡ y → ⊥) → eq_by_cmp name_order x y ≡ false
apart x y h = by_test (eq_by_cmp name_order x y) refl
  where
    by_test : (b : Bool) → eq_by_cmp name_order x y ≡ b → eq_by_cmp name_order x y ≡ false
    by_test true e = absurd (h (name_order-same x y (equal (name_order x y) e)))
    by_test false e = e

same_value : (name q : List ℕ) (ledgers : Ledgers) (x : LedgerView) → get ledgers name ≡ Some x → (b : Bool) → eq_by_cmp name_order q name ≡ b → cond b (Some x) (get ledgers q) ≡ get ledgers q
same_value name q ledgers x is true e = sym (ap (get ledgers) (name_order-same q name (equal (name_order q name) e)) ∙ is)
same_value name q ledgers x is false e = refl

-- a name with the value that it has
pub put_same : (name : List ℕ) (ledgers : Ledgers) (old new : LedgerView) → get ledgers name ≡ Some old → new ≡ old → insert ledgers name new ≡ ledgers
put_same name ledgers old new is made =
    ap (insert ledgers name) made
    ∙ same_table (insert ledgers name old) ledgers (λ q. get-insert ledgers name old q ∙ same_value name q ledgers old is (eq_by_cmp name_order q name) refl)

itself : (name : List ℕ) → eq_by_cmp name_order name name ≡ true
itself name = ap is_eq (tied_itself nat_list_cmp_total name)

pub get-here : (name : List ℕ) (x : LedgerView) (ledgers : Ledgers) → get (insert ledgers name x) name ≡ Some x
get-here name x ledgers = get-insert ledgers name x name ∙ ap (λ b. cond b (Some x) (get ledgers name)) (itself name)

pub get-other : (name other : List ℕ) (x : LedgerView) (ledgers : Ledgers) → (other ≡ name → ⊥) → get (insert ledgers name x) other ≡ get ledgers other
get-other name other x ledgers h = get-insert ledgers name x other ∙ ap (λ b. cond b (Some x) (get ledgers other)) (apart other name h)

pub get-taken_here : (name : List ℕ) (ledgers : Ledgers) → get (remove ledgers name) name ≡ None
get-taken_here name ledgers = get-remove ledgers name name ∙ ap (λ b. cond b None (get ledgers name)) (itself name)

pub get-taken_other : (name other : List ℕ) (ledgers : Ledgers) → (other ≡ name → ⊥) → get (remove ledgers name) other ≡ get ledgers other
get-taken_other name other ledgers h = get-remove ledgers name other ∙ ap (λ b. cond b None (get ledgers other)) (apart other name h)
