-- What is found in accounts after a change of one of them.
use Rattle.std.proofs.Common.{◌≡◌, ℕ, ◌+◌, ◌<◌, [], length, arith, Bool, true, false, cond, ◌&&◌, List, Bor, is_some, Option, Some, None, IsSome, unwrap_or, Result, Ok, Err, OnErr, Ordering, Less, Equal, Greater, refl, sym, ap, ap₂, subst, ◌∙◌}
use Rattle.std.specs.Option.{option_copied}
use Rattle.std.specs.Ordering.{is_eq, eq_by_cmp}
use Rattle.std.specs.Cmp.{tied_itself}
use Rattle.std.specs.Cmp.Lexicographic.{nat_list_cmp_total}
use Rattle.std.specs.Str.{bytes_eq}
use Rattle.std.proofs.lemmas.Slice.Eq.{bytes_eq-Decides}
use Rattle.lg_containers.specs.NameOrder.{name_order}
use Rattle.lg_containers.specs.NameTable.{NameTable, get, insert, empty, get-insert, get-empty, name_order-same}
use Rattle.lg_meta.specs.History.{History}
use Rattle.lg_shard.specs.declared.accounts.AccountPart.{AccountPart}
use Rattle.lg_shard.specs.declared.reserved.Reserved.{Reserved}
use Rattle.lg_shard.specs.Accounts.{no_history, slot_in, items_of, waiting_of, waiting_at, one_if, history_in, slot_at, history_at, is_pair, SameHoldings, SameRoom}

-- ---- the order of names and the equality of their bytes

pub same_bool : (a b : Bool) → (a ≡ true → b ≡ true) → (b ≡ true → a ≡ true) → a ≡ b
same_bool true true f g = refl
same_bool true false f g = sym (f refl)
same_bool false true f g = g refl
same_bool false false f g = refl

from_eq : (r : Ordering) → is_eq r ≡ true → r ≡ Equal
from_eq Less h = absurd cc
from_eq Equal h = refl
from_eq Greater h = absurd cc

pub bytes_same : (x y : List ℕ) → bytes_eq x y ≡ true → x ≡ y
bytes_same x y h = (bytes_eq-Decides x y).0 h

pub bytes_itself : (x : List ℕ) → bytes_eq x x ≡ true
bytes_itself x = (bytes_eq-Decides x x).1 refl

order_from_eq : (x y : List ℕ) → y ≡ x → name_order x y ≡ Equal
order_from_eq x y h = ap (name_order x) h ∙ tied_itself nat_list_cmp_total x

pub order_eq : (q name : List ℕ) → eq_by_cmp name_order q name ≡ bytes_eq name q
order_eq q name =
    same_bool _ _ (λ h. (bytes_eq-Decides name q).1 (sym (name_order-same q name (from_eq (name_order q name) h))))
    (λ h. ap is_eq (order_from_eq q name (bytes_same name q h)))

pub get-change : {V : Type 0} (t : NameTable V) (name : List ℕ) (v : V) (q : List ℕ) → get (insert t name v) q ≡ cond (bytes_eq name q) (Some v) (get t q)
get-change t name v q = get-insert t name v q ∙ ap (λ b. cond b (Some v) (get t q)) (order_eq q name)

-- a name that gets the value that it has is as before
opened_step : {V X : Type 0} (f : Option V → X) (v : V) (o : Option V) → f (Some v) ≡ f None → f (Some (unwrap_or o v)) ≡ f o
opened_step f v None h = h
opened_step f v (Some w) h = refl

opened_or : {V X : Type 0} (f : Option V → X) (v : V) (o p : Option V) (b : Bool) → f (Some v) ≡ f None → (b ≡ true → o ≡ p) → f (cond b (Some (unwrap_or o v)) p) ≡ f p
opened_or f v o p true h same = opened_step f v o h ∙ ap f (same refl)
opened_or f v o p false h same = refl

pub get-opened : {V X : Type 0} (f : Option V → X) (t : NameTable V) (name : List ℕ) (v : V) (q : List ℕ) → f (Some v) ≡ f None → f (get (insert t name (unwrap_or (get t name) v)) q) ≡ f (get t q)
get-opened f t name v q h =
    ap f (get-change t name _ q) ∙ opened_or f v (get t name) (get t q) (bytes_eq name q) h (λ e. ap (get t) (bytes_same name q e))

-- ---- another slot

slot_or : (part : AccountPart) (s r : List ℕ) (w : Reserved) (o : Option AccountPart) (b : Bool) → (b ≡ true → o ≡ Some part)
    → slot_in (cond b (Some (record part { assets = insert part.assets s w })) o) r ≡ cond (b && bytes_eq s r) (Some w) (slot_in o r)
slot_or part s r w o true same = get-change part.assets s w r ∙ ap (λ p. cond (bytes_eq s r) (Some w) (slot_in p r)) (sym (same refl))
slot_or part s r w o false same = refl

history_or : (part changed : AccountPart) (o : Option AccountPart) (b : Bool) → changed.history ≡ part.history → (b ≡ true → o ≡ Some part) → history_in (cond b (Some changed) o) ≡ history_in o
history_or part changed o true h same = h ∙ ap history_in (sym (same refl))
history_or part changed o false h same = refl

module _ (t : NameTable AccountPart) (account asset : List ℕ) (part : AccountPart) (there : get t account ≡ Some part) (w : Reserved) where
  same_there : (a : List ℕ) → bytes_eq account a ≡ true → get t a ≡ Some part
  same_there a e = ap (get t) (sym (bytes_same account a e)) ∙ there

  pub slot-with : (a s : List ℕ) → slot_at (insert t account (record part { assets = insert part.assets asset w })) a s ≡ cond (bytes_eq account a && bytes_eq asset s) (Some w) (slot_at t a s)
  slot-with a s = ap (λ o. slot_in o s) (get-change t account _ a) ∙ slot_or part asset s w (get t a) (bytes_eq account a) (same_there a)

  pub history-with : (a : List ℕ) → history_at (insert t account (record part { assets = insert part.assets asset w })) a ≡ history_at t a
  history-with a = ap history_in (get-change t account _ a) ∙ history_or part (record part { assets = insert part.assets asset w }) (get t a) (bytes_eq account a) refl (same_there a)

-- ---- a slot that is there and changes

module _ (t : NameTable AccountPart) (account asset n m : List ℕ) (en : n ≡ account) (em : m ≡ asset) (part : AccountPart) (there : get t n ≡ Some part) (slot : Reserved) (found : get part.assets m ≡ Some slot) (w : Reserved) where
  pair_step : (Q : Option Reserved → Option Reserved → Bool → Type 0) → Q (Some w) (Some slot) true → ((o : Option Reserved) → Q o o false)
      → (b : Bool) (o : Option Reserved) → (b ≡ true → o ≡ Some slot) → Q (cond b (Some w) o) o b
  pair_step Q here other true o is = subst (λ p. Q (Some w) p true) (sym (is refl)) here
  pair_step Q here other false o is = other o

  both_first : (a b : Bool) → (a && b) ≡ true → a ≡ true
  both_first true b h = refl
  both_first false b h = h

  both_second : (a b : Bool) → (a && b) ≡ true → b ≡ true
  both_second true b h = h
  both_second false b h = absurd (let f : false ≡ true = h in cc)

  slot_there : (a s : List ℕ) → (bytes_eq n a && bytes_eq m s) ≡ true → slot_at t a s ≡ Some slot
  slot_there a s h =
      ap₂ (λ x y. slot_at t x y) (sym (bytes_same n a (both_first _ _ h))) (sym (bytes_same m s (both_second _ _ h)))
      ∙ ap (λ o. slot_in o m) there ∙ found

  -- what holds of the changed slot, and of any slot that stays, holds at each account and asset
  pub pair-changed : (Q : Option Reserved → Option Reserved → Bool → Type 0) → Q (Some w) (Some slot) true → ((o : Option Reserved) → Q o o false)
      → (a s : List ℕ) → Q (slot_at (insert t n (record part { assets = insert part.assets m w })) a s) (slot_at t a s) (is_pair account asset a s)
  pair-changed Q here other a s =
      subst (λ b. Q (slot_at (insert t n (record part { assets = insert part.assets m w })) a s) (slot_at t a s) b) (ap₂ (λ x y. is_pair x y a s) en em)
      (subst (λ o. Q o (slot_at t a s) (is_pair n m a s)) (sym (slot-with t n m part there w a s))
      (pair_step Q here other (is_pair n m a s) (slot_at t a s) (slot_there a s)))

  pub pair-histories : (a : List ℕ) → history_at (insert t n (record part { assets = insert part.assets m w })) a ≡ history_at t a
  pair-histories a = history-with t n m part there w a

  pub pair-same : w.index.items ≡ slot.index.items → SameHoldings t (insert t n (record part { assets = insert part.assets m w }))
  pair-same h = record { items = pair-changed (λ p o b. items_of p ≡ items_of o) h (λ o. refl); histories = pair-histories }

-- ---- an account that is opened, and changes

module _ {X : Type 0} (F : Option AccountPart → X) (t : NameTable AccountPart) (n : List ℕ) (part changed : AccountPart) (there : get t n ≡ Some part) where
  part_or : (o : Option AccountPart) (b : Bool) → F (Some changed) ≡ F (Some part) → (b ≡ true → o ≡ Some part) → F (cond b (Some changed) o) ≡ F o
  part_or o true h same = h ∙ ap F (sym (same refl))
  part_or o false h same = refl

  pub part-changed : F (Some changed) ≡ F (Some part) → (a : List ℕ) → F (get (insert t n changed) a) ≡ F (get t a)
  part-changed h a = ap F (get-change t n changed a) ∙ part_or (get t a) (bytes_eq n a) h (λ e. ap (get t) (sym (bytes_same n a e)) ∙ there)

-- ---- a name that is opened, and whose value changes

module _ {V X : Type 0} (F : Option V → X) (t : NameTable V) (name : List ℕ) (fresh value changed : V) (is : value ≡ unwrap_or (get t name) fresh) (new : F (Some fresh) ≡ F None) where
  opened_at : (q : List ℕ) → bytes_eq name q ≡ true → F (Some value) ≡ F (get t q)
  opened_at q e = ap (λ v. F (Some v)) is ∙ opened_step F fresh (get t name) new ∙ ap (λ n. F (get t n)) (bytes_same name q e)

  same_or : (o : Option V) (b : Bool) → F (Some changed) ≡ F (Some value) → (b ≡ true → F (Some value) ≡ F o) → F (cond b (Some changed) o) ≡ F o
  same_or o true same at = same ∙ at refl
  same_or o false same at = refl

  -- what stays of its value stays everywhere
  pub opened-same : F (Some changed) ≡ F (Some value) → (q : List ℕ) → F (get (insert t name changed) q) ≡ F (get t q)
  opened-same same q = ap F (get-change t name changed q) ∙ same_or (get t q) (bytes_eq name q) same (opened_at q)

  mapped_or : (f : X → X) (o : Option V) (b : Bool) → F (Some changed) ≡ f (F (Some value)) → (b ≡ true → F (Some value) ≡ F o) → F (cond b (Some changed) o) ≡ cond b (f (F o)) (F o)
  mapped_or f o true more at = more ∙ ap f (at refl)
  mapped_or f o false more at = refl

  -- what changes of its value changes at the name alone
  pub opened-mapped : (f : X → X) → F (Some changed) ≡ f (F (Some value)) → (q : List ℕ) → F (get (insert t name changed) q) ≡ cond (bytes_eq name q) (f (F (get t q))) (F (get t q))
  opened-mapped f more q = ap F (get-change t name changed q) ∙ mapped_or f (get t q) (bytes_eq name q) more (opened_at q)

pub slot-empty : (assets : NameTable Reserved) (s : List ℕ) → assets ≡ empty → get assets s ≡ None
slot-empty assets s h = ap (λ u. get u s) h ∙ get-empty Reserved s

-- ---- a slot of an account, both opened

raised : (a b : Bool) (n : ℕ) → cond a (cond b (n + 1) n) n ≡ n + one_if (a && b)
raised true true n = refl
raised true false n = omega arith
raised false b n = omega arith

module _ (t : NameTable AccountPart) (account asset : List ℕ) (fresh part : AccountPart) (is : part ≡ unwrap_or (get t account) fresh)
    (no_assets : fresh.assets ≡ empty) (unchanged : fresh.history ≡ no_history)
    (empty_slot slot w : Reserved) (found : slot ≡ unwrap_or (get part.assets asset) empty_slot)
    (no_items : empty_slot.index.items ≡ []) (no_waiting : empty_slot.waiting ≡ 0) where
  pub opened-holdings : w.index.items ≡ slot.index.items → SameHoldings t (insert t account (record part { assets = insert part.assets asset w }))
  opened-holdings h = record {
    items = λ a s. opened-same (λ o. items_of (slot_in o s)) t account fresh part _ is (ap items_of (slot-empty _ s no_assets)) (opened-same items_of part.assets asset empty_slot slot w found no_items h s) a;
    histories = λ a. opened-same history_in t account fresh part _ is unchanged refl a;
  }

  pub opened-room : w.waiting ≡ slot.waiting → SameRoom t (insert t account (record part { assets = insert part.assets asset w }))
  opened-room h a s = opened-same (λ o. waiting_of (slot_in o s)) t account fresh part _ is (ap waiting_of (slot-empty _ s no_assets)) (opened-same waiting_of part.assets asset empty_slot slot w found no_waiting h s) a

  pub opened-raised : w.waiting ≡ slot.waiting + 1 → (a s : List ℕ) → waiting_at (insert t account (record part { assets = insert part.assets asset w })) a s ≡ waiting_at t a s + one_if (is_pair account asset a s)
  opened-raised h a s =
      opened-mapped (λ o. waiting_of (slot_in o s)) t account fresh part _ is (ap waiting_of (slot-empty _ s no_assets)) (λ n. cond (bytes_eq asset s) (n + 1) n) (opened-mapped waiting_of part.assets asset empty_slot slot w found no_waiting (λ n. n + 1) h s) a
      ∙ raised (bytes_eq account a) (bytes_eq asset s) (waiting_at t a s)

-- an account that is opened and stays as it is
module _ (t : NameTable AccountPart) (account : List ℕ) (fresh part : AccountPart) (is : part ≡ unwrap_or (get t account) fresh) (no_assets : fresh.assets ≡ empty) (unchanged : fresh.history ≡ no_history) where
  pub account-holdings : SameHoldings t (insert t account part)
  account-holdings = record {
    items = λ a s. opened-same (λ o. items_of (slot_in o s)) t account fresh part part is (ap items_of (slot-empty _ s no_assets)) refl a;
    histories = λ a. opened-same history_in t account fresh part part is unchanged refl a;
  }

  pub account-room : SameRoom t (insert t account part)
  account-room a s = opened-same (λ o. waiting_of (slot_in o s)) t account fresh part part is (ap waiting_of (slot-empty _ s no_assets)) refl a

-- the history of an account that is there changes
module _ (t : NameTable AccountPart) (name n : List ℕ) (e : n ≡ name) (part changed : AccountPart) (there : get t n ≡ Some part) (f : History → History) (is : changed.history ≡ f part.history) where
  changed_or : (b : Bool) (o : Option AccountPart) → (b ≡ true → o ≡ Some part) → history_in (cond b (Some changed) o) ≡ cond b (f (history_in o)) (history_in o)
  changed_or true o same = is ∙ ap (λ p. f (history_in p)) (sym (same refl))
  changed_or false o same = refl

  pub history-changed : (a : List ℕ) → history_at (insert t n changed) a ≡ cond (bytes_eq name a) (f (history_at t a)) (history_at t a)
  history-changed a =
      ap history_in (get-change t n changed a)
      ∙ changed_or (bytes_eq n a) (get t a) (λ h. ap (get t) (sym (bytes_same n a h)) ∙ there)
      ∙ ap (λ x. cond (bytes_eq x a) (f (history_at t a)) (history_at t a)) e

-- an account that isn't there has the empty history
pub absent-history : (t : NameTable AccountPart) (name n : List ℕ) → n ≡ name → get t n ≡ None → (a : List ℕ) → bytes_eq name a ≡ true → history_at t a ≡ no_history
absent-history t name n e none a h = ap (λ x. history_at t x) (sym (e ∙ bytes_same name a h)) ∙ ap history_in none

-- an account whose history has a prepared change is there
pub prepared-there : (t : NameTable AccountPart) (name n : List ℕ) → n ≡ name → 0 < length (history_at t name).prepared → IsSome (get t n)
prepared-there t name n e lt = there_of (get t n) (subst (λ x. 0 < length (history_at t x).prepared) (sym e) lt)
  where
    there_of : (o : Option AccountPart) → 0 < length (history_in o).prepared → IsSome o
    there_of None lt = absurd (omega arith)
    there_of (Some p) lt = refl

-- the history of an account that is there
pub part-history : (t : NameTable AccountPart) (name n : List ℕ) → n ≡ name → (part : AccountPart) → get t n ≡ Some part → history_at t name ≡ part.history
part-history t name n e part there = ap (λ x. history_at t x) (sym e) ∙ ap history_in there

-- what isn't found isn't there
pub copied-none : {V : Type 0} (o : Option (Bor V)) (p : Option V) → option_copied o ≡ p → is_some o ≡ false → p ≡ None
copied-none None p e h = sym e
copied-none (Some v) p e h = absurd (let f : true ≡ false = h in cc)

-- what holds in any case holds after an error
pub on_err_given : {T E X : Type 0} (r : Result T E) → X → OnErr r X
on_err_given (Ok v) x = tt
on_err_given (Err e) x = x
