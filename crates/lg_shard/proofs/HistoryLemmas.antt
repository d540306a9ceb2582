-- Histories of metadata that take prepared changes, give them up and apply them.
use Rattle.std.proofs.Common.{◌≡◌, ℕ, zero, suc, ◌+◌, ◌-◌, ◌<◌, ◌≤◌, ℤ, ◌≤ℤ◌, Bool, true, false, cond, ◌&&◌, List, [], ◌∷◌, ◌++◌, length, get_or, take, drop, map, sum_by, slice_get, Some, IsSome, IfSome, Option, refl, sym, ap, subst, ◌∙◌, append_assoc, length-append, arith}
use Rattle.std.specs.List.{flat_map, filter}
use Rattle.std.specs.Str.{bytes_eq}
use Rattle.std.proofs.Math.Seq.{take-add, take-append_seam, drop-nil}
use Rattle.std.proofs.lemmas.List.{append-nil, take_all, take_more, flat_map_more, map-append, length-take, length-drop}
use Rattle.std.proofs.lemmas.List.Sums.{sum_by-cons, sum_by_more, sum_by_more_le}
use Rattle.lg_containers.specs.NameTable as table
use Rattle.lg_meta.specs.declared.change.DatedChange.{DatedChange}
use Rattle.lg_meta.specs.History.{History, first_applied}
use Rattle.lg_meta.specs.Index.{changes_of}
use Rattle.lg_meta.specs.MetaFold.{dated_change, last_date}
use Rattle.lg_types.specs.declared.changes.MetaChange.{MetaChange}
use Rattle.lg_types.specs.declared.changes.MetaChange.TheVariants.{Set, Drop}
use Rattle.lg_types.specs.declared.records.EntryBody.TheVariants.{NewTransaction, SetMetadata, DeleteMetadata}
use Rattle.lg_types.specs.declared.records.Target.{Target}
use Rattle.lg_types.specs.declared.records.Target.TheVariants.{Account, Transaction as TransactionOf}
use Rattle.lg_types.specs.declared.records.Transaction.{Transaction}
use Rattle.lg_types.specs.Changes.{MetaOf, Change, account_change, is_about}
use Rattle.lg_types.specs.Parts.{has_account, has_change}
use Rattle.lg_shard.specs.Accounts.{no_history, with_prepared, one_if}
use Rattle.lg_shard.specs.Histories.{with_all_prepared, without_last, dated_at, with_applied, is_own_account, own_change, own_count, own_given, given_count, target_count, body_on}
use Rattle.lg_shard.specs.Shown.{changes_on}

same_history : (g h : History) → g.changes ≡ h.changes → g.prepared ≡ h.prepared → g ≡ h
same_history g h p q = λ i. record { changes = p i; prepared = q i }

-- ---- one step after the other

prepared-none : (h : History) → with_all_prepared h [] ≡ h
prepared-none h = same_history (with_all_prepared h []) h refl (append-nil h.prepared)

prepared-more : (h : History) (xs ys : List MetaChange) → with_all_prepared (with_all_prepared h xs) ys ≡ with_all_prepared h (xs ++ ys)
prepared-more h xs ys = same_history _ _ refl (append_assoc h.prepared xs ys)

without-none : (h : History) → without_last h 0 ≡ h
without-none h = same_history (without_last h 0) h refl (take_all (length h.prepared - 0) h.prepared (omega arith))

take_least : {X : Type 0} (n m : ℕ) (xs : List X) → n ≤ m → take n (take m xs) ≡ take n xs
take_least zero m xs le = refl
take_least (suc n) zero xs le = absurd (omega arith)
take_least (suc n) (suc m) [] le = refl
take_least (suc n) (suc m) (x ∷ xs) le = ap (λ zs. x ∷ zs) (take_least n m xs (omega arith))

without-more : (h : History) (m n : ℕ) → without_last (without_last h m) n ≡ without_last h (m + n)
without-more h m n =
    let left : length (take (length h.prepared - m) h.prepared) - n ≡ length h.prepared - (m + n) = omega (arith, length-take (length h.prepared - m) h.prepared) in
    same_history (without_last (without_last h m) n) (without_last h (m + n)) refl
    (ap (λ k. take k (take (length h.prepared - m) h.prepared)) left ∙ take_least (length h.prepared - (m + n)) (length h.prepared - m) h.prepared (omega arith))

-- what was prepared last is given up
pub without-prepared : (h : History) (xs : List MetaChange) (n : ℕ) → n ≡ length xs → without_last (with_all_prepared h xs) n ≡ h
without-prepared h xs n e =
    let left : length (h.prepared ++ xs) - n ≡ length h.prepared = omega (arith, length-append h.prepared xs) in
    same_history (without_last (with_all_prepared h xs) n) h refl (ap (λ k. take k (h.prepared ++ xs)) left ∙ take-append_seam h.prepared xs)

applied-none : (date : ℤ) (h : History) → with_applied date h 0 ≡ h
applied-none date h = same_history (with_applied date h 0) h (append-nil h.changes) refl

drop_twice : {X : Type 0} (m n : ℕ) (xs : List X) → drop n (drop m xs) ≡ drop (m + n) xs
drop_twice zero n xs = let e : n ≡ 0 + n = omega arith in ap (λ k. drop k xs) e
drop_twice (suc m) n [] = drop-nil n ∙ sym (drop-nil (suc m + n))
drop_twice (suc m) n (x ∷ xs) = let e : suc (m + n) ≡ suc m + n = omega arith in drop_twice m n xs ∙ ap (λ k. drop k (x ∷ xs)) e

applied-more : (date : ℤ) (h : History) (m n : ℕ) → with_applied date (with_applied date h m) n ≡ with_applied date h (m + n)
applied-more date h m n =
    same_history (with_applied date (with_applied date h m) n) (with_applied date h (m + n))
    (append_assoc h.changes (map (dated_at date) (take m h.prepared)) (map (dated_at date) (take n (drop m h.prepared)))
    ∙ ap (λ l. h.changes ++ l) (sym (ap (map (dated_at date)) (take-add m n h.prepared) ∙ map-append (dated_at date) (take m h.prepared) (take n (drop m h.prepared)))))
    (drop_twice m n h.prepared)

-- ---- one account

pub prepared-if : (b : Bool) (h : History) (change : MetaChange) → cond b (with_prepared h change) h ≡ with_all_prepared h (cond b (change ∷ []) [])
prepared-if true h change = refl
prepared-if false h change = sym (prepared-none h)

pub without-if : (b : Bool) (h : History) → cond b (without_last h 1) h ≡ without_last h (one_if b)
without-if true h = refl
without-if false h = sym (without-none h)

pub applied-if : (date : ℤ) (b : Bool) (h : History) → cond b (with_applied date h 1) h ≡ with_applied date h (one_if b)
applied-if date true h = refl
applied-if date false h = sym (applied-none date h)

pub some-first : (h : History) → 0 < length h.prepared → IsSome (slice_get h.prepared 0)
some-first h lt = some_of h.prepared lt
  where
    some_of : (ps : List MetaChange) → 0 < length ps → IsSome (slice_get ps 0)
    some_of [] lt = absurd (omega arith)
    some_of (p ∷ ps) lt = refl

pub applied-first : (date : ℤ) (h : History) → 0 < length h.prepared → first_applied date h.changes h.prepared ≡ with_applied date h 1
applied-first date h lt = first_of h.changes h.prepared lt
  where
    first_of : (cs : List DatedChange) (ps : List MetaChange) → 0 < length ps → first_applied date cs ps ≡ with_applied date (record { changes = cs; prepared = ps }) 1
    first_of cs [] lt = absurd (omega arith)
    first_of cs (p ∷ ps) lt = refl

-- the account isn't of the stripe
pub prepared-other : (s : ℕ) (ledger account : List ℕ) (change : MetaChange) (a : List ℕ) (h : History) → has_account s ledger account ≡ false → h ≡ with_all_prepared h (own_change s ledger account change a)
prepared-other s ledger account change a h e = sym (ap (λ b. with_all_prepared h (cond (b && bytes_eq account a) (change ∷ []) [])) e ∙ prepared-none h)

pub without-other : (s : ℕ) (ledger account a : List ℕ) (h : History) → has_account s ledger account ≡ false → h ≡ without_last h (own_count s ledger account a)
without-other s ledger account a h e = sym (ap (λ b. without_last h (one_if (b && bytes_eq account a))) e ∙ without-none h)

pub applied-other : (s : ℕ) (ledger : List ℕ) (date : ℤ) (account a : List ℕ) (h : History) → has_account s ledger account ≡ false → h ≡ with_applied date h (own_count s ledger account a)
applied-other s ledger date account a h e = sym (ap (λ b. with_applied date h (one_if (b && bytes_eq account a))) e ∙ applied-none date h)

-- the account is of the stripe
pub own-if : (s : ℕ) (ledger account : List ℕ) (a : List ℕ) → has_account s ledger account ≡ true → bytes_eq account a ≡ is_own_account s ledger account a
own-if s ledger account a e = sym (ap (λ b. b && bytes_eq account a) e)

-- an empty history has nothing to give up
pub without-absent : (b : Bool) (h : History) → (b ≡ true → h ≡ no_history) → h ≡ without_last h (one_if b)
without-absent true h none = none refl ∙ sym (ap (λ k. without_last k 1) (none refl))
without-absent false h none = sym (without-none h)

-- ---- the date of the last change

last-pushed : (cs : List DatedChange) (c : DatedChange) → last_date (cs ++ c ∷ []) ≡ Some c.date
last-pushed [] c = refl
last-pushed (d ∷ []) c = refl
last-pushed (d ∷ e ∷ es) c = last-pushed (e ∷ es) c

pub later-more : (P : ℤ → Type 0) (date : ℤ) → P date → (cs : List DatedChange) (ps : List MetaChange) → IfSome (last_date cs) P → IfSome (last_date (cs ++ map (dated_at date) ps)) P
later-more P date h cs [] later = subst (λ (l : List DatedChange). IfSome (last_date l) P) (sym (append-nil cs)) later
later-more P date h cs (p ∷ ps) later =
    subst (λ (l : List DatedChange). IfSome (last_date l) P) (append_assoc cs (dated_at date p ∷ []) (map (dated_at date) ps))
    (later-more P date h (cs ++ dated_at date p ∷ []) ps (subst (λ (o : Option ℤ). IfSome o P) (sym (last-pushed cs (dated_at date p))) h))

-- ---- a step of a loop over a list, at the item that it takes

module _ {X : Type 0} (xs : List X) (i : ℕ) (x : X) (within : i < length xs) (is : x ≡ get_or xs i x) where
  taken : take (i + 1) xs ≡ take i xs ++ x ∷ []
  taken = take_more xs i x within ∙ ap (λ y. take i xs ++ y ∷ []) (sym is)

  counted : (f : X → ℕ) → sum_by f (take (i + 1) xs) ≡ sum_by f (take i xs) + f x
  counted f = sum_by_more f xs i x within ∙ ap (λ y. sum_by f (take i xs) + f y) (sym is)

  counted_within : (f : X → ℕ) → sum_by f (take i xs) + f x ≤ sum_by f xs
  counted_within f = subst (λ y. sum_by f (take i xs) + f y ≤ sum_by f xs) (sym is) (sum_by_more_le f xs i x within)

  pub prepared-step : (f : X → List MetaChange) (old mid new : History) → mid ≡ with_all_prepared old (flat_map f (take i xs)) → new ≡ with_all_prepared mid (f x) → new ≡ with_all_prepared old (flat_map f (take (i + 1) xs))
  prepared-step f old mid new e h =
      h ∙ ap (λ k. with_all_prepared k (f x)) e
      ∙ same_history _ (with_all_prepared old (flat_map f (take (i + 1) xs))) refl (flat_map_more f old.prepared (take i xs) x ∙ ap (λ l. old.prepared ++ flat_map f l) (sym taken))

  pub without-step : (f : X → ℕ) (old mid new : History) → mid ≡ without_last old (sum_by f (take i xs)) → new ≡ without_last mid (f x) → new ≡ without_last old (sum_by f (take (i + 1) xs))
  without-step f old mid new e h = h ∙ ap (λ k. without_last k (f x)) e ∙ without-more old (sum_by f (take i xs)) (f x) ∙ ap (without_last old) (sym (counted f))

  module _ (date : ℤ) (f : X → ℕ) (old mid : History) (e : mid ≡ with_applied date old (sum_by f (take i xs))) where
    pub applied-step : (new : History) → new ≡ with_applied date mid (f x) → new ≡ with_applied date old (sum_by f (take (i + 1) xs))
    applied-step new h = h ∙ ap (λ k. with_applied date k (f x)) e ∙ applied-more date old (sum_by f (take i xs)) (f x) ∙ ap (with_applied date old) (sym (counted f))

    pub applied-room : sum_by f xs ≤ length old.prepared → f x ≤ length mid.prepared
    applied-room le =
        let left : length mid.prepared ≡ length old.prepared - sum_by f (take i xs) = ap (λ k. length k.prepared) e ∙ omega (arith, length-drop (sum_by f (take i xs)) old.prepared) in
        let part : sum_by f (take i xs) + f x ≤ sum_by f xs = counted_within f in
        omega arith

    pub applied-later : (0 < sum_by f xs → IfSome (last_date old.changes) (λ last. last ≤ℤ date)) → date ≤ℤ date → 0 < f x → IfSome (last_date mid.changes) (λ last. last ≤ℤ date)
    applied-later later self lt =
        let part : sum_by f (take i xs) + f x ≤ sum_by f xs = counted_within f in
        subst (λ (k : History). IfSome (last_date k.changes) (λ last. last ≤ℤ date)) (sym e)
        (later-more (λ last. last ≤ℤ date) date self old.changes (take (sum_by f (take i xs)) old.prepared) (later (omega arith)))

-- nothing is done yet
pub prepared-start : (h : History) → h ≡ with_all_prepared h []
prepared-start h = sym (prepared-none h)

pub without-start : (h : History) → h ≡ without_last h 0
without-start h = sym (without-none h)

pub applied-start : (date : ℤ) (h : History) → h ≡ with_applied date h 0
applied-start date h = sym (applied-none date h)

-- ---- what an entry changes

module _ (s : ℕ) (ledger a : List ℕ) where
  own_length : (b : Bool) (change : MetaChange) → length (cond b (change ∷ []) []) ≡ one_if b
  own_length true change = refl
  own_length false change = refl

  pub count-given : (given : List (List ℕ × MetaOf)) → sum_by (given_count s ledger a) given ≡ length (flat_map (own_given s ledger a) given)
  count-given [] = refl
  count-given (p ∷ ps) =
      let rest = count-given ps in let one = own_length (is_own_account s ledger p.0 a) (Set p.1) in
      let all = length-append (own_given s ledger a p) (flat_map (own_given s ledger a) ps) in
      let more = sum_by-cons (given_count s ledger a) p ps in
      omega arith

  -- one change, then the others
  one_on : (own about : Bool) (c : Change) (cs : List Change) → is_about (Account a) c ≡ about → changes_of (changes_on (cond own (c ∷ cs) cs) a) ≡ cond (own && about) (c.change ∷ []) [] ++ changes_of (changes_on cs a)
  one_on true true c cs e = ap (λ b. changes_of (map dated_change (cond b (c ∷ filter (is_about (Account a)) cs) (filter (is_about (Account a)) cs)))) e
  one_on true false c cs e = ap (λ b. changes_of (map dated_change (cond b (c ∷ filter (is_about (Account a)) cs) (filter (is_about (Account a)) cs)))) e
  one_on false about c cs e = refl

  given_on : (date : ℤ) (given : List (List ℕ × MetaOf)) → changes_of (changes_on (filter (has_change s ledger) (map (account_change date) given)) a) ≡ flat_map (own_given s ledger a) given
  given_on date [] = refl
  given_on date (p ∷ ps) =
      one_on (has_account s ledger p.0) (bytes_eq p.0 a) (account_change date p) (filter (has_change s ledger) (map (account_change date) ps)) refl
      ∙ ap (λ l. own_given s ledger a p ++ l) (given_on date ps)

  pub on-given : (date : ℤ) (t : Transaction) (given : table.NameTable MetaOf) → body_on s ledger date (NewTransaction t given) a ≡ flat_map (own_given s ledger a) (table.pairs_of given)
  on-given date t given = given_on date (table.pairs_of given)

  pub on-set : (date : ℤ) (account : List ℕ) (metadata : MetaOf) → body_on s ledger date (SetMetadata (Account account) metadata) a ≡ own_change s ledger account (Set metadata) a
  on-set date account metadata =
      one_on (has_account s ledger account) (bytes_eq account a) (record { target = Account account; date = date; change = Set metadata }) [] refl ∙ append-nil (own_change s ledger account (Set metadata) a)

  pub on-drop : (date : ℤ) (account name : List ℕ) → body_on s ledger date (DeleteMetadata (Account account) name) a ≡ own_change s ledger account (Drop name) a
  on-drop date account name =
      one_on (has_account s ledger account) (bytes_eq account a) (record { target = Account account; date = date; change = Drop name }) [] refl ∙ append-nil (own_change s ledger account (Drop name) a)

  pub count-set : (date : ℤ) (target : Target) (metadata : MetaOf) → length (body_on s ledger date (SetMetadata target metadata) a) ≡ target_count s ledger target a
  count-set date (Account account) metadata = ap length (on-set date account metadata) ∙ own_length (is_own_account s ledger account a) (Set metadata)
  count-set date (TransactionOf id) metadata = refl

  pub count-drop : (date : ℤ) (target : Target) (name : List ℕ) → length (body_on s ledger date (DeleteMetadata target name) a) ≡ target_count s ledger target a
  count-drop date (Account account) name = ap length (on-drop date account name) ∙ own_length (is_own_account s ledger account a) (Drop name)
  count-drop date (TransactionOf id) name = refl

  pub count-body : (date : ℤ) (t : Transaction) (given : table.NameTable MetaOf) → length (body_on s ledger date (NewTransaction t given) a) ≡ sum_by (given_count s ledger a) (table.pairs_of given)
  count-body date t given = ap length (on-given date t given) ∙ sym (count-given (table.pairs_of given))
