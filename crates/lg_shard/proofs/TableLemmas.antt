-- Tables of keys and of references, that take one name more.
use Rattle.std.proofs.Common.{◌≡◌, ℕ, ◌-◌, ◌≤◌, Bool, true, false, cond, List, [], ◌∷◌, ◌++◌, length, map, Option, Some, None, refl, sym, ap, subst, ◌∙◌, arith}
use Rattle.std.specs.Option.{option_map, option_or, option_to_list}
use Rattle.std.specs.List.{filter, find}
use Rattle.std.specs.Prelude.{nat_eq}
use Rattle.std.specs.Str.{bytes_eq}
use Rattle.std.proofs.lemmas.List.Folds.{find-append}
use Rattle.lg_containers.specs.NameTable.{NameTable, get, insert}
use Rattle.lg_maps.specs.Contents.{Contents}
use Rattle.lg_keys.specs.declared.kept.Kept.{Kept}
use Rattle.lg_types.specs.declared.classes.Class.TheVariants.{Key, Reference}
use Rattle.lg_types.specs.declared.records.Entry.{Entry}
use Rattle.lg_types.specs.declared.records.KeyMark.{KeyMark}
use Rattle.lg_types.specs.declared.records.Transaction.{Transaction}
use Rattle.lg_types.specs.Known.{Marking, Referred, marking, referred_by, transaction_of, transaction_references}
use Rattle.lg_types.specs.Lists.{Each}
use Rattle.lg_types.specs.Moves.{body_transaction}
use Rattle.lg_types.specs.Parts.{has_key, has_reference}
use Rattle.lg_types.specs.Stripes.{stripe}
use Rattle.lg_shard.specs.Names.{key_in, given_reference, reference_in}
use Rattle.lg_shard.specs.Shown.{kept_of}
use Rattle.lg_shard.specs.Holdings.{own_markings, own_references}
use Rattle.lg_shard.specs.Ties.{KeysTied, ReferencesTied}
use Rattle.lg_shard.proofs.AccountLemmas.{get-change, bytes_same}

module _ {M V : Type 0} (view : M → V) (name_of : M → List ℕ) where
  taken : (b : Bool) (m : M) (o : Option M) (v : Option V) → v ≡ option_map view o → (b ≡ true → v ≡ None) → cond b (Some (view m)) v ≡ option_map view (option_or o (cond b (Some m) None))
  taken true m None v h absent = refl
  taken true m (Some x) v h absent = absurd (let e : Some (view x) ≡ None = sym h ∙ absent refl in cc)
  taken false m None v h absent = h
  taken false m (Some x) v h absent = h

  -- a table that takes a name that isn't there
  pub table-applied : (t : NameTable V) (m : M) (name : List ℕ) → name_of m ≡ name → get t name ≡ None → (done : List M)
      → ((q : List ℕ) → get t q ≡ option_map view (find (λ x. bytes_eq (name_of x) q) done))
      → (q : List ℕ) → get (insert t name (view m)) q ≡ option_map view (find (λ x. bytes_eq (name_of x) q) (done ++ m ∷ []))
  table-applied t m name e absent done known q =
      get-change t name (view m) q
      ∙ ap (λ n. cond (bytes_eq n q) (Some (view m)) (get t q)) (sym e)
      ∙ taken (bytes_eq (name_of m) q) m (find (λ x. bytes_eq (name_of x) q) done) (get t q) (known q) (λ h. ap (get t) (sym (bytes_same (name_of m) q h) ∙ e) ∙ absent)
      ∙ sym (ap (option_map view) (find-append (λ x. bytes_eq (name_of x) q) done (m ∷ [])))

-- the key of an entry, where it is of the stripe
own_by : (id : ℕ) (b : Bool) (mark : KeyMark) (key : List ℕ) → Some key ≡ cond b (Some mark.key) None → (map (marking id) (cond b (mark ∷ []) []) ≡ marking id mark ∷ []) × (mark.key ≡ key)
own_by id true mark key h = (refl, cc)
own_by id false mark key h = absurd cc

pub own-key : (s : ℕ) (ledger : List ℕ) (e : Entry) (mark : KeyMark) (key : List ℕ) (o : Option (List ℕ)) → e.mark ≡ Some mark → o ≡ Some key → o ≡ key_in s ledger e.mark → (own_markings s ledger e ≡ marking e.id mark ∷ []) × (mark.key ≡ key)
own-key s ledger e mark key o there some is =
    let found : Some key ≡ key_in s ledger (Some mark) = sym some ∙ is ∙ ap (key_in s ledger) there in
    let by = own_by e.id (nat_eq (stripe Key ledger mark.key) s) mark key found in
    (ap (λ m. map (marking e.id) (filter (has_key s ledger) (option_to_list m))) there ∙ by.0, by.1)

pub keys-applied : (old : Contents Kept) (own : List Marking) (m : Marking) (key : List ℕ) → own ≡ m ∷ [] → m.mark.key ≡ key → Each (λ x. get old.table x.mark.key ≡ None) own → (new : Contents Kept) → new ≡ record { table = insert old.table key (kept_of m); spare = old.spare - 1 }
    → (done ahead : List Marking) → KeysTied old done (own ++ ahead) → KeysTied new (done ++ own) ahead
keys-applied old own m key is e absent new changed done ahead tied =
    let none : get old.table key ≡ None = ap (get old.table) (sym e) ∙ (subst (λ (l : List Marking). Each (λ x. get old.table x.mark.key ≡ None) l) is absent).0 in
    let room : length (m ∷ ahead) ≤ old.spare = subst (λ (l : List Marking). length (l ++ ahead) ≤ old.spare) is tied.room in
    let next : KeysTied (record { table = insert old.table key (kept_of m); spare = old.spare - 1 }) (done ++ m ∷ []) ahead = record {
      known = table-applied kept_of (λ x. x.mark.key) old.table m key e none done tied.known;
      room = omega arith;
    } in
    subst (λ (l : List Marking). KeysTied new (done ++ l) ahead) (sym is) (subst (λ (c : Contents Kept). KeysTied c (done ++ m ∷ []) ahead) (sym changed) next)

-- the reference of an entry's transaction, where it is of the stripe
referred_by_test : (id : ℕ) (b : Bool) (given reference : List ℕ) → Some reference ≡ cond b (Some given) None → cond b (referred_by id given ∷ []) [] ≡ referred_by id reference ∷ []
referred_by_test id true given reference h = ap (λ r. referred_by id r ∷ []) (let e : given ≡ reference = cc in e)
referred_by_test id false given reference h = absurd cc

own_given : (s : ℕ) (ledger : List ℕ) (id : ℕ) (given : Option (List ℕ)) (reference : List ℕ) → Some reference ≡ given_reference s ledger given → filter (has_reference s ledger) (map (referred_by id) (option_to_list given)) ≡ referred_by id reference ∷ []
own_given s ledger id None reference h = absurd cc
own_given s ledger id (Some given) reference h = referred_by_test id (nat_eq (stripe Reference ledger given) s) given reference h

pub own-reference : (s : ℕ) (ledger : List ℕ) (e : Entry) (t : Transaction) (reference : List ℕ) (o : Option (List ℕ)) → body_transaction e.body ≡ Some t → o ≡ Some reference → o ≡ reference_in s ledger (body_transaction e.body) → own_references s ledger e ≡ referred_by t.id reference ∷ []
own-reference s ledger e t reference o there some is =
    ap (λ b. filter (has_reference s ledger) (transaction_references b)) there
    ∙ own_given s ledger t.id t.reference reference (sym some ∙ is ∙ ap (reference_in s ledger) there)

pub references-applied : (old : Contents ℕ) (own : List Referred) (m : Referred) → own ≡ m ∷ [] → Each (λ x. get old.table x.reference ≡ None) own → (new : Contents ℕ) → new ≡ record { table = insert old.table m.reference m.transaction; spare = old.spare - 1 }
    → (done ahead : List Referred) → ReferencesTied old done (own ++ ahead) → ReferencesTied new (done ++ own) ahead
references-applied old own m is absent new changed done ahead tied =
    let none : get old.table m.reference ≡ None = (subst (λ (l : List Referred). Each (λ x. get old.table x.reference ≡ None) l) is absent).0 in
    let room : length (m ∷ ahead) ≤ old.spare = subst (λ (l : List Referred). length (l ++ ahead) ≤ old.spare) is tied.room in
    let next : ReferencesTied (record { table = insert old.table m.reference m.transaction; spare = old.spare - 1 }) (done ++ m ∷ []) ahead = record {
      known = table-applied transaction_of (λ x. x.reference) old.table m m.reference refl none done tied.known;
      room = omega arith;
    } in
    subst (λ (l : List Referred). ReferencesTied new (done ++ l) ahead) (sym is) (subst (λ (c : Contents ℕ). ReferencesTied c (done ++ m ∷ []) ahead) (sym changed) next)
