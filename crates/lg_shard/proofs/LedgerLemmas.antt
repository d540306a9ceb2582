-- How the ties of all ledgers go from state to state.
use Rattle.std.proofs.Common.{◌≡◌, ℕ, Bool, true, false, cond, List, [], ◌∷◌, ◌++◌, Option, Some, None, IsSome, unwrap_or, refl, sym, ap, subst, ◌∙◌, length-append, arith}
use Rattle.std.specs.Str.{bytes_eq}
use Rattle.lg_containers.specs.NameTable.{NameTable, get, insert, empty, get-empty}
use Rattle.lg_maps.specs.Contents.{Contents}
use Rattle.lg_keys.specs.declared.kept.Kept.{Kept}
use Rattle.lg_meta.specs.Index.{changes_of}
use Rattle.lg_types.specs.declared.records.Entry.{Entry}
use Rattle.lg_types.specs.declared.records.Event.TheVariants.{Logged}
use Rattle.lg_types.specs.Parts.{Share, shares_of}
use Rattle.lg_shard.specs.declared.accounts.AccountPart.{AccountPart}
use Rattle.lg_shard.specs.declared.ledgers.LedgerPart.{LedgerPart}
use Rattle.lg_shard.specs.Accounts.{slot_in, items_of, history_in}
use Rattle.lg_shard.specs.Following.{Follows}
use Rattle.lg_shard.specs.Holdings.{Holding, HoldingFollows, no_holding, joined, ledger_holding, own_holding}
use Rattle.lg_shard.specs.Ties.{MovesTied, HistoriesTied, KeysTied, ReferencesTied, accounts_of, keys_of, references_of, PartTied, LedgersTied, IsRoomFor, AreRoomFor}
use Rattle.lg_shard.specs.Shown.{changes_on}
use Rattle.lg_shard.proofs.AccountLemmas.{get-change, get-opened, bytes_same, bytes_itself}
use Rattle.lg_shard.proofs.HistoryTies.{of-append}
use Rattle.lg_maps.proofs.Shown.{get-own, insert-twice}
use Rattle.lg_shard.proofs.QuietLemmas.{holding-joined, joined-nothing, holding-logged}
use Rattle.lg_shard.proofs.TieLemmas.{count-append}

-- a part stands for the same as one with equal accounts and tables
pub same_part : (o p : Option LedgerPart) → accounts_of p ≡ accounts_of o → keys_of p ≡ keys_of o → references_of p ≡ references_of o → (done ahead : Holding) → PartTied o done ahead → PartTied p done ahead
same_part o p a k r done ahead tied = record {
  moves = subst (λ (t : NameTable AccountPart). MovesTied t done.moves ahead.moves) (sym a) tied.moves;
  histories = subst (λ (t : NameTable AccountPart). HistoriesTied t done.changes ahead.changes) (sym a) tied.histories;
  keys = subst (λ (t : Contents Kept). KeysTied t done.markings ahead.markings) (sym k) tied.keys;
  references = subst (λ (t : Contents ℕ). ReferencesTied t done.references ahead.references) (sym r) tied.references;
}

-- a ledger that isn't there is ready for nothing
front_none : {X : Type 0} (xs ys : List X) → [] ≡ xs ++ ys → [] ≡ xs
front_none [] ys h = refl
front_none (x ∷ xs) ys h = absurd cc

part-absent : (done ahead own : Holding) → PartTied None done (joined ahead own) → PartTied None done ahead
part-absent done ahead own tied = record {
  moves = record { items = tied.moves.items; room = λ a b. let h = tied.moves.room a b in let n = count-append ahead.moves own.moves a b in omega arith };
  histories = record {
    applied = tied.histories.applied;
    prepared = λ a. ap (λ o. (history_in o).prepared) (get-empty AccountPart a)
        ∙ front_none (changes_of (changes_on ahead.changes a)) (changes_of (changes_on own.changes a)) (sym (ap (λ o. (history_in o).prepared) (get-empty AccountPart a)) ∙ tied.histories.prepared a ∙ of-append ahead.changes own.changes a);
  };
  keys = record { known = tied.keys.known; room = let h = tied.keys.room in let n = length-append ahead.markings own.markings in omega arith };
  references = record { known = tied.references.known; room = let h = tied.references.room in let n = length-append ahead.references own.references in omega arith };
}

-- a ledger that was opened
pub ledgers-opened : (old : NameTable LedgerPart) (name : List ℕ) (fresh : LedgerPart) (mid : NameTable LedgerPart) → mid ≡ insert old name (unwrap_or (get old name) fresh)
    → fresh.accounts ≡ empty → fresh.keys ≡ record { table = empty; spare = 0 } → fresh.references ≡ record { table = empty; spare = 0 }
    → (shares coming : List Share) → LedgersTied old shares coming → LedgersTied mid shares coming
ledgers-opened old name fresh mid opened a k r shares coming tied q =
    same_part (get old q) (get mid q)
    (ap (λ t. accounts_of (get t q)) opened ∙ get-opened accounts_of old name fresh q a)
    (ap (λ t. keys_of (get t q)) opened ∙ get-opened keys_of old name fresh q k)
    (ap (λ t. references_of (get t q)) opened ∙ get-opened references_of old name fresh q r)
    (ledger_holding q shares) (ledger_holding q coming) (tied q)

-- a ledger whose part changes: what comes of its part, and of the parts that stay
module _ (mid : NameTable LedgerPart) (n : List ℕ) (part changed : LedgerPart) (there : get mid n ≡ Some part) where
  changed_or : (P Q : Option LedgerPart → Type 0) (o : Option LedgerPart) (b : Bool) → (b ≡ true → o ≡ Some part) → (b ≡ true → P (Some part) → Q (Some changed)) → (b ≡ false → P o → Q o) → P o → Q (cond b (Some changed) o)
  changed_or P Q o true is here other p = here refl (subst P (is refl) p)
  changed_or P Q o false is here other p = other refl p

  pub ledger-changed : (P Q : Option LedgerPart → Type 0) (q : List ℕ) → (bytes_eq n q ≡ true → P (Some part) → Q (Some changed)) → (bytes_eq n q ≡ false → P (get mid q) → Q (get mid q)) → P (get mid q) → Q (get (insert mid n changed) q)
  ledger-changed P Q q here other p =
      subst Q (sym (get-change mid n changed q))
      (changed_or P Q (get mid q) (bytes_eq n q) (λ h. ap (get mid) (sym (bytes_same n q h)) ∙ there) here other p)

  still_or : (o : Option LedgerPart) (b : Bool) → IsSome o → IsSome (cond b (Some changed) o)
  still_or o true h = refl
  still_or o false h = h

  pub still_there : (q : List ℕ) → IsSome (get mid q) → IsSome (get (insert mid n changed) q)
  still_there q h = let P : Option LedgerPart → Type 0 = λ o. IsSome o in subst P (sym (get-change mid n changed q)) (still_or (get mid q) (bytes_eq n q) h)

module _ (s place : ℕ) (ledger : List ℕ) (e : Entry) (q : List ℕ) where
  pub holding_own : bytes_eq ledger q ≡ true → ledger_holding q (shares_of s place (Logged ledger e)) ≡ own_holding s ledger e
  holding_own h = holding-logged s place ledger e q ∙ ap (λ b. cond b (own_holding s ledger e) no_holding) h

  pub holding_other : bytes_eq ledger q ≡ false → ledger_holding q (shares_of s place (Logged ledger e)) ≡ no_holding
  holding_other h = holding-logged s place ledger e q ∙ ap (λ b. cond b (own_holding s ledger e) no_holding) h

  pub after_own : (xs : List Share) → bytes_eq ledger q ≡ true → ledger_holding q (xs ++ shares_of s place (Logged ledger e)) ≡ joined (ledger_holding q xs) (own_holding s ledger e)
  after_own xs h = holding-joined q xs _ ∙ ap (joined (ledger_holding q xs)) (holding_own h)

  pub after_other : (xs : List Share) → bytes_eq ledger q ≡ false → ledger_holding q (xs ++ shares_of s place (Logged ledger e)) ≡ ledger_holding q xs
  after_other xs h = holding-joined q xs _ ∙ ap (joined (ledger_holding q xs)) (holding_other h) ∙ joined-nothing (ledger_holding q xs)

  pub before_own : (xs : List Share) → bytes_eq ledger q ≡ true → ledger_holding q (shares_of s place (Logged ledger e) ++ xs) ≡ joined (own_holding s ledger e) (ledger_holding q xs)
  before_own xs h = holding-joined q _ xs ∙ ap (λ x. joined x (ledger_holding q xs)) (holding_own h)

  pub before_other : (xs : List Share) → bytes_eq ledger q ≡ false → ledger_holding q (shares_of s place (Logged ledger e) ++ xs) ≡ ledger_holding q xs
  before_other xs h = holding-joined q _ xs ∙ ap (λ x. joined x (ledger_holding q xs)) (holding_other h)

module _ (mid : NameTable LedgerPart) (ledger n : List ℕ) (en : n ≡ ledger) (part changed : LedgerPart) (there : get mid n ≡ Some part) where
  as_ledger : (q : List ℕ) (b : Bool) → bytes_eq n q ≡ b → bytes_eq ledger q ≡ b
  as_ledger q b h = ap (λ x. bytes_eq x q) (sym en) ∙ h

  -- one entry more is prepared
  pub ledgers-prepared : (s place : ℕ) (e : Entry) (shares coming : List Share) (count : ℕ) → AreRoomFor count coming
      → ((done ahead : Holding) → IsRoomFor count ahead → PartTied (Some part) done ahead → PartTied (Some changed) done (joined ahead (own_holding s ledger e)))
      → LedgersTied mid shares coming → LedgersTied (insert mid n changed) shares (coming ++ shares_of s place (Logged ledger e))
  ledgers-prepared s place e shares coming count room step tied q =
      let done : Holding = ledger_holding q shares in
      ledger-changed mid n part changed there (λ o. PartTied o done (ledger_holding q coming)) (λ o. PartTied o done (ledger_holding q (coming ++ shares_of s place (Logged ledger e)))) q
      (λ h p. subst (λ (x : Holding). PartTied (Some changed) done x) (sym (after_own s place ledger e q coming (as_ledger q true h))) (step done (ledger_holding q coming) (room q) p))
      (λ h p. subst (λ (x : Holding). PartTied (get mid q) done x) (sym (after_other s place ledger e q coming (as_ledger q false h))) p)
      (tied q)

  -- nothing more is prepared
  pub ledgers-kept : (shares coming : List Share) → ((done ahead : Holding) → PartTied (Some part) done ahead → PartTied (Some changed) done ahead)
      → LedgersTied mid shares coming → LedgersTied (insert mid n changed) shares coming
  ledgers-kept shares coming step tied q =
      ledger-changed mid n part changed there (λ o. PartTied o (ledger_holding q shares) (ledger_holding q coming)) (λ o. PartTied o (ledger_holding q shares) (ledger_holding q coming)) q
      (λ h p. step (ledger_holding q shares) (ledger_holding q coming) p) (λ h p. p) (tied q)

  -- the first prepared entry is applied
  pub ledgers-applied : (s place : ℕ) (e : Entry) (shares coming : List Share)
      → ((done ahead : Holding) → PartTied (Some part) done (joined (own_holding s ledger e) ahead) → PartTied (Some changed) (joined done (own_holding s ledger e)) ahead)
      → LedgersTied mid shares (shares_of s place (Logged ledger e) ++ coming) → LedgersTied (insert mid n changed) (shares ++ shares_of s place (Logged ledger e)) coming
  ledgers-applied s place e shares coming step tied q =
      let ahead : Holding = ledger_holding q coming in let new : List Share = shares_of s place (Logged ledger e) in
      ledger-changed mid n part changed there (λ o. PartTied o (ledger_holding q shares) (ledger_holding q (new ++ coming))) (λ o. PartTied o (ledger_holding q (shares ++ new)) ahead) q
      (λ h p. subst (λ (x : Holding). PartTied (Some changed) x ahead) (sym (after_own s place ledger e q shares (as_ledger q true h)))
      (step (ledger_holding q shares) ahead (subst (λ (x : Holding). PartTied (Some part) (ledger_holding q shares) x) (before_own s place ledger e q coming (as_ledger q true h)) p)))
      (λ h p. subst (λ (x : Holding). PartTied (get mid q) x ahead) (sym (after_other s place ledger e q shares (as_ledger q false h)))
      (subst (λ (x : Holding). PartTied (get mid q) (ledger_holding q shares) x) (before_other s place ledger e q coming (as_ledger q false h)) p))
      (tied q)

  -- the entry that was prepared last is given up
  pub ledgers-released : (s place : ℕ) (e : Entry) (shares coming : List Share)
      → ((done ahead : Holding) → PartTied (Some part) done (joined ahead (own_holding s ledger e)) → PartTied (Some changed) done ahead)
      → LedgersTied mid shares (coming ++ shares_of s place (Logged ledger e)) → LedgersTied (insert mid n changed) shares coming
  ledgers-released s place e shares coming step tied q =
      let done : Holding = ledger_holding q shares in let new : List Share = shares_of s place (Logged ledger e) in
      ledger-changed mid n part changed there (λ o. PartTied o done (ledger_holding q (coming ++ new))) (λ o. PartTied o done (ledger_holding q coming)) q
      (λ h p. step done (ledger_holding q coming) (subst (λ (x : Holding). PartTied (Some part) done x) (after_own s place ledger e q coming (as_ledger q true h)) p))
      (λ h p. subst (λ (x : Holding). PartTied (get mid q) done x) (after_other s place ledger e q coming (as_ledger q false h)) p)
      (tied q)

-- the ledger of the entry isn't there
pub ledgers-absent : (ledgers : NameTable LedgerPart) (ledger n : List ℕ) → n ≡ ledger → get ledgers n ≡ None → (s place : ℕ) (e : Entry) (shares coming : List Share)
    → LedgersTied ledgers shares (coming ++ shares_of s place (Logged ledger e)) → LedgersTied ledgers shares coming
ledgers-absent ledgers ledger n en none s place e shares coming tied q = absent_or (bytes_eq ledger q) refl
  where
    absent_or : (b : Bool) → bytes_eq ledger q ≡ b → PartTied (get ledgers q) (ledger_holding q shares) (ledger_holding q coming)
    absent_or true h =
        let nothing : get ledgers q ≡ None = ap (get ledgers) (sym (en ∙ bytes_same ledger q h)) ∙ none in
        subst (λ (o : Option LedgerPart). PartTied o (ledger_holding q shares) (ledger_holding q coming)) (sym nothing)
        (part-absent (ledger_holding q shares) (ledger_holding q coming) (own_holding s ledger e)
        (subst (λ (x : Holding). PartTied None (ledger_holding q shares) x) (after_own s place ledger e q coming h)
        (subst (λ (o : Option LedgerPart). PartTied o (ledger_holding q shares) (ledger_holding q (coming ++ shares_of s place (Logged ledger e)))) nothing (tied q))))
    absent_or false h = subst (λ (x : Holding). PartTied (get ledgers q) (ledger_holding q shares) x) (after_other s place ledger e q coming h) (tied q)

-- what the part of the ledger is ready for
module _ (ledgers : NameTable LedgerPart) (s place : ℕ) (ledger : List ℕ) (e : Entry) (n : List ℕ) (en : n ≡ ledger) (part : LedgerPart) (there : get ledgers n ≡ Some part) (shares coming : List Share) where
  pub part-ready : LedgersTied ledgers shares (shares_of s place (Logged ledger e) ++ coming) → PartTied (Some part) (ledger_holding ledger shares) (joined (own_holding s ledger e) (ledger_holding ledger coming))
  part-ready tied =
      subst (λ (x : Holding). PartTied (Some part) (ledger_holding ledger shares) x) (before_own s place ledger e ledger coming (bytes_itself ledger))
      (subst (λ (o : Option LedgerPart). PartTied o (ledger_holding ledger shares) (ledger_holding ledger (shares_of s place (Logged ledger e) ++ coming))) (ap (get ledgers) (sym en) ∙ there) (tied ledger))

  pub part-follows : Follows shares (shares_of s place (Logged ledger e)) → HoldingFollows (ledger_holding ledger shares) (own_holding s ledger e)
  part-follows follows = subst (λ (x : Holding). HoldingFollows (ledger_holding ledger shares) x) (holding_own s place ledger e ledger (bytes_itself ledger)) (follows ledger)

-- a ledger that is opened, and whose part changes
module _ (old : NameTable LedgerPart) (name : List ℕ) (fresh part changed : LedgerPart) (is : part ≡ unwrap_or (get old name) fresh) where
  abbrev mid : NameTable LedgerPart
  mid = insert old name (unwrap_or (get old name) fresh)

  mid_part : get mid name ≡ Some part
  mid_part = get-own old name (unwrap_or (get old name) fresh) ∙ ap Some (sym is)

  mid_changed : insert mid name changed ≡ insert old name changed
  mid_changed = insert-twice old name (unwrap_or (get old name) fresh) changed

  -- it is there, as are those that were there
  pub opened_there : IsSome (get (insert old name changed) name)
  opened_there = let P : Option LedgerPart → Type 0 = λ o. IsSome o in subst P (sym (get-own old name changed)) refl

  still_some : (o : Option LedgerPart) (b : Bool) → IsSome o → IsSome (cond b (Some changed) o)
  still_some o true h = refl
  still_some o false h = h

  pub opened_still : (q : List ℕ) → IsSome (get old q) → IsSome (get (insert old name changed) q)
  opened_still q h = let P : Option LedgerPart → Type 0 = λ o. IsSome o in subst P (sym (get-change old name changed q)) (still_some (get old q) (bytes_eq name q) h)

  module _ (no_accounts : fresh.accounts ≡ empty) (no_keys : fresh.keys ≡ record { table = empty; spare = 0 }) (no_references : fresh.references ≡ record { table = empty; spare = 0 }) (shares coming : List Share) where
    -- one entry more is prepared
    pub opened-prepared : (s place : ℕ) (e : Entry) (count : ℕ) → AreRoomFor count coming
        → ((done ahead : Holding) → IsRoomFor count ahead → PartTied (Some part) done ahead → PartTied (Some changed) done (joined ahead (own_holding s name e)))
        → LedgersTied old shares coming → LedgersTied (insert old name changed) shares (coming ++ shares_of s place (Logged name e))
    opened-prepared s place e count room step tied =
        subst (λ (t : NameTable LedgerPart). LedgersTied t shares (coming ++ shares_of s place (Logged name e))) mid_changed
        (ledgers-prepared mid name name refl part changed mid_part s place e shares coming count room step
        (ledgers-opened old name fresh mid refl no_accounts no_keys no_references shares coming tied))

    -- nothing more is prepared
    pub opened-kept : ((done ahead : Holding) → PartTied (Some part) done ahead → PartTied (Some changed) done ahead) → LedgersTied old shares coming → LedgersTied (insert old name changed) shares coming
    opened-kept step tied =
        subst (λ (t : NameTable LedgerPart). LedgersTied t shares coming) mid_changed
        (ledgers-kept mid name name refl part changed mid_part shares coming step
        (ledgers-opened old name fresh mid refl no_accounts no_keys no_references shares coming tied))

-- where there is nothing, nothing is held
nothing_held : PartTied None no_holding no_holding
nothing_held = record {
  moves = record { items = λ a b. ap (λ o. items_of (slot_in o b)) (get-empty AccountPart a); room = λ a b. omega arith };
  histories = record { applied = λ a. ap (λ o. (history_in o).changes) (get-empty AccountPart a); prepared = λ a. ap (λ o. (history_in o).prepared) (get-empty AccountPart a) };
  keys = record { known = λ key. get-empty Kept key; room = omega arith };
  references = record { known = λ reference. get-empty ℕ reference; room = omega arith };
}

pub nothing_tied : (ledgers : NameTable LedgerPart) → ledgers ≡ empty → LedgersTied ledgers [] []
nothing_tied ledgers h q = subst (λ (o : Option LedgerPart). PartTied o no_holding no_holding) (sym (ap (λ t. get t q) h ∙ get-empty LedgerPart q)) nothing_held
