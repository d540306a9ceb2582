-- What a log knows: the accounts that its entries name, keys, references, transactions, what is reverted, the next ids and dates.
use Rattle.std.specs.Prelude.{ℕ, ◌+◌, ℤ, Bool, if◌then◌else◌, nat_eq, int_lt, List, [], ◌∷◌, ◌++◌, map, length, Option, Some, None}
use Rattle.std.specs.Option.{option_to_list, option_map}
use Rattle.std.specs.List.{flat_map, find, list_any}
use Rattle.std.specs.Str.{bytes_eq}
use Rattle.lg_containers.specs.NameTable as table
use Rattle.lg_types.specs.declared.records.Posting.{Posting}
use Rattle.lg_types.specs.declared.records.Transaction.{Transaction}
use Rattle.lg_types.specs.declared.records.Entry.{Entry}
use Rattle.lg_types.specs.declared.records.EntryBody.{EntryBody}
use Rattle.lg_types.specs.declared.records.EntryBody.TheVariants.{NewTransaction, SetMetadata, Reverted, DeleteMetadata}
use Rattle.lg_types.specs.declared.records.KeyMark.{KeyMark}
use Rattle.lg_types.specs.declared.records.Target.{Target}
use Rattle.lg_types.specs.declared.records.Target.TheVariants.{Account, Transaction as TransactionOf}
use Rattle.lg_types.specs.Lists.{last_of}
use Rattle.lg_types.specs.Moments.{brought}
use Rattle.lg_types.specs.Moves.{body_transaction}

abbrev pub posting_accounts : Posting → List (List ℕ)
posting_accounts p = p.source ∷ p.destination ∷ []

abbrev pub transaction_accounts : Option Transaction → List (List ℕ)
transaction_accounts None = []
transaction_accounts (Some t) = flat_map posting_accounts t.postings

abbrev pub target_accounts : Target → List (List ℕ)
target_accounts (Account a) = a ∷ []
target_accounts (TransactionOf id) = []

abbrev pub own_accounts : EntryBody → List (List ℕ)
own_accounts (NewTransaction t accounts) = table.keys accounts
own_accounts (SetMetadata target metadata) = target_accounts target
own_accounts (Reverted id t) = []
own_accounts (DeleteMetadata target name) = target_accounts target

-- the accounts that an entry names: those of its postings, of its account metadata, and its target
abbrev pub entry_accounts : Entry → List (List ℕ)
entry_accounts e = transaction_accounts (body_transaction e.body) ++ own_accounts e.body

-- the key that an entry has, with the hash of what was asked
abbrev pub entry_keys : Entry → List KeyMark
entry_keys e = option_to_list e.mark

-- a reference with the id of the transaction that has it
pub record Referred : Type 0 where
  pub reference : List ℕ
  pub transaction : ℕ

abbrev pub referred_by : ℕ → List ℕ → Referred
referred_by id reference = record { reference = reference; transaction = id }

abbrev pub transaction_references : Option Transaction → List Referred
transaction_references None = []
transaction_references (Some t) = map (referred_by t.id) (option_to_list t.reference)

abbrev pub entry_references : Entry → List Referred
entry_references e = transaction_references (body_transaction e.body)

-- a key with its hash and the id of the entry that has it
pub record Marking : Type 0 where
  pub entry : ℕ
  pub mark : KeyMark

abbrev pub marking : ℕ → KeyMark → Marking
marking entry mark = record { entry = entry; mark = mark }

abbrev pub entry_markings : Entry → List Marking
entry_markings e = map (marking e.id) (entry_keys e)

abbrev pub markings : List Entry → List Marking
markings g = flat_map entry_markings g

abbrev pub is_marking_of : List ℕ → Marking → Bool
is_marking_of key m = bytes_eq m.mark.key key

abbrev pub is_mark_of : List ℕ → KeyMark → Bool
is_mark_of key k = bytes_eq k.key key

abbrev pub has_key : List ℕ → Entry → Bool
has_key key e = list_any (is_mark_of key) (entry_keys e)

-- the first entry that has the key
abbrev pub kept : List Entry → List ℕ → Option Entry
kept g key = find (has_key key) g

abbrev pub is_referred_as : List ℕ → Referred → Bool
is_referred_as reference r = bytes_eq r.reference reference

abbrev pub transaction_of : Referred → ℕ
transaction_of r = r.transaction

abbrev pub references : List Entry → List Referred
references g = flat_map entry_references g

-- the id of the transaction that has the reference
abbrev pub used : List Entry → List ℕ → Option ℕ
used g reference = option_map transaction_of (find (is_referred_as reference) (references g))

-- the accounts that the log names, each as often as it is named
abbrev pub accounts : List Entry → List (List ℕ)
accounts g = flat_map entry_accounts g

-- a transaction with the date of its entry
pub record Dated : Type 0 where
  pub date : ℤ
  pub transaction : Transaction

abbrev pub dated : ℤ → Option Transaction → List Dated
dated date None = []
dated date (Some t) = record { date = date; transaction = t } ∷ []

abbrev pub entry_transactions : Entry → List Dated
entry_transactions e = dated e.date (body_transaction e.body)

-- the transactions of the log
abbrev pub transactions : List Entry → List Dated
transactions g = flat_map entry_transactions g

abbrev pub has_id : ℕ → Dated → Bool
has_id id d = nat_eq d.transaction.id id

-- the transaction of the id
abbrev pub find_transaction : List Entry → ℕ → Option Dated
find_transaction g id = find (has_id id) (transactions g)

-- a revert: the id that it reverts, the id of the transaction that reverts it, and the date of the entry
pub record Undoing : Type 0 where
  pub reverted : ℕ
  pub by : ℕ
  pub date : ℤ

abbrev pub body_undoings : ℤ → EntryBody → List Undoing
body_undoings date (NewTransaction t accounts) = []
body_undoings date (SetMetadata target metadata) = []
body_undoings date (Reverted id t) = record { reverted = id; by = t.id; date = date } ∷ []
body_undoings date (DeleteMetadata target name) = []

abbrev pub entry_undoings : Entry → List Undoing
entry_undoings e = body_undoings e.date e.body

abbrev pub undoings : List Entry → List Undoing
undoings g = flat_map entry_undoings g

abbrev pub undoes : ℕ → Undoing → Bool
undoes id u = nat_eq u.reverted id

-- what reverted the transaction of the id
abbrev pub undone : List Entry → ℕ → Option Undoing
undone g id = find (undoes id) (undoings g)

-- ids count from 1 without gaps
abbrev pub next_entry : List Entry → ℕ
next_entry g = length g + 1

abbrev pub next_transaction : List Entry → ℕ
next_transaction g = length (transactions g) + 1

-- the date of a new entry: the moment brought into the range, and never before the last entry's date
abbrev pub date_after : Option Entry → ℤ → ℤ
date_after None now = brought now
date_after (Some e) now = if int_lt (brought now) e.date then e.date else brought now

abbrev pub date : List Entry → ℤ → ℤ
date g now = date_after (last_of g) now
