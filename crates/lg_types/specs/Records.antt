-- Records whose parts are as their types allow: names by their grammars, texts in UTF-8, dates in the range of moments,
-- amounts within the limit, and hashes of 32 bytes.
use Rattle.std.specs.Prelude.{ℕ, ◌≡◌, ◌^◌, ◌<◌, List, length, Option, IfSome, IsUtf8}
use Rattle.std.specs.List.{AllByRecursion}
use Rattle.base64.specs.GeneralPurpose.{IsBytes}
use Rattle.lg_containers.specs.AddressGrammar.{IsAddress}
use Rattle.lg_containers.specs.AssetGrammar.{IsAsset}
use Rattle.lg_containers.specs.CountedGrammar.{IsKey}
use Rattle.lg_containers.specs.ReferenceGrammar.{IsReference}
use Rattle.lg_containers.specs.NameTable.{NameTable, pairs_of}
use Rattle.lg_time.specs.Moment.{IsInMoments}
use Rattle.lg_types.specs.declared.records.Entry.{Entry}
use Rattle.lg_types.specs.declared.records.EntryBody.{EntryBody}
use Rattle.lg_types.specs.declared.records.EntryBody.TheVariants.{NewTransaction, SetMetadata, Reverted, DeleteMetadata}
use Rattle.lg_types.specs.declared.records.KeyMark.{KeyMark}
use Rattle.lg_types.specs.declared.records.Posting.{Posting}
use Rattle.lg_types.specs.declared.records.Target.{Target}
use Rattle.lg_types.specs.declared.records.Target.TheVariants.{Account, Transaction as TransactionOf}
use Rattle.lg_types.specs.declared.records.Transaction.{Transaction}

abbrev pub IsId : ℕ → Type 0
IsId id = id < 2 ^ 64

-- the 32 bytes of a SHA-256
pub record IsHash (hash : List ℕ) : Type 0 where
  pub long : length hash ≡ 32
  pub bytes : IsBytes hash

pub record IsPosting (p : Posting) : Type 0 where
  pub source : IsAddress p.source
  pub destination : IsAddress p.destination
  pub amount : p.amount < 2 ^ 127
  pub asset : IsAsset p.asset

-- a name and its text
pub record IsTextPair (pair : List ℕ × List ℕ) : Type 0 where
  pub name : IsUtf8 pair.0
  pub value : IsUtf8 pair.1

abbrev pub IsMeta : NameTable (List ℕ) → Type 0
IsMeta m = AllByRecursion IsTextPair (pairs_of m)

-- an address and its metadata
pub record IsAccountPair (pair : List ℕ × NameTable (List ℕ)) : Type 0 where
  pub name : IsAddress pair.0
  pub value : IsMeta pair.1

abbrev pub IsAccountMeta : NameTable (NameTable (List ℕ)) → Type 0
IsAccountMeta m = AllByRecursion IsAccountPair (pairs_of m)

-- a reference, where there is one
abbrev pub IsReferenceOf : Option (List ℕ) → Type 0
IsReferenceOf reference = IfSome reference IsReference

pub record IsTransaction (t : Transaction) : Type 0 where
  pub id : IsId t.id
  pub some : 0 < length t.postings
  pub postings : AllByRecursion IsPosting t.postings
  pub metadata : IsMeta t.metadata
  pub reference : IsReferenceOf t.reference
  pub timestamp : IsInMoments t.timestamp

abbrev pub IsTarget : Target → Type 0
IsTarget (Account address) = IsAddress address
IsTarget (TransactionOf id) = IsId id

abbrev pub IsBody : EntryBody → Type 0
IsBody (NewTransaction transaction accounts) = IsTransaction transaction × IsAccountMeta accounts
IsBody (SetMetadata target metadata) = IsTarget target × IsMeta metadata
IsBody (Reverted reverted transaction) = IsId reverted × IsTransaction transaction
IsBody (DeleteMetadata target name) = IsTarget target × IsUtf8 name

pub record IsMark (mark : KeyMark) : Type 0 where
  pub key : IsKey mark.key
  pub input_hash : IsHash mark.input_hash

-- a mark, where there is one
abbrev pub IsMarkOf : Option KeyMark → Type 0
IsMarkOf mark = IfSome mark IsMark

pub record IsEntry (e : Entry) : Type 0 where
  pub body : IsBody e.body
  pub date : IsInMoments e.date
  pub mark : IsMarkOf e.mark
  pub id : IsId e.id
  pub hash : IsHash e.hash

-- the dates of an entry's transaction are moments
abbrev pub BodyHasMoments : EntryBody → Type 0
BodyHasMoments (NewTransaction transaction accounts) = IsInMoments transaction.timestamp
BodyHasMoments (SetMetadata target metadata) = Unit {0}
BodyHasMoments (Reverted reverted transaction) = IsInMoments transaction.timestamp
BodyHasMoments (DeleteMetadata target name) = Unit {0}

-- the dates of an entry are moments
pub record HasMoments (e : Entry) : Type 0 where
  pub date : IsInMoments e.date
  pub body : BodyHasMoments e.body
