-- The call of a request: route, method, the names of the path, parameters, key and body, in this order; the first refusal counts.
use Rattle.std.specs.Prelude.{◌≡◌, ◌⊎◌, ℕ, ◌<◌, ◌^◌, ℤ, false, ◌&&◌, List, [], ◌∷◌, Option, Some, None, IsUtf8, Ok, Err, codes, decimal}
use Rattle.std.specs.List.{find}
use Rattle.lg_containers.specs.AddressGrammar.{IsAddress}
use Rattle.lg_containers.specs.CountedGrammar.{IsLedgerName, IsKey}
use Rattle.lg_json.specs.Tree.{Tree}
use Rattle.lg_json.specs.Tree.Tree.{null}
use Rattle.lg_types.specs.declared.calls.Batch.{Batch}
use Rattle.lg_types.specs.declared.calls.Batch.TheVariants.{Ready}
use Rattle.lg_types.specs.declared.calls.Call.{Call}
use Rattle.lg_types.specs.declared.calls.Call.TheVariants as call
use Rattle.lg_types.specs.declared.calls.Write.{Write}
use Rattle.lg_types.specs.declared.calls.Write.TheVariants as write
use Rattle.lg_types.specs.declared.filters.Filter.{Filter, All}
use Rattle.lg_types.specs.declared.filters.ListKind.{ListKind}
use Rattle.lg_types.specs.declared.filters.ListKind.TheVariants as kind
use Rattle.lg_types.specs.declared.queries.Expand.{Expand}
use Rattle.lg_types.specs.declared.queries.Query.{Query}
use Rattle.lg_types.specs.declared.queries.Read.{Read}
use Rattle.lg_types.specs.declared.queries.Read.TheVariants as read
use Rattle.lg_types.specs.declared.queries.Span.{Span}
use Rattle.lg_types.specs.declared.records.Target.{Target}
use Rattle.lg_types.specs.declared.records.Target.TheVariants.{Account, Transaction}
use Rattle.lg_types.specs.declared.refusals.FaultKind.{FaultKind}
use Rattle.lg_types.specs.declared.refusals.Reason.TheVariants.{Kind, Form}
use Rattle.lg_types.specs.declared.refusals.Refusal.TheVariants.{NoRoute, Method, BodyJson, OutOfMemory}
use Rattle.lg_readings.specs.Answers.{Answer, wrong, known, gives, ◌>>=◌, IfForm}
use Rattle.lg_readings.specs.Bodies.{Creation, texts_of, LedgerOf, revert_of}
use Rattle.lg_readings.specs.Elements.{ElementsOf}
use Rattle.lg_readings.specs.FilterReadings.{FilterOf}
use Rattle.lg_readings.specs.Parameters.{MomentParameter, truth_parameter, unless_true, PageSize, GroupBy, expand_parameter, hashes_parameter, no_order}
use Rattle.lg_readings.specs.Paths.{top}
use Rattle.lg_readings.specs.Routes.{Route, Row, ListLedgers, MakeLedger, ShowLedger, ListAccounts, ShowAccount, SetAccountMetadata, DropAccountMetadata, ListTransactions, CreateTransaction, ShowTransaction, SetTransactionMetadata, DropTransactionMetadata, RevertTransaction, RunBulk, ListLogs, ExportLogs, ImportLogs, ListVolumes, AggregateBalances, ShowStats, routes_at, has_method, names_in}
use Rattle.lg_readings.specs.Targets.{Parameter, path_segments, parameters, first_value}
use Rattle.lg_readings.specs.TokenReadings.{TokenQuery}
use Rattle.lg_readings.specs.Values.{present}

-- the body that comes with a request: none, a JSON value, a text that is no JSON value, one for which memory was wanting, or the lines
-- of an import
pub data Body : Type 0 where
  NoBody : Body
  ValueBody : Tree → Body
  FaultyBody : (fault : FaultKind) (place : ℕ) → Body
  UnreadBody : Body
  LinesBody : Batch → Body

-- ---- names of the path

abbrev pub LedgerNamed : List ℕ → Answer (List ℕ) → Type 0
LedgerNamed s = IfForm (IsLedgerName s) (Some (codes "ledger")) s

abbrev pub AddressNamed : List ℕ → Answer (List ℕ) → Type 0
AddressNamed s = IfForm (IsAddress s) (Some (codes "address")) s

abbrev pub MetadataNamed : List ℕ → Answer (List ℕ) → Type 0
MetadataNamed s = IfForm (IsUtf8 s) (Some (codes "metadata")) s

-- the decimal text of an id
pub record IsIdText (s : List ℕ) (id : ℕ) : Type 0 where
  pub decimal : s ≡ decimal id
  pub small : id < 2 ^ 64

abbrev pub IdNamed : List ℕ → Answer ℕ → Type 0
IdNamed s r = ((id : ℕ) × IsIdText s id × (r ≡ Ok id)) ⊎ (((id : ℕ) → ¬ (IsIdText s id)) × (r ≡ wrong (Some (codes "id")) Form))

-- ---- key and body

abbrev pub KeyIn : Option (List ℕ) → Answer (Option (List ℕ)) → Type 0
KeyIn None = gives None
KeyIn (Some key) = IfForm (IsKey key) (Some (codes "key")) key >>= (λ key. gives (Some key))

-- the JSON value of a body that is looked at; null where there is none
abbrev pub value_of_body : Body → Answer Tree
value_of_body NoBody = Ok null
value_of_body (ValueBody t) = Ok t
value_of_body (FaultyBody fault place) = Err (BodyJson fault place)
value_of_body UnreadBody = Err OutOfMemory
value_of_body (LinesBody batch) = wrong top Kind

-- the lines of an import; none where there is no body
abbrev pub lines_of_body : Body → Answer Batch
lines_of_body NoBody = Ok (Ready [])
lines_of_body (ValueBody null) = Ok (Ready [])
lines_of_body (ValueBody t) = wrong top Kind
lines_of_body (FaultyBody fault place) = wrong top Kind
lines_of_body UnreadBody = wrong top Kind
lines_of_body (LinesBody batch) = Ok batch

abbrev pub FilterBody : ListKind → Body → Answer Filter → Type 0
FilterBody kind body = known (value_of_body body) >>= FilterOf kind

-- ---- queries of lists

abbrev pub no_expand : Expand
no_expand = record { volumes = false; effective = false }

abbrev pub no_span : Span
no_span = record { from = None; to = None; by_insertion = false; group = 0 }

-- a cursor, where there is one, stands for all of the query
abbrev pub TokenOr : ListKind → List Parameter → (Answer Query → Type 0) → Answer Query → Type 0
TokenOr kind ps query = elim (first_value (codes "cursor") ps) [ None ↦ query | Some token ↦ TokenQuery kind token ]

abbrev pub first_page : Filter → Option ℤ → ℕ → Expand → Span → Query
first_page filter pit size expand span = record { filter = filter; pit = pit; page_size = size; after = None; expand = expand; span = span }

abbrev pub LedgersQuery : List Parameter → Answer Query → Type 0
LedgersQuery ps = TokenOr kind.Ledgers ps (
    PageSize ps >>= (λ size.
    known (no_order ps) >>= (λ _.
    gives (first_page All None size no_expand no_span))))

-- accounts and transactions
abbrev pub ItemsQuery : ListKind → List Parameter → Body → Answer Query → Type 0
ItemsQuery kind ps body = TokenOr kind ps (
    PageSize ps >>= (λ size.
    MomentParameter (codes "pit") ps >>= (λ pit.
    known (expand_parameter ps) >>= (λ expand.
    known (no_order ps) >>= (λ _.
    FilterBody kind body >>= (λ filter.
    gives (first_page filter pit size expand no_span)))))))

abbrev pub LogsQuery : List Parameter → Body → Answer Query → Type 0
LogsQuery ps body = TokenOr kind.Logs ps (
    PageSize ps >>= (λ size.
    MomentParameter (codes "pit") ps >>= (λ pit.
    known (no_order ps) >>= (λ _.
    FilterBody kind.Logs body >>= (λ filter.
    gives (first_page filter pit size no_expand no_span))))))

abbrev pub VolumesQuery : List Parameter → Body → Answer Query → Type 0
VolumesQuery ps body = TokenOr kind.Volumes ps (
    PageSize ps >>= (λ size.
    MomentParameter (codes "startTime") ps >>= (λ from.
    MomentParameter (codes "endTime") ps >>= (λ to.
    known (truth_parameter (codes "insertionDate") ps) >>= (λ by_insertion.
    GroupBy ps >>= (λ group.
    known (no_order ps) >>= (λ _.
    FilterBody kind.Volumes body >>= (λ filter.
    gives (first_page filter None size no_expand (record { from = from; to = to; by_insertion = by_insertion; group = group }))))))))))

-- ---- the calls

abbrev pub ReadOf : List ℕ → Read → Answer Call → Type 0
ReadOf ledger read = gives (call.Read ledger read)

-- a write, with a key or without one
abbrev pub WriteOf : List ℕ → Option (List ℕ) → Write → Answer Call → Type 0
WriteOf ledger key write = gives (call.Write ledger key write)

abbrev pub MakeCall : List ℕ → List Parameter → Body → Answer Call → Type 0
MakeCall s ps body =
    LedgerNamed s >>= (λ ledger.
    known (no_order ps) >>= (λ _.
    known (value_of_body body) >>= (λ value.
    LedgerOf value >>= (λ made.
    gives (call.MakeLedger ledger made.0 made.1)))))

-- a read of the ledger that has no parameters of its own
abbrev pub PlainRead : List ℕ → List Parameter → Read → Answer Call → Type 0
PlainRead s ps read = LedgerNamed s >>= (λ ledger. known (no_order ps) >>= (λ _. ReadOf ledger read))

abbrev pub AccountRead : List ℕ → List ℕ → List Parameter → Answer Call → Type 0
AccountRead s a ps =
    LedgerNamed s >>= (λ ledger.
    AddressNamed a >>= (λ address.
    MomentParameter (codes "pit") ps >>= (λ pit.
    known (expand_parameter ps) >>= (λ expand.
    known (no_order ps) >>= (λ _.
    ReadOf ledger (read.Account address pit expand))))))

abbrev pub TransactionRead : List ℕ → List ℕ → List Parameter → Answer Call → Type 0
TransactionRead s n ps =
    LedgerNamed s >>= (λ ledger.
    IdNamed n >>= (λ id.
    MomentParameter (codes "pit") ps >>= (λ pit.
    known (expand_parameter ps) >>= (λ expand.
    known (no_order ps) >>= (λ _.
    ReadOf ledger (read.Transaction id expand pit))))))

abbrev pub AggregateRead : List ℕ → List Parameter → Body → Answer Call → Type 0
AggregateRead s ps body =
    LedgerNamed s >>= (λ ledger.
    MomentParameter (codes "pit") ps >>= (λ pit.
    known (truth_parameter (codes "useInsertionDate") ps) >>= (λ by_insertion.
    known (no_order ps) >>= (λ _.
    FilterBody kind.Aggregate body >>= (λ filter.
    ReadOf ledger (read.Aggregate filter pit by_insertion))))))

abbrev pub ListRead : List ℕ → (Answer Query → Type 0) → (Query → Read) → Answer Call → Type 0
ListRead s query read = LedgerNamed s >>= (λ ledger. query >>= (λ q. ReadOf ledger (read q)))

abbrev pub CreateCall : List ℕ → List Parameter → Option (List ℕ) → Body → Answer Call → Type 0
CreateCall s ps key body =
    LedgerNamed s >>= (λ ledger.
    known (truth_parameter (codes "dryRun") ps) >>= (λ dry_run.
    known (unless_true (codes "dryRun") dry_run) >>= (λ _.
    known (no_order ps) >>= (λ _.
    KeyIn key >>= (λ key.
    known (value_of_body body) >>= (λ value.
    Creation top (present value) >>= WriteOf ledger key))))))

abbrev pub RevertCall : List ℕ → List ℕ → List Parameter → Option (List ℕ) → Body → Answer Call → Type 0
RevertCall s n ps key body =
    LedgerNamed s >>= (λ ledger.
    IdNamed n >>= (λ id.
    known (truth_parameter (codes "force") ps) >>= (λ force.
    known (truth_parameter (codes "atEffectiveDate") ps) >>= (λ at_effective_date.
    known (no_order ps) >>= (λ _.
    KeyIn key >>= (λ key.
    known (value_of_body body) >>= (λ value.
    known (revert_of (present value)) >>= (λ _.
    WriteOf ledger key (write.Revert id force at_effective_date)))))))))

-- the target of metadata: an account or a transaction
abbrev pub AccountTarget : List ℕ → Answer Target → Type 0
AccountTarget a = AddressNamed a >>= (λ address. gives (Account address))

abbrev pub TransactionTarget : List ℕ → Answer Target → Type 0
TransactionTarget n = IdNamed n >>= (λ id. gives (Transaction id))

abbrev pub SetCall : List ℕ → (Answer Target → Type 0) → List Parameter → Option (List ℕ) → Body → Answer Call → Type 0
SetCall s target ps key body =
    LedgerNamed s >>= (λ ledger.
    target >>= (λ target.
    known (no_order ps) >>= (λ _.
    KeyIn key >>= (λ key.
    known (value_of_body body) >>= (λ value.
    known (texts_of top (present value)) >>= (λ metadata.
    WriteOf ledger key (write.SetMeta target metadata)))))))

abbrev pub DropCall : List ℕ → (Answer Target → Type 0) → List ℕ → List Parameter → Option (List ℕ) → Answer Call → Type 0
DropCall s target k ps key =
    LedgerNamed s >>= (λ ledger.
    target >>= (λ target.
    MetadataNamed k >>= (λ name.
    known (no_order ps) >>= (λ _.
    KeyIn key >>= (λ key.
    WriteOf ledger key (write.DropMeta target name))))))

-- an atomic list can't be parallel
abbrev pub BulkCall : List ℕ → List Parameter → Body → Answer Call → Type 0
BulkCall s ps body =
    LedgerNamed s >>= (λ ledger.
    known (truth_parameter (codes "atomic") ps) >>= (λ atomic.
    known (truth_parameter (codes "continueOnFailure") ps) >>= (λ go_on.
    known (truth_parameter (codes "parallel") ps) >>= (λ parallel.
    known (unless_true (codes "parallel") (atomic && parallel)) >>= (λ _.
    known (no_order ps) >>= (λ _.
    known (value_of_body body) >>= (λ value.
    ElementsOf value >>= (λ elements.
    gives (call.Bulk ledger elements atomic go_on)))))))))

abbrev pub ImportCall : List ℕ → List Parameter → Body → Answer Call → Type 0
ImportCall s ps body =
    LedgerNamed s >>= (λ ledger.
    known (hashes_parameter ps) >>= (λ _.
    known (no_order ps) >>= (λ _.
    known (lines_of_body body) >>= (λ batch.
    gives (call.Import ledger batch)))))

-- what a request of a row, with the names of its path, asks for
abbrev pub Asks : Row → List (List ℕ) → List Parameter → Option (List ℕ) → Body → Answer Call → Type 0
Asks ListLedgers [] ps key body = LedgersQuery ps >>= (λ q. gives (call.Ledgers q))
Asks MakeLedger (s ∷ []) ps key body = MakeCall s ps body
Asks ShowLedger (s ∷ []) ps key body = PlainRead s ps read.Ledger
Asks ListAccounts (s ∷ []) ps key body = ListRead s (ItemsQuery kind.Accounts ps body) read.Accounts
Asks ShowAccount (s ∷ a ∷ []) ps key body = AccountRead s a ps
Asks SetAccountMetadata (s ∷ a ∷ []) ps key body = SetCall s (AccountTarget a) ps key body
Asks DropAccountMetadata (s ∷ a ∷ k ∷ []) ps key body = DropCall s (AccountTarget a) k ps key
Asks ListTransactions (s ∷ []) ps key body = ListRead s (ItemsQuery kind.Transactions ps body) read.Transactions
Asks CreateTransaction (s ∷ []) ps key body = CreateCall s ps key body
Asks ShowTransaction (s ∷ n ∷ []) ps key body = TransactionRead s n ps
Asks SetTransactionMetadata (s ∷ n ∷ []) ps key body = SetCall s (TransactionTarget n) ps key body
Asks DropTransactionMetadata (s ∷ n ∷ k ∷ []) ps key body = DropCall s (TransactionTarget n) k ps key
Asks RevertTransaction (s ∷ n ∷ []) ps key body = RevertCall s n ps key body
Asks RunBulk (s ∷ []) ps key body = BulkCall s ps body
Asks ListLogs (s ∷ []) ps key body = ListRead s (LogsQuery ps body) read.Logs
Asks ExportLogs (s ∷ []) ps key body = PlainRead s ps read.Export
Asks ImportLogs (s ∷ []) ps key body = ImportCall s ps body
Asks ListVolumes (s ∷ []) ps key body = ListRead s (VolumesQuery ps body) read.Volumes
Asks AggregateBalances (s ∷ []) ps key body = AggregateRead s ps body
Asks ShowStats (s ∷ []) ps key body = PlainRead s ps read.Stats
Asks row names ps key body = λ r. ⊥

-- ---- the request

-- what the route of the method asks for; where the path has none of that method, the method is refused
abbrev pub AsksOn : List (List ℕ) → List Parameter → Option (List ℕ) → Body → Option Route → Answer Call → Type 0
AsksOn segments ps key body None = known (Err Method)
AsksOn segments ps key body (Some route) = Asks route.row (names_in route.path segments) ps key body

-- what the routes of the path ask for; where it has none, the path is refused
abbrev pub AsksAmong : List Route → List ℕ → List (List ℕ) → List Parameter → Option (List ℕ) → Body → Answer Call → Type 0
AsksAmong [] method segments ps key body = known (Err NoRoute)
AsksAmong (route ∷ more) method segments ps key body = AsksOn segments ps key body (find (has_method method) (route ∷ more))

abbrev pub segments_or_none : Option (List (List ℕ)) → List (List ℕ)
segments_or_none None = []
segments_or_none (Some segments) = segments

abbrev pub RequestAnswer : List ℕ → List ℕ → Option (List ℕ) → Body → Answer Call → Type 0
RequestAnswer method target key body = AsksAmong (routes_at (path_segments target)) method (segments_or_none (path_segments target)) (parameters target) key body

abbrev pub call_of : Answer Call → Call
call_of (Ok c) = c
call_of (Err refusal) = call.Unreadable refusal

-- the call of a request; a refusal makes it one that can't be read
abbrev pub IsRequest : List ℕ → List ℕ → Option (List ℕ) → Body → Call → Type 0
IsRequest method target key body c = ((r : Answer Call) × RequestAnswer method target key body r × (c ≡ call_of r))
