-- The routes: a method, the pattern of a path, and what a request there asks for.
use Rattle.std.specs.Prelude.{ℕ, Bool, true, false, ◌&&◌, List, [], ◌∷◌, Option, Some, None, codes}
use Rattle.std.specs.List.{filter}
use Rattle.std.specs.Str.{bytes_eq}

-- what a request asks for, before anything else of it is read
pub data Row : Type 0 where
  ListLedgers : Row
  MakeLedger : Row
  ShowLedger : Row
  ListAccounts : Row
  ShowAccount : Row
  SetAccountMetadata : Row
  DropAccountMetadata : Row
  ListTransactions : Row
  CreateTransaction : Row
  ShowTransaction : Row
  SetTransactionMetadata : Row
  DropTransactionMetadata : Row
  RevertTransaction : Row
  RunBulk : Row
  ListLogs : Row
  ExportLogs : Row
  ImportLogs : Row
  ListVolumes : Row
  AggregateBalances : Row
  ShowStats : Row

-- what a row looks at of the body: nothing, a JSON value, or the lines of an import
pub data BodyKind : Type 0 where
  Ignored : BodyKind
  JsonValue : BodyKind
  ImportLines : BodyKind

abbrev pub body_kind : Row → BodyKind
body_kind ListLedgers = Ignored
body_kind ShowLedger = Ignored
body_kind ShowAccount = Ignored
body_kind DropAccountMetadata = Ignored
body_kind ShowTransaction = Ignored
body_kind DropTransactionMetadata = Ignored
body_kind ExportLogs = Ignored
body_kind ShowStats = Ignored
body_kind ImportLogs = ImportLines
body_kind row = JsonValue

-- a segment of a pattern: a fixed word, or a name
pub data Segment : Type 0 where
  Word : List ℕ → Segment
  Named : Segment

pub record Route : Type 0 where
  pub method : List ℕ
  pub path : List Segment
  pub row : Row

abbrev pub route : List ℕ → List Segment → Row → Route
route method path row = record { method = method; path = path; row = row }

abbrev pub word : List ℕ → Segment
word = Word

abbrev pub get : List ℕ
get = codes "GET"

abbrev pub post : List ℕ
post = codes "POST"

abbrev pub delete : List ℕ
delete = codes "DELETE"

-- the paths below `/v2`, and below a ledger there
abbrev pub below_root : List Segment → List Segment
below_root path = word (codes "v2") ∷ path

abbrev pub below_ledger : List Segment → List Segment
below_ledger path = below_root (Named ∷ path)

abbrev pub accounts_path : List Segment
accounts_path = below_ledger (word (codes "accounts") ∷ [])

abbrev pub account_path : List Segment
account_path = below_ledger (word (codes "accounts") ∷ Named ∷ [])

abbrev pub account_metadata_path : List Segment
account_metadata_path = below_ledger (word (codes "accounts") ∷ Named ∷ word (codes "metadata") ∷ [])

abbrev pub account_name_path : List Segment
account_name_path = below_ledger (word (codes "accounts") ∷ Named ∷ word (codes "metadata") ∷ Named ∷ [])

abbrev pub transactions_path : List Segment
transactions_path = below_ledger (word (codes "transactions") ∷ [])

abbrev pub transaction_path : List Segment
transaction_path = below_ledger (word (codes "transactions") ∷ Named ∷ [])

abbrev pub transaction_metadata_path : List Segment
transaction_metadata_path = below_ledger (word (codes "transactions") ∷ Named ∷ word (codes "metadata") ∷ [])

abbrev pub transaction_name_path : List Segment
transaction_name_path = below_ledger (word (codes "transactions") ∷ Named ∷ word (codes "metadata") ∷ Named ∷ [])

abbrev pub revert_path : List Segment
revert_path = below_ledger (word (codes "transactions") ∷ Named ∷ word (codes "revert") ∷ [])

-- the table
abbrev pub routes : List Route
routes =
    route get (below_root []) ListLedgers
    ∷ route post (below_ledger []) MakeLedger
    ∷ route get (below_ledger []) ShowLedger
    ∷ route get accounts_path ListAccounts
    ∷ route get account_path ShowAccount
    ∷ route post account_metadata_path SetAccountMetadata
    ∷ route delete account_name_path DropAccountMetadata
    ∷ route get transactions_path ListTransactions
    ∷ route post transactions_path CreateTransaction
    ∷ route get transaction_path ShowTransaction
    ∷ route post transaction_metadata_path SetTransactionMetadata
    ∷ route delete transaction_name_path DropTransactionMetadata
    ∷ route post revert_path RevertTransaction
    ∷ route post (below_ledger (word (codes "_bulk") ∷ [])) RunBulk
    ∷ route get (below_ledger (word (codes "logs") ∷ [])) ListLogs
    ∷ route post (below_ledger (word (codes "logs") ∷ word (codes "export") ∷ [])) ExportLogs
    ∷ route post (below_ledger (word (codes "logs") ∷ word (codes "import") ∷ [])) ImportLogs
    ∷ route get (below_ledger (word (codes "volumes") ∷ [])) ListVolumes
    ∷ route get (below_ledger (word (codes "aggregate") ∷ word (codes "balances") ∷ [])) AggregateBalances
    ∷ route get (below_ledger (word (codes "stats") ∷ [])) ShowStats
    ∷ []

-- ---- matching

abbrev pub segment_fits : Segment → List ℕ → Bool
segment_fits (Word w) s = bytes_eq s w
segment_fits Named s = true

abbrev pub fits_path : List Segment → List (List ℕ) → Bool
fits_path [] [] = true
fits_path [] (s ∷ ss) = false
fits_path (p ∷ ps) [] = false
fits_path (p ∷ ps) (s ∷ ss) = segment_fits p s && fits_path ps ss

abbrev pub has_path : List (List ℕ) → Route → Bool
has_path segments r = fits_path r.path segments

abbrev pub has_method : List ℕ → Route → Bool
has_method method r = bytes_eq r.method method

-- the routes of a path; none where a segment is empty
abbrev pub routes_at : Option (List (List ℕ)) → List Route
routes_at None = []
routes_at (Some segments) = filter (has_path segments) routes

-- the segments in place of the pattern's names, in their order
abbrev pub name_at : Segment → List ℕ → List (List ℕ) → List (List ℕ)
name_at (Word w) s names = names
name_at Named s names = s ∷ names

abbrev pub names_in : List Segment → List (List ℕ) → List (List ℕ)
names_in [] ss = []
names_in (p ∷ ps) [] = []
names_in (p ∷ ps) (s ∷ ss) = name_at p s (names_in ps ss)
