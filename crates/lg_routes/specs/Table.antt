-- The table of the routes, and where the names of a path stand.
use Rattle.std.specs.Prelude.{◌≡◌, ℕ, Bool, true, false, ◌==◌, ◌&&◌, ◌+◌, List, [], ◌∷◌, map, length, Option, Some, None, get_or}
use Rattle.std.specs.List.{find}
use Rattle.lg_readings.specs.Routes as views
use Rattle.lg_routes.specs.declared.table.Row.{Row}
use Rattle.lg_routes.specs.declared.table.Row.TheVariants as rows
use Rattle.lg_routes.specs.declared.table.Pattern.{Pattern}
use Rattle.lg_routes.specs.declared.table.Pattern.TheVariants.{Word, Named}
use Rattle.lg_routes.specs.declared.table.Route.{Route}
use Rattle.lg_routes.specs.declared.matching.RouteMatch.{RouteMatch}
use Rattle.lg_routes.specs.declared.matching.RouteMatch.TheVariants.{Found, NoMethod, NoPath}

abbrev pub row_seen : Row → views.Row
row_seen rows.ListLedgers = views.ListLedgers
row_seen rows.MakeLedger = views.MakeLedger
row_seen rows.ShowLedger = views.ShowLedger
row_seen rows.ListAccounts = views.ListAccounts
row_seen rows.ShowAccount = views.ShowAccount
row_seen rows.SetAccountMetadata = views.SetAccountMetadata
row_seen rows.DropAccountMetadata = views.DropAccountMetadata
row_seen rows.ListTransactions = views.ListTransactions
row_seen rows.CreateTransaction = views.CreateTransaction
row_seen rows.ShowTransaction = views.ShowTransaction
row_seen rows.SetTransactionMetadata = views.SetTransactionMetadata
row_seen rows.DropTransactionMetadata = views.DropTransactionMetadata
row_seen rows.RevertTransaction = views.RevertTransaction
row_seen rows.RunBulk = views.RunBulk
row_seen rows.ListLogs = views.ListLogs
row_seen rows.ExportLogs = views.ExportLogs
row_seen rows.ImportLogs = views.ImportLogs
row_seen rows.ListVolumes = views.ListVolumes
row_seen rows.AggregateBalances = views.AggregateBalances
row_seen rows.ShowStats = views.ShowStats

abbrev pub pattern_seen : Pattern → views.Segment
pattern_seen (Word w) = views.Word w.now
pattern_seen Named = views.Named

abbrev pub route_seen : Route → views.Route
route_seen r = views.route r.method.now (map pattern_seen r.path.now) (row_seen r.row)

-- the routes of a path, and among them the first one of the method
abbrev pub found_in : List views.Route → List ℕ → Option (Option views.Route)
found_in [] method = None
found_in (route ∷ more) method = Some (find (views.has_method method) (route ∷ more))

abbrev pub match_seen : RouteMatch → Option (Option views.Route)
match_seen NoPath = None
match_seen NoMethod = Some None
match_seen (Found route) = Some (Some (route_seen route))

-- how many segments the path of a row has
abbrev pub segments_of : views.Row → ℕ
segments_of views.ListLedgers = 1
segments_of views.MakeLedger = 2
segments_of views.ShowLedger = 2
segments_of views.ListAccounts = 3
segments_of views.ShowAccount = 4
segments_of views.SetAccountMetadata = 5
segments_of views.DropAccountMetadata = 6
segments_of views.ListTransactions = 3
segments_of views.CreateTransaction = 3
segments_of views.ShowTransaction = 4
segments_of views.SetTransactionMetadata = 5
segments_of views.DropTransactionMetadata = 6
segments_of views.RevertTransaction = 5
segments_of views.RunBulk = 3
segments_of views.ListLogs = 3
segments_of views.ExportLogs = 4
segments_of views.ImportLogs = 4
segments_of views.ListVolumes = 3
segments_of views.AggregateBalances = 4
segments_of views.ShowStats = 3

-- where the names stand: that of a ledger, that of an account or a transaction, and that of metadata
abbrev pub name_places : views.Row → List ℕ
name_places views.ListLedgers = []
name_places views.DropAccountMetadata = 1 ∷ 3 ∷ 5 ∷ []
name_places views.DropTransactionMetadata = 1 ∷ 3 ∷ 5 ∷ []
name_places views.ShowAccount = 1 ∷ 3 ∷ []
name_places views.SetAccountMetadata = 1 ∷ 3 ∷ []
name_places views.ShowTransaction = 1 ∷ 3 ∷ []
name_places views.SetTransactionMetadata = 1 ∷ 3 ∷ []
name_places views.RevertTransaction = 1 ∷ 3 ∷ []
name_places row = 1 ∷ []

abbrev pub segment_at : List (List ℕ) → ℕ → List ℕ
segment_at segments place = get_or segments place []

abbrev pub names_of : views.Row → List (List ℕ) → List (List ℕ)
names_of row segments = map (segment_at segments) (name_places row)

-- the segments are as many as the path of the row has, and the names of the path are those of the row
pub record HasNamesOf (route : views.Route) (segments : List (List ℕ)) : Type 0 where
  pub count : length segments ≡ segments_of route.row
  pub names : views.names_in route.path segments ≡ names_of route.row segments

abbrev pub MatchHasNames : RouteMatch → List (List ℕ) → Type 0
MatchHasNames NoPath segments = Unit {0}
MatchHasNames NoMethod segments = Unit {0}
MatchHasNames (Found route) segments = HasNamesOf (route_seen route) segments
