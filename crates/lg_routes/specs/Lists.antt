-- What a request of a list asks for.
use Rattle.std.specs.Prelude.{ℕ, List}
use Rattle.lg_types.specs.declared.calls.Call.{Call}
use Rattle.lg_types.specs.declared.calls.Call.TheVariants as call
use Rattle.lg_types.specs.declared.filters.ListKind.{ListKind}
use Rattle.lg_types.specs.declared.filters.ListKind.TheVariants as kind
use Rattle.lg_types.specs.declared.queries.Query.{Query}
use Rattle.lg_readings.specs.Answers.{Answer, gives, ◌>>=◌}
use Rattle.lg_readings.specs.Requests.{Body, LedgersQuery, ItemsQuery, LogsQuery, VolumesQuery}
use Rattle.lg_readings.specs.Targets.{Parameter}

-- the lists that have pages
abbrev pub HasPages : ListKind → Type 0
HasPages kind.Aggregate = ⊥
HasPages k = Unit {0}

-- the query of a list, of the parameters and the body
abbrev pub QueryOf : ListKind → List Parameter → Body → Answer Query → Type 0
QueryOf kind.Ledgers ps body = LedgersQuery ps
QueryOf kind.Accounts ps body = ItemsQuery kind.Accounts ps body
QueryOf kind.Transactions ps body = ItemsQuery kind.Transactions ps body
QueryOf kind.Logs ps body = LogsQuery ps body
QueryOf kind.Volumes ps body = VolumesQuery ps body
QueryOf kind.Aggregate ps body = λ r. ⊥

abbrev pub LedgersCall : List Parameter → Answer Call → Type 0
LedgersCall ps = LedgersQuery ps >>= (λ q. gives (call.Ledgers q))
