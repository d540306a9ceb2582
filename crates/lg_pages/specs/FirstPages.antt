-- What a request without a cursor asks for: the first page of a list.
use Rattle.std.specs.Prelude.{List, None, codes}
use Rattle.lg_types.specs.declared.filters.Filter.{All}
use Rattle.lg_types.specs.declared.filters.ListKind.{ListKind}
use Rattle.lg_types.specs.declared.filters.ListKind.TheVariants as kind
use Rattle.lg_types.specs.declared.queries.Query.{Query}
use Rattle.lg_readings.specs.Answers.{Answer, known, gives, ◌>>=◌}
use Rattle.lg_readings.specs.Parameters.{MomentParameter, truth_parameter, PageSize, GroupBy, expand_parameter, no_order}
use Rattle.lg_readings.specs.Requests.{Body, FilterBody, first_page, no_expand, no_span}
use Rattle.lg_readings.specs.Targets.{Parameter}

abbrev pub FirstLedgers : List Parameter → Answer Query → Type 0
FirstLedgers ps =
    PageSize ps >>= (λ size.
    known (no_order ps) >>= (λ _.
    gives (first_page All None size no_expand no_span)))

abbrev pub FirstItems : ListKind → List Parameter → Body → Answer Query → Type 0
FirstItems kind ps body =
    PageSize ps >>= (λ size.
    MomentParameter (codes "pit") ps >>= (λ pit.
    known (expand_parameter ps) >>= (λ expand.
    known (no_order ps) >>= (λ _.
    FilterBody kind body >>= (λ filter.
    gives (first_page filter pit size expand no_span))))))

abbrev pub FirstLogs : List Parameter → Body → Answer Query → Type 0
FirstLogs ps body =
    PageSize ps >>= (λ size.
    MomentParameter (codes "pit") ps >>= (λ pit.
    known (no_order ps) >>= (λ _.
    FilterBody kind.Logs body >>= (λ filter.
    gives (first_page filter pit size no_expand no_span)))))

abbrev pub FirstVolumes : List Parameter → Body → Answer Query → Type 0
FirstVolumes ps body =
    PageSize ps >>= (λ size.
    MomentParameter (codes "startTime") ps >>= (λ from.
    MomentParameter (codes "endTime") ps >>= (λ to.
    known (truth_parameter (codes "insertionDate") ps) >>= (λ by_insertion.
    GroupBy ps >>= (λ group.
    known (no_order ps) >>= (λ _.
    FilterBody kind.Volumes body >>= (λ filter.
    gives (first_page filter None size no_expand (record { from = from; to = to; by_insertion = by_insertion; group = group })))))))))
