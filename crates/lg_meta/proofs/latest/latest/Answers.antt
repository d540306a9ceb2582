use Rattle.std.specs.List.Sorted.{IsPartitionPoint}
use Rattle.std.proofs.Common.{◌≡◌, ◌-◌, ◌<◌, suc, true, false, length, None, take, filter, slice_get, ap, sym, ◌∙◌, arith, rules}
use Rattle.std.proofs.lemmas.Fn.{always_returns_same}
use Rattle.lg_meta.specs.Index.{is_there_by, value_there, last_value}
use Rattle.lg_meta.proofs.Readings.{last_value-take}
use Rattle.lg_meta.proofs.Rising.{filter-front}
use Rattle.lg_meta.proofs.latest.latest.Goals as goal

pub returns-then-count-eq0 : goal.returns-then-count-eq0
returns-then-count-eq0 c =
    let facts : IsPartitionPoint (λ place. is_there_by c.args.date.now (slice_get c.args.applied.now place) ≡ true) (λ place. is_there_by c.args.date.now (slice_get c.args.applied.now place) ≡ false) c.args.places.now c.partition_point-count.result =
    c.partition_point-count.ensures.partitioned (λ place. is_there_by c.args.date.now (slice_get c.args.applied.now place)) (always_returns_same _ _ _ (λ a r f called. search rules)) c.requires in
    let front : filter (λ place. is_there_by c.args.date.now (slice_get c.args.applied.now place)) c.args.places.now ≡ take c.partition_point-count.result c.args.places.now =
    filter-front (λ place. is_there_by c.args.date.now (slice_get c.args.applied.now place)) c.args.places.now c.partition_point-count.result c.partition_point-count.ensures.bound facts.0 facts.1 in
    sym (ap (last_value (λ place. value_there c.args.name.now (slice_get c.args.applied.now place)) None) (front ∙ ap (λ n. take n c.args.places.now) c.if-count-eq0.true))

pub returns-else-count-eq0 : goal.returns-else-count-eq0
returns-else-count-eq0 c =
    let facts : IsPartitionPoint (λ place. is_there_by c.args.date.now (slice_get c.args.applied.now place) ≡ true) (λ place. is_there_by c.args.date.now (slice_get c.args.applied.now place) ≡ false) c.args.places.now c.partition_point-count.result =
    c.partition_point-count.ensures.partitioned (λ place. is_there_by c.args.date.now (slice_get c.args.applied.now place)) (always_returns_same _ _ _ (λ a r f called. search rules)) c.requires in
    let front : filter (λ place. is_there_by c.args.date.now (slice_get c.args.applied.now place)) c.args.places.now ≡ take c.partition_point-count.result c.args.places.now =
    filter-front (λ place. is_there_by c.args.date.now (slice_get c.args.applied.now place)) c.args.places.now c.partition_point-count.result c.partition_point-count.ensures.bound facts.0 facts.1 in
    let lt : c.partition_point-count.result - 1 < length c.args.places.now = omega (arith, c.partition_point-count.ensures.bound) in
    let one : suc (c.partition_point-count.result - 1) ≡ c.partition_point-count.result = omega arith in
    c.value_at.ensures
    ∙ sym (last_value-take (λ place. value_there c.args.name.now (slice_get c.args.applied.now place)) None c.args.places.now (c.partition_point-count.result - 1) lt)
    ∙ ap (λ n. last_value (λ place. value_there c.args.name.now (slice_get c.args.applied.now place)) None (take n c.args.places.now)) one
    ∙ sym (ap (last_value (λ place. value_there c.args.name.now (slice_get c.args.applied.now place)) None) front)
