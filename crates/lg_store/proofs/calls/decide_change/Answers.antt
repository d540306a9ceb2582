use Rattle.std.proofs.Common.{ap, ◌∙◌}
use Rattle.std.specs.Prelude.{Option}
use Rattle.lg_types.specs.declared.records.Transaction.{Transaction}
use Rattle.lg_weigh.specs.Weighing.{weighed}
use Rattle.lg_store.proofs.LentLists.{every_lent, every_part}
use Rattle.lg_store.proofs.calls.decide_change.Goals as goal

pub weigh-requires : goal.weigh-requires
weigh-requires c = every_lent c.args.book.now.events c.args.shards.now c.args.call.now _ c.requires.shards

pub decide-requires-clause-parts : goal.decide-requires-clause-parts
decide-requires-clause-parts c = every_part c.args.book.now.events c.args.shards.now c.args.call.now _ c.requires.shards

pub decide-requires-clause-weighed : goal.decide-requires-clause-weighed
decide-requires-clause-weighed c =
    c.in_ok-weighed.ensures c.args.book.now.events (every_part c.args.book.now.events c.args.shards.now c.args.call.now _ c.requires.shards)
    ∙ ap (λ (known : Option Transaction). weighed c.args.book.now.events c.args.call.now known) c.known_transaction.ensures
