use Rattle.std.proofs.Common.{ℕ, List, ap, ◌∙◌}
use Rattle.std.proofs.lemmas.Result.{IfOk-weaker}
use Rattle.lg_types.specs.declared.classes.Class.TheVariants.{Account as AccountClass}
use Rattle.lg_types.specs.Stripes.{stripe}
use Rattle.lg_types.specs.declared.queries.Read.TheVariants.{Account}
use Rattle.lg_views.specs.declared.replies.Content.{Content}
use Rattle.lg_views.specs.Outcome.{ToRead, outcome}
use Rattle.lg_views.specs.Replies.{plain}
use Rattle.lg_query.proofs.Asked.{not_there, read_there}
use Rattle.lg_query.proofs.Dates.{dates_rise}
use Rattle.lg_query.proofs.Ready.{own_part}
use Rattle.lg_query.proofs.answering.account_at.Goals as goal

pub returns-in-None : goal.returns-in-None
unfolding outcome
returns-in-None g c = IfOk-weaker c.no_ledger.result _ _ (λ reply is now. not_there c.args.book.now.events c.args.ledger.now (ToRead (Account c.args.address.now c.args.pit c.args.expand)) now c.in-None.ensures reply is) c.no_ledger.ensures

pub returns-in_ok-content_of-in-Some-shard : goal.returns-in_ok-content_of-in-Some-shard
unfolding outcome
returns-in_ok-content_of-in-Some-shard g c now =
    read_there c.args.book.now.events c.args.ledger.now (Account c.args.address.now c.args.pit c.args.expand) now c.in-Some.field-0 c.in-Some.ensures c.plain.result
    (c.plain.ensures ∙ ap (λ (content : Content). plain content)
    (c.in_ok-content_of-in-Some-shard.ensures c.args.book.now.events
    (own_part (g.S.Shards.lent c.args.shards.now) c.args.book.now.events c.args.ledger.now c.args.address.now c.args.pit c.args.expand c.stripe_of.result c.in-Some-shard.shard.now c.requires (c.stripe_of.ensures.value ∙ ap (λ (name : List ℕ). stripe AccountClass c.args.ledger.now name) c.bytes.ensures.value) c.in-Some-shard.ensures.lent)
    (dates_rise c.args.book.now.events c.args.ledger.now c.len-grown.ensures.grown)))
