use Rattle.std.proofs.Common.{length, ap, ◌∙◌}
use Rattle.std.proofs.lemmas.Iterator.{YieldsList-from_zip}
use Rattle.std.proofs.lemmas.Iterator.Adapters.{YieldsList-from_vec}
use Rattle.std.proofs.lemmas.Iterator.Consumers.{YieldsList-at, YieldsList-end}
use Rattle.lg_bulk.proofs.PlanLemmas.{planned-whole}
use Rattle.lg_bulk.proofs.planning.plan_gathered.Goals as goal

pub returns : goal.returns
returns c =
    let pairs =
    YieldsList-from_zip
    (YieldsList-at c.zip-entry-items.ensures.first (YieldsList-from_vec c.args.gathered.entries (c.into_iter.ensures.rest ∙ c.into_vec.ensures) (c.into_iter.ensures.len ∙ c.into_vec.result.ok.0 ∙ ap length c.into_vec.ensures)))
    (YieldsList-from_vec c.args.gathered.volumes (c.zip-entry-items.ensures.second.0 ∙ c.into_vec-2.ensures) (c.zip-entry-items.ensures.second.1 ∙ c.into_vec-2.result.ok.0 ∙ ap length c.into_vec-2.ensures)) in
    let whole = YieldsList-end (YieldsList-at c.into_iter-entry-iterator.ensures.into_iter_gives pairs) c.loop-entry.yielded c.loop-entry.entry-iterator c.loop-entry.yielded_by c.next.result c.next.new.self c.in-None.is c.next.ensures.steps in
    c.loop-entry.invariant ∙ planned-whole c.args.place c.args.ledger.now c.args.gathered c.loop-entry.yielded whole.0 c.requires
