use Rattle.std.proofs.Common.{◌≡◌, ◌-◌, ◌+◌, ◌++◌, List, length, get_or, take, sym, ap, subst, ◌∙◌, arith}
use Rattle.lg_types.specs.declared.records.Event.{Event}
use Rattle.lg_types.specs.Parts.{Share, shares_of}
use Rattle.lg_shard.specs.Held.{all_shown}
use Rattle.lg_shard.specs.State.{all_shares}
use Rattle.lg_shard.specs.Ties.{LedgersTied}
use Rattle.lg_shard.proofs.HeldLemmas.{shares-last}
use Rattle.lg_shard.proofs.events.release_events.Goals as goal

pub loop-count-preserved : goal.loop-count-preserved
loop-count-preserved c shares tied =
    let s = c.args.stripe in let events = c.args.events.now in let d = c.index-events-events.result in
    let at = length events - 1 - c.loop-count.count in let left = length events - (c.loop-count.count + 1) in
    let same : left ≡ at = omega arith in
    c.release_event.ensures (get_or events at d).place shares (all_shares s (all_shown (take left events)))
    (subst (λ (l : List Share). LedgersTied c.loop-count.ledgers shares l)
    (shares-last s events (length events - c.loop-count.count) left d (omega arith) (omega arith) ∙ ap (λ n. all_shares s (all_shown (take left events)) ++ shares_of s (get_or events n d).place (get_or events n d).event) same
    ∙ ap (λ (event : Event). all_shares s (all_shown (take left events)) ++ shares_of s (get_or events at d).place event) (sym c.get.ensures))
    (c.loop-count.invariant shares tied))

pub returns : goal.returns
returns c shares tied =
    let none : length c.args.events.now - c.loop-count.count ≡ 0 = omega arith in
    subst (λ n. LedgersTied c.loop-count.ledgers shares (all_shares c.args.stripe (all_shown (take n c.args.events.now)))) none (c.loop-count.invariant shares tied)
