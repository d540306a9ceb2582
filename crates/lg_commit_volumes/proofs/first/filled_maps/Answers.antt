use Rattle.std.proofs.Common.{◌≤◌, ◌∙◌, List, length, subst}
use Rattle.lg_types.specs.declared.records.Posting.{Posting}
use Rattle.lg_book.specs.FirstVolumes.{no_volumes}
use Rattle.lg_commit_volumes.specs.Lent.{IsLent, IsPairWithin, moves_before}
use Rattle.lg_commit_volumes.specs.Maps.{AreTotals, put_all}
use Rattle.lg_commit_volumes.proofs.AroundLemmas.{read, first}
use Rattle.lg_commit_volumes.proofs.HeldLemmas.{only_first, only_both}
use Rattle.lg_commit_volumes.proofs.MapLemmas.{postings_next, postings_done}
use Rattle.lg_commit_volumes.proofs.SideLemmas.{account_sides, pair_sides, item_of}
use Rattle.lg_commit_volumes.proofs.TotalLemmas.{own_within}
use Rattle.lg_commit_volumes.proofs.first.filled_maps.Goals as goal

pub put_posting-requires-clause-lent_source : goal.put_posting-requires-clause-lent_source
put_posting-requires-clause-lent_source g c =
    let at = item_of c.as_slice-posting-items.result.now c.args.transaction.now.postings c.loop-posting.posting-index c.posting-item.result c.as_slice-posting-items.ensures.value c.loop-posting-test.true c.posting-item.is in
    (account_sides (IsLent (g.S.Shards.lent c.args.shards.now) c.args.ledger.now) c.args.transaction.now.postings c.loop-posting.posting-index c.posting-item.result c.requires.lent at.0 at.1).0

pub put_posting-requires-clause-lent_destination : goal.put_posting-requires-clause-lent_destination
put_posting-requires-clause-lent_destination g c =
    let at = item_of c.as_slice-posting-items.result.now c.args.transaction.now.postings c.loop-posting.posting-index c.posting-item.result c.as_slice-posting-items.ensures.value c.loop-posting-test.true c.posting-item.is in
    (account_sides (IsLent (g.S.Shards.lent c.args.shards.now) c.args.ledger.now) c.args.transaction.now.postings c.loop-posting.posting-index c.posting-item.result c.requires.lent at.0 at.1).1

pub put_posting-requires-clause-source : goal.put_posting-requires-clause-source
put_posting-requires-clause-source g c =
    let at = item_of c.as_slice-posting-items.result.now c.args.transaction.now.postings c.loop-posting.posting-index c.posting-item.result c.as_slice-posting-items.ensures.value c.loop-posting-test.true c.posting-item.is in
    (pair_sides (IsPairWithin (g.S.Shards.lent c.args.shards.now) c.args.ledger.now c.args.earlier.now c.args.transaction.now) c.args.transaction.now.postings c.loop-posting.posting-index c.posting-item.result c.requires.limit at.0 at.1).0

pub put_posting-requires-clause-destination : goal.put_posting-requires-clause-destination
put_posting-requires-clause-destination g c =
    let at = item_of c.as_slice-posting-items.result.now c.args.transaction.now.postings c.loop-posting.posting-index c.posting-item.result c.as_slice-posting-items.ensures.value c.loop-posting-test.true c.posting-item.is in
    (pair_sides (IsPairWithin (g.S.Shards.lent c.args.shards.now) c.args.ledger.now c.args.earlier.now c.args.transaction.now) c.args.transaction.now.postings c.loop-posting.posting-index c.posting-item.result c.requires.limit at.0 at.1).1

pub posting_totals-requires : goal.posting_totals-requires
posting_totals-requires g c =
    own_within (moves_before (g.S.Shards.lent c.args.shards.now) c.args.ledger.now c.args.earlier.now) c.args.transaction.now.postings c.as_slice.result.now c.as_slice.ensures.value c.requires.limit

pub put_posting-requires-clause-totals : goal.put_posting-requires-clause-totals
put_posting-requires-clause-totals g c = subst (AreTotals c.in_ok-totals.totals) c.as_slice.ensures.value c.in_ok-totals.ensures

pub put_posting-requires-clause-held : goal.put_posting-requires-clause-held
put_posting-requires-clause-held g c = c.loop-posting.invariant.1

pub loop-posting-init : goal.loop-posting-init
loop-posting-init g c = only_first (read (g.S.Shards.lent c.args.shards.now) c.args.ledger.now c.args.earlier.now c.args.transaction.now) c.new-maps.result c.args.transaction.now.postings c.new-maps.ensures

pub loop-posting-preserved : goal.loop-posting-preserved
loop-posting-preserved g c =
    let at = item_of c.as_slice-posting-items.result.now c.args.transaction.now.postings c.loop-posting.posting-index c.posting-item.result c.as_slice-posting-items.ensures.value c.loop-posting-test.true c.posting-item.is in (
      postings_next (read (g.S.Shards.lent c.args.shards.now) c.args.ledger.now c.args.earlier.now c.args.transaction.now) c.args.transaction.now.postings c.loop-posting.posting-index c.posting-item.result c.loop-posting.maps c.put_posting.new.maps (put_all (read (g.S.Shards.lent c.args.shards.now) c.args.ledger.now c.args.earlier.now c.args.transaction.now) no_volumes c.args.transaction.now.postings)
          at.0 at.1 c.in_ok-put_posting.ensures c.loop-posting.invariant.0,
      only_both (read (g.S.Shards.lent c.args.shards.now) c.args.ledger.now c.args.earlier.now c.args.transaction.now) c.loop-posting.maps c.put_posting.new.maps c.posting-item.result c.in_ok-put_posting.ensures c.loop-posting.invariant.1,
    )

pub returns : goal.returns
returns g c = λ events e made parts ids.
    postings_done (read (g.S.Shards.lent c.args.shards.now) c.args.ledger.now c.args.earlier.now c.args.transaction.now) c.args.transaction.now.postings c.loop-posting.posting-index c.loop-posting.maps _
    (subst (λ (ps : List Posting). length ps ≤ c.loop-posting.posting-index) c.as_slice-posting-items.ensures.value c.loop-posting-test.false) c.loop-posting.invariant.0
    ∙ first (g.S.Shards.lent c.args.shards.now) c.args.ledger.now c.args.earlier.now c.args.transaction.now events e made parts ids
