use Rattle.std.proofs.Common.{◌≡◌, drop}
use Rattle.std.specs.Prelude.{None}
use Rattle.std.specs.List.{filter}
use Rattle.lg_types.specs.Tally.{is_between}
use Rattle.lg_views.specs.Pairs.{with_assets}
use Rattle.lg_accounts.specs.Volumes.{counted_in, is_counted_in, volumes_in}
use Rattle.lg_accounts.proofs.account_at.AccountAt.volumes.Given as goal

abbrev pub invariant-loop-asset : goal.invariant-loop-asset
invariant-loop-asset g l =
    with_assets (counted_in l.self.shard.now.shares l.self.ledger.now l.self.address.now (is_between None l.self.pit l.by_insertion)) l.volumes
    (filter (is_counted_in l.self.shard.now.shares l.self.ledger.now l.self.address.now (is_between None l.self.pit l.by_insertion)) (drop l.asset-index l.assets))
    ≡ volumes_in l.self.shard.now.shares l.self.ledger.now l.self.address.now (is_between None l.self.pit l.by_insertion) l.assets
