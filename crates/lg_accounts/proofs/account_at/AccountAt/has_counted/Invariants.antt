use Rattle.std.proofs.Common.{◌≡◌, drop}
use Rattle.std.specs.Prelude.{None}
use Rattle.std.specs.List.{list_any}
use Rattle.lg_types.specs.Tally.{is_between}
use Rattle.lg_accounts.specs.Volumes.{is_counted_in}
use Rattle.lg_accounts.proofs.account_at.AccountAt.has_counted.Given as goal

abbrev pub invariant-loop-asset : goal.invariant-loop-asset
invariant-loop-asset g l =
    list_any (is_counted_in l.self.shard.now.shares l.self.ledger.now l.self.address.now (is_between None l.self.pit l.by_insertion)) (drop l.asset-index l.assets)
    ≡ list_any (is_counted_in l.self.shard.now.shares l.self.ledger.now l.self.address.now (is_between None l.self.pit l.by_insertion)) l.assets
