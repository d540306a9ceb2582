use Rattle.std.specs.Prelude.{None}
use Rattle.std.proofs.Common.{ap}
use Rattle.std.specs.List.{filter}
use Rattle.lg_types.specs.Tally.{is_between}
use Rattle.lg_views.specs.Pairs.{AssetMap, with_assets}
use Rattle.lg_accounts.specs.Volumes.{counted_in, is_counted_in}
use Rattle.lg_accounts.proofs.AssetMaps.{assets_next, assets_done, put_same}
use Rattle.lg_accounts.proofs.account_at.AccountAt.volumes.Goals as goal

pub loop-asset-init : goal.loop-asset-init
loop-asset-init g c =
    ap (λ (m : AssetMap). with_assets (counted_in c.args.self.now.shard.now.shares c.args.self.now.ledger.now c.args.self.now.address.now (is_between None c.args.self.now.pit c.args.by_insertion)) m
    (filter (is_counted_in c.args.self.now.shard.now.shares c.args.self.now.ledger.now c.args.self.now.address.now (is_between None c.args.self.now.pit c.args.by_insertion)) c.args.assets.now)) c.new-volumes.ensures

pub loop-asset-preserved : goal.loop-asset-preserved
loop-asset-preserved g c =
    assets_next (counted_in c.args.self.now.shard.now.shares c.args.self.now.ledger.now c.args.self.now.address.now (is_between None c.args.self.now.pit c.args.by_insertion))
    (is_counted_in c.args.self.now.shard.now.shares c.args.self.now.ledger.now c.args.self.now.address.now (is_between None c.args.self.now.pit c.args.by_insertion))
    c.args.assets.now c.loop-asset.asset-index c.asset-item.result c.loop-asset.volumes c.put_counted.new.volumes _
    c.loop-asset-test.true c.asset-item.is
    (put_same c.put_counted.new.volumes c.loop-asset.volumes c.asset-item.result c.counted-counted.result _ c.in_ok-put_counted.ensures c.counted-counted.ensures)
    c.loop-asset.invariant

pub returns : goal.returns
returns g c =
    assets_done (counted_in c.args.self.now.shard.now.shares c.args.self.now.ledger.now c.args.self.now.address.now (is_between None c.args.self.now.pit c.args.by_insertion))
    (is_counted_in c.args.self.now.shard.now.shares c.args.self.now.ledger.now c.args.self.now.address.now (is_between None c.args.self.now.pit c.args.by_insertion))
    c.args.assets.now c.loop-asset.asset-index c.loop-asset.volumes _ c.loop-asset-test.false c.loop-asset.invariant
