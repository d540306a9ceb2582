use Rattle.lg_commit_volumes.proofs.MapLemmas.{put_opened}
use Rattle.lg_commit_volumes.proofs.maps.put_volumes.Goals as goal

pub returns : goal.returns
returns c =
    put_opened c.put_asset.result c.args.map.now c.args.account.now c.args.asset.now c.new.result c.in_ok-assets.assets.now c.put_asset.new.assets c.args.volumes c.new.ensures c.in_ok-assets.ensures.value c.put_asset.ensures
