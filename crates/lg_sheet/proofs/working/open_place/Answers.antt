use Rattle.lg_sheet.proofs.WorkingLemmas.{place_same, place_stays, place_open}
use Rattle.lg_sheet.proofs.working.open_place.Goals as goal

pub returns-clause-same : goal.returns-clause-same
returns-clause-same c =
    place_same c.open_asset.result c.args.working.now c.args.account.now c.args.asset.now c.new.result c.in_ok-assets.assets.now c.open_asset.new.assets c.new.ensures c.in_ok-assets.ensures.value
    c.open_asset.ensures.ok c.open_asset.ensures.err

pub returns-clause-stays : goal.returns-clause-stays
returns-clause-stays c =
    place_stays c.open_asset.result c.args.working.now c.args.account.now c.args.asset.now c.new.result c.in_ok-assets.assets.now c.open_asset.new.assets c.new.ensures c.in_ok-assets.ensures.value
    c.open_asset.ensures.ok c.open_asset.ensures.err

pub returns-clause-places : goal.returns-clause-places
returns-clause-places c =
    place_open c.open_asset.result c.args.working.now c.args.account.now c.args.asset.now c.in_ok-assets.assets.now c.open_asset.new.assets c.open_asset.ensures.ok
