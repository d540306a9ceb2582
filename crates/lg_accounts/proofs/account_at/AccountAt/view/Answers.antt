use Rattle.std.proofs.Common.{Bool, ap, ◌∙◌}
use Rattle.lg_types.specs.declared.moves.Move.{Move}
use Rattle.lg_types.specs.Log.{log}
use Rattle.lg_types.specs.Moves.{moves}
use Rattle.lg_views.specs.Pairs.{AssetMap}
use Rattle.lg_views.specs.Views.{account_volumes, shown_if}
use Rattle.lg_accounts.proofs.Known.{metadata_known, volumes_known, by_insertion, by_effect}
use Rattle.lg_accounts.proofs.account_at.AccountAt.view.Goals as goal

pub returns : goal.returns
returns g c events known =
    let metadata = c.in_ok-metadata.ensures ∙ metadata_known c.args.self.now.shard.now.shares events c.args.self.now.ledger.now c.args.self.now.address.now known c.metadata_by_changes.ensures c.args.self.now.pit in
    let volumes =
    c.in_ok-volumes_if.ensures
    ∙ ap (λ (m : AssetMap). shown_if c.args.expand.volumes m)
    (volumes_known c.args.self.now.shard.now.shares events c.args.self.now.ledger.now c.args.self.now.address.now known _ c.args.assets.now c.requires.exactly
    ∙ ap (λ (test : Move → Bool). account_volumes (moves (log events c.args.self.now.ledger.now)) test c.args.self.now.address.now) (by_insertion c.args.self.now.pit)) in
    let effective =
    c.in_ok-volumes_if-2.ensures
    ∙ ap (λ (m : AssetMap). shown_if c.args.expand.effective m)
    (volumes_known c.args.self.now.shard.now.shares events c.args.self.now.ledger.now c.args.self.now.address.now known _ c.args.assets.now c.requires.exactly
    ∙ ap (λ (test : Move → Bool). account_volumes (moves (log events c.args.self.now.ledger.now)) test c.args.self.now.address.now) (by_effect c.args.self.now.pit)) in
    λ i. record { address = c.in_ok-copy.ensures i; metadata = metadata i; volumes = volumes i; effective_volumes = effective i }
