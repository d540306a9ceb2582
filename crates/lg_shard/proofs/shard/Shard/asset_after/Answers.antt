use Rattle.std.proofs.Common.{Some, [], refl}
use Rattle.lg_shard.specs.Named.{assets_at}
use Rattle.lg_shard.specs.Shown.{is_moved}
use Rattle.lg_shard.proofs.HeldLemmas.{assets-shown, no-assets}
use Rattle.lg_shard.proofs.NamedLemmas.{assets-order, nothing-listed}
use Rattle.lg_shard.proofs.shard.Shard.asset_after.Goals as goal

pub returns-in-Some : goal.returns-in-Some
returns-in-Some c =
    let x = c.self.inside in let account = c.args.account.now in
    record {
      names = assets_at c.in-Some.part.now.accounts account;
      exactly = record {
        order = assets-order c.in-Some.part.now.accounts account;
        members = λ a. assets-shown x.stripe x.events.items x.applied x.ledgers c.self.invariant _ c.self.view_is c.args.ledger.now c.bytes.result.now c.bytes.ensures.value (Some c.in-Some.part.now) c.in-Some.ensures account a;
      };
      first = c.next_moved.ensures;
    }

pub returns-in-None : goal.returns-in-None
returns-in-None c =
    let x = c.self.inside in
    record {
      names = [];
      exactly = nothing-listed (is_moved c.args.self.now.shares c.args.ledger.now c.args.account.now) [] refl (λ a. no-assets x.stripe x.events.items x.applied x.ledgers c.self.invariant _ c.self.view_is c.args.ledger.now c.bytes.result.now c.bytes.ensures.value _ c.in-None.ensures refl c.args.account.now a);
      first = refl;
    }
