use Rattle.std.proofs.Common.{Some, [], refl, ◌∙◌}
use Rattle.lg_containers.specs.NameTable.{pairs_of}
use Rattle.lg_shard.specs.Named.{is_named, names_where}
use Rattle.lg_shard.specs.Shown.{is_known}
use Rattle.lg_shard.proofs.HeldLemmas.{known-shown, unknown}
use Rattle.lg_shard.proofs.NamedLemmas.{accounts-members, accounts-order, nothing-listed}
use Rattle.lg_shard.proofs.shard.Shard.account_after.Goals as goal

pub returns-in-Some : goal.returns-in-Some
returns-in-Some c =
    let x = c.self.inside in let accounts = c.in-Some.part.now.accounts in
    record {
      names = names_where is_named (pairs_of accounts);
      exactly = record {
        order = accounts-order accounts;
        members = λ a. accounts-members accounts a ∙ known-shown x.stripe x.events.items x.applied x.ledgers c.self.invariant _ c.self.view_is c.args.ledger.now c.bytes.result.now c.bytes.ensures.value (Some c.in-Some.part.now) c.in-Some.ensures a;
      };
      first = c.next_named.ensures;
    }

pub returns-in-None : goal.returns-in-None
returns-in-None c =
    let x = c.self.inside in
    record {
      names = [];
      exactly = nothing-listed (is_known c.args.self.now.shares c.args.ledger.now) [] refl (λ a. unknown x.stripe x.events.items x.applied x.ledgers c.self.invariant _ c.self.view_is c.args.ledger.now c.bytes.result.now c.bytes.ensures.value _ c.in-None.ensures refl a);
      first = refl;
    }
