use Rattle.std.proofs.Common.{ℕ, List, Some, refl, sym, subst, ◌∙◌}
use Rattle.std.proofs.lemmas.Result.{IfOk-weaker}
use Rattle.lg_shard.specs.Shown.{ListsExactly, is_known}
use Rattle.lg_shard.proofs.HeldLemmas.{known-shown, unknown}
use Rattle.lg_shard.proofs.NamedLemmas.{accounts-members, accounts-order, nothing-listed}
use Rattle.lg_shard.proofs.shard.Shard.addresses.Goals as goal

pub returns-in-Some : goal.returns-in-Some
returns-in-Some c =
    let x = c.self.inside in let accounts = c.in-Some.part.now.accounts in
    IfOk-weaker c.named_accounts.result _ _
    (λ names h. subst (λ (l : List (List ℕ)). ListsExactly l (is_known c.args.self.now.shares c.args.ledger.now)) (sym h)
    (record { order = accounts-order accounts; members = λ a. accounts-members accounts a ∙ known-shown x.stripe x.events.items x.applied x.ledgers c.self.invariant _ c.self.view_is c.args.ledger.now c.bytes.result.now c.bytes.ensures.value (Some c.in-Some.part.now) c.in-Some.ensures a }))
    c.named_accounts.ensures

pub returns-in-None : goal.returns-in-None
returns-in-None c =
    let x = c.self.inside in
    nothing-listed (is_known c.args.self.now.shares c.args.ledger.now) _ c.new.ensures (λ a. unknown x.stripe x.events.items x.applied x.ledgers c.self.invariant _ c.self.view_is c.args.ledger.now c.bytes.result.now c.bytes.ensures.value _ c.in-None.ensures refl a)
