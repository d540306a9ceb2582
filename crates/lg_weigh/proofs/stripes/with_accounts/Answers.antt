use Rattle.std.specs.List.{flat_map}
use Rattle.lg_types.specs.Known.{posting_accounts}
use Rattle.lg_turns.specs.Stripes.{has}
use Rattle.lg_weigh.proofs.StripeLemmas.{accounts_apart}
use Rattle.lg_weigh.proofs.stripes.with_accounts.Goals as goal

pub returns-in-Create : goal.returns-in-Create
returns-in-Create c = λ k.
    let given = rw (c.entries.ensures) at (c.with_given.ensures k) in
    let posted = rw (c.as_slice.ensures.value) at (c.with_postings.ensures k) in
    rw (c.in-Create.is) (accounts_apart k c.args.ledger.now (flat_map posting_accounts c.in-Create.postings) c.in-Create.accounts (has c.args.set k) (has c.with_postings.result k) (has c.with_given.result k) posted given)
