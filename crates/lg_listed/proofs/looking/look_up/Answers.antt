use Rattle.std.proofs.Common.{◌≡◌, ◌∙◌, length, sym, arith}
use Rattle.lg_types.specs.Known.{transactions}
use Rattle.lg_types.specs.Log.{log, is_there}
use Rattle.lg_decide.proofs.LogCounts.{transactions_within}
use Rattle.std.proofs.lemmas.List.{length-append}
use Rattle.lg_listed.proofs.AppendLemmas.{counted}
use Rattle.lg_listed.proofs.looking.look_up.Goals as goal

pub count_with-transactions-requires : goal.count_with-transactions-requires
count_with-transactions-requires c =
    let g = log c.args.book.now.events c.args.ledger.now in
    let few = transactions_within g in
    let both = length-append g c.args.earlier.now in
    let room = c.requires.room in
    let own : c.in-Some.logged ≡ length (transactions g) = counted (is_there c.args.book.now.events c.args.ledger.now) _ _ (sym c.transactions.ensures ∙ c.in-Some.is) in
    omega (arith, few, both, room, own)
