use Rattle.std.proofs.Common.{◌++◌, ◌∙◌, [], ap}
use Rattle.std.specs.Option.{option_copied}
use Rattle.std.proofs.lemmas.List.{append-nil}
use Rattle.std.proofs.lemmas.Result.{IfOk-weaker}
use Rattle.lg_sheet.specs.Trials.{MayTry, HaveTotals}
use Rattle.lg_types.specs.Log.{log}
use Rattle.lg_types.specs.Moves.{moves}
use Rattle.lg_weigh.specs.Totals.{lends_account}
use Rattle.lg_weigh.specs.Trials.{named_postings, write_trial_from}
use Rattle.lg_listed.specs.Amounts.{total_after}
use Rattle.lg_listed.proofs.TotalLemmas.{may_try, have_totals, of_same}
use Rattle.lg_listed.proofs.trial.try_postings.Goals as goal

pub try_write-requires : goal.try_write-requires
try_write-requires g c =
    let ps = named_postings c.args.write.now (option_copied c.args.known) in
    of_same (λ lent ledger earlier. MayTry (lends_account lent ledger) (total_after lent ledger earlier) c.new-sheet.result ps)
    (g.S.Shards.lent c.args.lent.now) _ c.args.ledger.now _ c.args.earlier.now _
    (ap g.S.Shards.lent c.new-balances.ensures.lent) c.new-balances.ensures.ledger c.new-balances.ensures.earlier
    (may_try (g.S.Shards.lent c.args.lent.now) c.args.ledger.now c.args.earlier.now c.requires.lent c.requires.within c.new-sheet.result c.new-sheet.ensures ps)

pub returns : goal.returns
returns g c =
    let ps = named_postings c.args.write.now (option_copied c.args.known) in
    IfOk-weaker c.try_write.result _ _
    (λ refused h events parts.
    let all = moves (log events c.args.ledger.now ++ c.args.earlier.now) in
    h all []
    (of_same (λ lent ledger earlier. HaveTotals (total_after lent ledger earlier) ps all)
    (g.S.Shards.lent c.args.lent.now) _ c.args.ledger.now _ c.args.earlier.now _
    (ap g.S.Shards.lent c.new-balances.ensures.lent) c.new-balances.ensures.ledger c.new-balances.ensures.earlier
    (have_totals (g.S.Shards.lent c.args.lent.now) c.args.ledger.now c.args.earlier.now events parts ps))
    c.new-sheet.ensures
    ∙ ap (λ ms. write_trial_from ms c.args.write.now (option_copied c.args.known)) (append-nil all))
    c.try_write.ensures.told
