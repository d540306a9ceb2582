use Rattle.std.proofs.Common.{◌∙◌, [], ap}
use Rattle.std.specs.Option.{option_copied}
use Rattle.std.proofs.lemmas.List.{append-nil}
use Rattle.std.proofs.lemmas.Result.{IfOk-weaker}
use Rattle.lg_types.specs.Log.{log}
use Rattle.lg_types.specs.Moves.{moves}
use Rattle.lg_weigh.specs.Trials.{write_trial_from}
use Rattle.lg_weigh.proofs.TotalLemmas.{may_try, have_totals}
use Rattle.lg_weigh.proofs.weighing.weigh_postings.Goals as goal

pub try_write-requires : goal.try_write-requires
try_write-requires g c =
    rw (c.new-balances.ensures.lent, c.new-balances.ensures.ledger)
    (may_try (g.S.Shards.lent c.args.lent.now) c.args.ledger.now c.args.write.now (option_copied c.args.known) c.new-sheet.result c.requires c.shards_within.ensures c.new-sheet.ensures)

pub returns : goal.returns
returns g c =
    IfOk-weaker c.try_write.result _ _
    (λ refused h events parts.
    h (moves (log events c.args.ledger.now)) []
    (rw (c.new-balances.ensures.lent, c.new-balances.ensures.ledger)
    (have_totals (g.S.Shards.lent c.args.lent.now) c.args.ledger.now c.args.write.now (option_copied c.args.known) events parts))
    c.new-sheet.ensures
    ∙ ap (λ ms. write_trial_from ms c.args.write.now (option_copied c.args.known)) (append-nil (moves (log events c.args.ledger.now))))
    c.try_write.ensures.told
