use Rattle.std.proofs.Common.{ap₂, ◌∙◌}
use Rattle.std.proofs.lemmas.Result.{on_ok_weaker}
use Rattle.lg_containers.specs.NameTable.{insert}
use Rattle.lg_book.proofs.ledgers.prepare_made.Goals as goal

pub returns-clause-ok : goal.returns-clause-ok
returns-clause-ok c = on_ok_weaker c.put.result (λ made. made ∙ ap₂ (insert c.args.ledgers.now) c.in_ok-copy.ensures c.new.ensures) c.put.ensures.ok
