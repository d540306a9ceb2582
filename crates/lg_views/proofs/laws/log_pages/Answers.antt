use Rattle.lg_views.proofs.Walks.{entry_pages, transaction_pages}
use Rattle.lg_views.proofs.laws.log_pages.Goals as goal

pub returns-clause-entries : goal.returns-clause-entries
returns-clause-entries c = entry_pages

pub returns-clause-transactions : goal.returns-clause-transactions
returns-clause-transactions c = transaction_pages
