use Rattle.lg_views.proofs.Walks.{account_pages}
use Rattle.lg_views.proofs.laws.account_pages.Goals as goal

pub returns : goal.returns
returns c = account_pages
