use Rattle.lg_types.proofs.StripeKnows.{knows-moves, knows-changes, knows-accounts, knows-keys, knows-references}
use Rattle.lg_types.proofs.laws.stripe_knows.Goals as goal

pub returns-clause-moves : goal.returns-clause-moves
returns-clause-moves c = knows-moves

pub returns-clause-changes : goal.returns-clause-changes
returns-clause-changes c = knows-changes

pub returns-clause-accounts : goal.returns-clause-accounts
returns-clause-accounts c = knows-accounts

pub returns-clause-keys : goal.returns-clause-keys
returns-clause-keys c = knows-keys

pub returns-clause-references : goal.returns-clause-references
returns-clause-references c = knows-references
