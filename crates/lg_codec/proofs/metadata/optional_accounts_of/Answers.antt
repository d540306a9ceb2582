use Rattle.lg_codec.proofs.metadata.optional_accounts_of.Goals as goal

pub returns-in-Some : goal.returns-in-Some
returns-in-Some c = rw c.in-Some.is c.accounts_of.ensures
