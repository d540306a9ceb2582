use Rattle.lg_listed.proofs.FollowLemmas.{appended_faultless, appended_follows}
use Rattle.lg_listed.proofs.laws.appended_follows.Goals as goal

pub returns : goal.returns
returns c = record { faultless = appended_faultless; follows = appended_follows }
