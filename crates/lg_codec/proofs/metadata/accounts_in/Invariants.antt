use Rattle.std.proofs.Common.{drop, codes}
use Rattle.lg_codec.specs.PathParts.{base_path}
use Rattle.lg_readings.specs.Paths.{below}
use Rattle.lg_codec.proofs.Onward.{AccountsGoOn}
use Rattle.lg_codec.proofs.metadata.accounts_in.Given as goal

abbrev pub invariant-loop-member : goal.invariant-loop-member
invariant-loop-member l =
    AccountsGoOn (below (base_path l.base) (codes "accountMetadata")) l.accounts (drop l.member-index l.members) l.members
