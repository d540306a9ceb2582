use Rattle.std.proofs.Common.{◌≡◌, drop}
use Rattle.lg_book.specs.FirstVolumes.{no_volumes}
use Rattle.lg_commit_volumes.specs.Maps.{HasOnly, put_all}
use Rattle.lg_commit_volumes.proofs.AroundLemmas.{read}
use Rattle.lg_commit_volumes.proofs.first.filled_maps.Given as goal

abbrev pub invariant-loop-posting : goal.invariant-loop-posting
invariant-loop-posting g l = (put_all (read (g.S.Shards.lent l.shards) l.ledger l.earlier l.transaction) l.maps (drop l.posting-index l.transaction.postings) ≡ put_all (read (g.S.Shards.lent l.shards) l.ledger l.earlier l.transaction) no_volumes l.transaction.postings) × HasOnly (read (g.S.Shards.lent l.shards) l.ledger l.earlier l.transaction) l.maps
