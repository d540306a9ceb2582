use Rattle.std.proofs.Common.{◌≡◌, drop, length}
use Rattle.lg_codec.specs.PathParts.{base_path}
use Rattle.lg_codec.proofs.Onward.{PostingsGoOn}
use Rattle.lg_codec.proofs.transactions.postings_in.Given as goal

abbrev pub invariant-loop-place : goal.invariant-loop-place
invariant-loop-place l =
    (length l.postings ≡ l.place) × PostingsGoOn (base_path l.base) l.postings (drop l.place l.items) l.items
