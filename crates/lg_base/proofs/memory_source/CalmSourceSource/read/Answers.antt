use Rattle.std.proofs.Common.{ℕ, ◌+◌, List, ◌++◌, Some, drop, sym, ◌∙◌, ap}
use Rattle.lg_base.proofs.Slices.{left_splits}
use Rattle.lg_base.proofs.memory_source.CalmSourceSource.read.Goals as goal

pub returns-clause-bytes : goal.returns-clause-bytes
returns-clause-bytes c =
    let bytes : List ℕ = c.args.self.now.bytes.items in
    let from : ℕ = c.args.self.now.taken in
    let count : ℕ = c.give_piece-count.result in
    let copied = rw c.deref.ensures.value at c.give_piece-count.ensures.copied in
    ap (λ (l : List ℕ). Some l) (left_splits bytes from count ∙ ap (λ (l : List ℕ). l ++ drop (from + count) bytes) (sym copied))
