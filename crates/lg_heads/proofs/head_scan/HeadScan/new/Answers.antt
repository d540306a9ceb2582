use Rattle.std.proofs.Common.{[], ◌∷◌, length, arith, length-append, ap}
use Rattle.httparse.specs.Grammar.{print_request}
use Rattle.lg_heads.proofs.HeadLines.{head_ends}
use Rattle.lg_heads.proofs.head_scan.HeadScan.new.Goals as goal

pub returns-clause-none : goal.returns-clause-none
returns-clause-none c bytes h rest reads =
    let ends = head_ends h reads.0 in
    omega (arith, ap length reads.1, ap length ends.splits, length-append (print_request h) rest, length-append ends.front (10 ∷ []))
