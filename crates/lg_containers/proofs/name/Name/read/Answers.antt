use Rattle.std.proofs.Common.{arith, sym, ◌∙◌, refl}
use Rattle.lg_containers.proofs.Reading.{runs-more, runs-all, fault_at, fault_at_end}
use Rattle.lg_containers.proofs.name.Name.read.Goals as goal

pub returns-in-None-clause-bad : goal.returns-in-None-clause-bad
returns-in-None-clause-bad g c =
    fault_at g.G.Grammar.Names g.G.Grammar.step g.G.Grammar.ends g.G.Grammar.first g.met.G.Grammar.accepts g.met.G.Grammar.lives
    c.args.bytes.now c.loop-place.place _ _ (omega arith) refl c.loop-place.invariant (sym c.in-None.ensures)

pub loop-place-preserved : goal.loop-place-preserved
loop-place-preserved g c =
    runs-more g.G.Grammar.step g.G.Grammar.first c.args.bytes.now c.loop-place.place _ _ (omega arith) c.loop-place.invariant (sym c.in-Some.ensures)

pub returns-then-not-is_end-clause-bad : goal.returns-then-not-is_end-clause-bad
returns-then-not-is_end-clause-bad g c =
    fault_at_end g.G.Grammar.Names g.G.Grammar.step g.G.Grammar.ends g.G.Grammar.first g.met.G.Grammar.accepts g.met.G.Grammar.lives
    c.args.bytes.now _ (runs-all g.G.Grammar.step g.G.Grammar.first c.args.bytes.now c.loop-place.place _ (omega arith) c.loop-place.invariant) (sym c.is_end.ensures ∙ c.if-not-is_end.true)
