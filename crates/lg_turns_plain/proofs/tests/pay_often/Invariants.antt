use Rattle.std.proofs.Common.{◌≡◌, ◌+◌}
use Rattle.lg_turns_plain.proofs.tests.pay_often.Given as goal

abbrev pub invariant-loop-line : goal.invariant-loop-line
invariant-loop-line g l = (l.pass.table ≡ g.N.Name.table) × (l.pass.weight ≡ l.initial.pass.weight) × (l.pass.made ≡ l.initial.pass.made + l.line)
