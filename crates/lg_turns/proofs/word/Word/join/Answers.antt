use Rattle.std.proofs.Common.{sym, ◌∙◌, arith}
use Rattle.lg_turns.proofs.Keeping.{joins}
use Rattle.lg_turns.proofs.word.Word.join.Goals as goal

pub join_seat-requires : goal.join_seat-requires
join_seat-requires g c = (c.requires.table.0 ∙ sym c.args.self.now.named, c.requires.table.1 ∙ sym c.args.self.now.named, c.requires.slots, omega (arith, c.args.self.now.one), joins _ _ _ _)
