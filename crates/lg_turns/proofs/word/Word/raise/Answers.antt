use Rattle.std.proofs.Common.{sym, ◌∙◌, arith}
use Rattle.lg_turns.proofs.Keeping.{raises}
use Rattle.lg_turns.proofs.word.Word.raise.Goals as goal

pub fetch_add-requires : goal.fetch_add-requires
fetch_add-requires g c = (c.requires.table ∙ sym c.args.self.now.named, omega (arith, c.args.self.now.one), raises _ _ _ _ _ c.requires.pen c.requires.weight c.requires.some c.requires.count c.requires.ends c.requires.room)
