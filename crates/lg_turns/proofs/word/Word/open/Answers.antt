use Rattle.std.proofs.Common.{sym, ◌∙◌, arith}
use Rattle.lg_turns.proofs.Keeping.{opens}
use Rattle.lg_turns.proofs.word.Word.open.Goals as goal

pub fetch_add-requires : goal.fetch_add-requires
fetch_add-requires g c = (c.requires.table ∙ sym c.args.self.now.named, omega (arith, c.args.self.now.one), opens _ _ _ _ c.requires.pen c.requires.none c.requires.count c.requires.ends)
