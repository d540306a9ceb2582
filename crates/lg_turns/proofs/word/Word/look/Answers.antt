use Rattle.std.proofs.Common.{sym, ◌∙◌, arith}
use Rattle.lg_turns.proofs.Keeping.{loads}
use Rattle.lg_turns.proofs.word.Word.look.Goals as goal

pub load-requires : goal.load-requires
load-requires g c = (c.requires ∙ sym c.args.self.now.named, omega (arith, c.args.self.now.one), loads _ _ _)
