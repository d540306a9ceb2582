use Rattle.std.proofs.Common.{sym, ◌∙◌, arith}
use Rattle.lg_turns.proofs.Keeping.{splits, cuts-idle}
use Rattle.lg_turns.proofs.word.Word.idle.Goals as goal

pub split_seat-requires : goal.split_seat-requires
split_seat-requires g c = (c.requires ∙ sym c.args.self.now.named, omega (arith, c.args.self.now.one), splits _ _ _ _ (cuts-idle _))
