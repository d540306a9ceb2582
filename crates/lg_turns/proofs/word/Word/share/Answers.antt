use Rattle.std.proofs.Common.{sym, ◌∙◌, arith}
use Rattle.lg_turns.proofs.Keeping.{splits, cuts-share}
use Rattle.lg_turns.proofs.word.Word.share.Goals as goal

pub split_seat-requires : goal.split_seat-requires
split_seat-requires g c = (c.requires.table ∙ sym c.args.self.now.named, omega (arith, c.args.self.now.one), splits _ _ _ _ (cuts-share _ c.requires.weight))
