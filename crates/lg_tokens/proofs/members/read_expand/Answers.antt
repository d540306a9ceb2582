use Rattle.std.proofs.Common.{◌∙◌}
use Rattle.lg_tokens.proofs.Choices.{expand_absent}
use Rattle.lg_tokens.proofs.Records.{same_expand}
use Rattle.lg_tokens.proofs.members.read_expand.Goals as goal

pub returns-in-None-after_word-2 : goal.returns-in-None-after_word-2
returns-in-None-after_word-2 c volumes effective more other e =
    let p = expand_absent volumes effective c.args.bytes.now more c.in-None.ensures c.in-None-after_word.ensures c.in-None-after_word-2.ensures e in
    (c.expand-in-None-after_word-2.ensures ∙ same_expand volumes effective p.0 p.1, p.2)
