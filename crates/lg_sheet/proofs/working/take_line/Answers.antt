use Rattle.std.proofs.Common.{◌∙◌, ap₂, cond}
use Rattle.lg_sheet.specs.Lines.{posting_of}
use Rattle.lg_sheet.specs.Working.{worked}
use Rattle.lg_sheet.proofs.LineLemmas.{taken, is_pair, less_out, less_in}
use Rattle.lg_sheet.proofs.working.take_line.Goals as goal

pub returns-clause-taken : goal.returns-clause-taken
returns-clause-taken c =
    let p = posting_of c.args.line.now in
    taken p (worked c.args.working.now) (worked c.set_volumes.new.working) (worked c.set_volumes-2.new.working) c.requires.output c.requires.input
    (λ b y. c.set_volumes.ensures.set b y ∙ ap₂ (λ v n. cond (is_pair p.source p.asset b y) (less_out n v) (worked c.args.working.now b y)) c.volumes_of-source.ensures c.value.ensures.value)
    (λ b y. c.set_volumes-2.ensures.set b y ∙ ap₂ (λ v n. cond (is_pair p.destination p.asset b y) (less_in n v) (worked c.set_volumes.new.working b y)) c.volumes_of-destination.ensures c.value-2.ensures.value)
