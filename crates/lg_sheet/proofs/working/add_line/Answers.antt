use Rattle.std.proofs.Common.{◌∙◌, ap₂, cond}
use Rattle.lg_sheet.specs.Lines.{posting_of}
use Rattle.lg_sheet.specs.Working.{worked}
use Rattle.lg_sheet.proofs.LineLemmas.{added, is_pair, more_out, more_in}
use Rattle.lg_sheet.proofs.working.add_line.Goals as goal

pub returns-clause-booked : goal.returns-clause-booked
returns-clause-booked c =
    let p = posting_of c.args.line.now in
    added p (worked c.args.working.now) (worked c.set_volumes.new.working) (worked c.set_volumes-2.new.working)
    (λ b y. c.set_volumes.ensures.set b y ∙ ap₂ (λ v n. cond (is_pair p.source p.asset b y) (more_out n v) (worked c.args.working.now b y)) c.volumes_of-source.ensures c.value.ensures.value)
    (λ b y. c.set_volumes-2.ensures.set b y ∙ ap₂ (λ v n. cond (is_pair p.destination p.asset b y) (more_in n v) (worked c.set_volumes.new.working b y)) c.volumes_of-destination.ensures c.value-2.ensures.value)
