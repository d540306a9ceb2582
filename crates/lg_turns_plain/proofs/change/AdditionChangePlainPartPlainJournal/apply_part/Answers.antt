use Rattle.std.proofs.Common.{take, ap, ◌∙◌}
use Rattle.std.proofs.Math.Seq.{take-length}
use Rattle.lg_turns_plain.specs.Keeping.{kept_shares}
use Rattle.lg_turns_plain.proofs.Growing.{kept_more}
use Rattle.lg_turns_plain.proofs.change.AdditionChangePlainPartPlainJournal.apply_part.Goals as goal

pub returns-clause-shares : goal.returns-clause-shares
returns-clause-shares c = λ es len same.
    let part = c.args.part.now in
    ap (λ n. kept_shares part.stripe (take n part.kept.items)) (c.len-part.ensures ∙ part.kept.ok.0)
    ∙ ap (kept_shares part.stripe) (take-length part.kept.items ∙ c.requires)
    ∙ kept_more part.stripe (take part.applied part.kept.items) es (record { place = c.args.self.now.place; event = c.args.self.now.event }) len same
