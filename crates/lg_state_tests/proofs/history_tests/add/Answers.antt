use Rattle.std.proofs.Common.{Some, w64, to_z, of_z, ap, ◌∙◌}
use Rattle.std.proofs.lemmas.Int.{to_z-of_z}
use Rattle.lg_meta.specs.MetaFold.{last_date}
use Rattle.lg_state_tests.proofs.Dates.{last_date-push}
use Rattle.lg_state_tests.proofs.history_tests.add.Goals as goal

pub returns-clause-last : goal.returns-clause-last
returns-clause-last c = ap (λ h. last_date h.changes) c.apply.ensures ∙ last_date-push c.prepare.new.self.changes (record { date = to_z w64 (of_z w64 c.args.date); change = c.args.change }) ∙ ap Some (to_z-of_z _ c.args.date c.ranges.date)
