use Rattle.std.proofs.Common.{◌++◌, ◌∙◌, sym, w64}
use Rattle.std.proofs.lemmas.Int.{to_z-of_z}
use Rattle.std.proofs.lemmas.Result.{IfOk-weaker}
use Rattle.lg_types.specs.Known.{date}
use Rattle.lg_types.specs.Log.{log}
use Rattle.lg_views.specs.Writes.{marked}
use Rattle.lg_listed.proofs.KeptLemmas.{denied_tried, granted_tried}
use Rattle.lg_listed.proofs.new_entries.try_new.Goals as goal

pub returns-in-Denied : goal.returns-in-Denied
returns-in-Denied g c =
    let h = log c.args.book.now.events c.args.ledger.now ++ c.args.earlier.now in
    let day = to_z-of_z w64 c.date_for-date.result (record { sfits = c.date_for-date.type_inv }) ∙ c.date_for-date.ensures in
    denied_tried h (date h c.args.now.now) _ (marked c.args.key.now c.args.write.now) c.args.write.now c.in-Denied.refusal (sym day) (sym c.in_ok-decided.ensures ∙ c.in-Denied.is)

pub returns-in-Granted : goal.returns-in-Granted
returns-in-Granted g c =
    let h = log c.args.book.now.events c.args.ledger.now ++ c.args.earlier.now in
    let day = to_z-of_z w64 c.date_for-date.result (record { sfits = c.date_for-date.type_inv }) ∙ c.date_for-date.ensures in
    IfOk-weaker c.append.result _ _
    (λ t is. granted_tried h (date h c.args.now.now) _ (marked c.args.key.now c.args.write.now) c.args.write.now c.in-Granted.body t (sym day) (sym c.in_ok-decided.ensures ∙ c.in-Granted.is) is)
    c.append.ensures
