use Rattle.std.proofs.Common.{◌++◌, ℕ, List, Option, ap, sym, subst}
use Rattle.std.specs.Option.{option_and_then}
use Rattle.std.specs.Prelude.{IfOk}
use Rattle.std.proofs.lemmas.Result.{IfOk-weaker}
use Rattle.lg_types.specs.Log.{log}
use Rattle.lg_views.specs.Writes.{written}
use Rattle.lg_weigh.specs.Weighing.{kept_in}
use Rattle.lg_listed.specs.Elements.{IsTried}
use Rattle.lg_listed.proofs.KeptLemmas.{new_tried}
use Rattle.lg_listed.proofs.elements.try_write.Goals as goal

pub returns-in-Some : goal.returns-in-Some
returns-in-Some g c =
    let h = log c.args.book.now.events c.args.ledger.now ++ c.args.earlier.now in
    subst (λ (o : Option (List ℕ)). IfOk c.try_keyed.result (λ t. IsTried h (written h o c.args.write.now c.args.now.now) t)) (sym c.in-Some.is) c.try_keyed.ensures

pub returns-in-None : goal.returns-in-None
returns-in-None g c =
    let h = log c.args.book.now.events c.args.ledger.now ++ c.args.earlier.now in
    IfOk-weaker c.try_new.result _ _ (λ t is. new_tried h c.args.key.now c.args.write.now c.args.now.now t (ap (option_and_then (kept_in h)) c.in-None.is) is) c.try_new.ensures
