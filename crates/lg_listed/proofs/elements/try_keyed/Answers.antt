use Rattle.std.proofs.Common.{◌++◌, ◌∙◌, ℕ, List, Option, Some, ap, sym, subst}
use Rattle.std.specs.Option.{option_and_then}
use Rattle.std.proofs.lemmas.Result.{IfOk-weaker}
use Rattle.lg_types.specs.Log.{log}
use Rattle.lg_views.specs.Writes.{written}
use Rattle.lg_weigh.specs.Weighing.{kept_in}
use Rattle.lg_listed.specs.Elements.{IsTried}
use Rattle.lg_listed.proofs.EntryLemmas.{all_numbered}
use Rattle.lg_listed.proofs.KeptLemmas.{kept_tried, new_tried}
use Rattle.lg_listed.proofs.TotalLemmas.{parts_lent}
use Rattle.lg_listed.proofs.elements.try_keyed.Goals as goal

pub find_kept-requires : goal.find_kept-requires
find_kept-requires g c = parts_lent (g.S.Shards.lent c.args.lent.now) c.args.book.now.events c.requires.ground.parts

pub returns-in-Some : goal.returns-in-Some
returns-in-Some g c =
    let h = log c.args.book.now.events c.args.ledger.now ++ c.args.earlier.now in
    let kept = sym c.in-Some.is ∙ c.find_kept.ensures c.args.book.now.events c.requires.ground.parts in
    IfOk-weaker c.answer_kept.result _ _
    (λ t is.
    subst (IsTried h (written h (Some c.args.own.now) c.args.write.now c.args.now.now)) (sym is)
    (kept_tried h (all_numbered c.args.book.now.events c.args.ledger.now c.args.earlier.now c.requires.ground.grown c.requires.ground.follows) c.args.own.now c.args.write.now c.args.now.now c.in-Some.kept kept))
    c.answer_kept.ensures

pub returns-in-None : goal.returns-in-None
returns-in-None g c =
    let h = log c.args.book.now.events c.args.ledger.now ++ c.args.earlier.now in
    let none = ap (option_and_then (kept_in h)) c.requires.own ∙ sym (c.find_kept.ensures c.args.book.now.events c.requires.ground.parts) ∙ c.in-None.is in
    IfOk-weaker c.try_new.result _ _
    (λ t is.
    subst (λ (o : Option (List ℕ)). IsTried h (written h o c.args.write.now c.args.now.now) t) c.requires.own
    (new_tried h c.args.key.now c.args.write.now c.args.now.now t none is))
    c.try_new.ensures
