use Rattle.std.proofs.Common.{◌++◌, refl, sym, subst}
use Rattle.std.specs.Prelude.{IfOk}
use Rattle.std.proofs.lemmas.Result.{IfOk-weaker}
use Rattle.lg_types.specs.declared.calls.ElementWrite.{ElementWrite}
use Rattle.lg_types.specs.Log.{log}
use Rattle.lg_views.specs.declared.decided.Written.TheVariants.{Refuses}
use Rattle.lg_views.specs.Bulk.{try_write}
use Rattle.lg_listed.specs.Elements.{IsTried}
use Rattle.lg_listed.proofs.TotalLemmas.{all_within}
use Rattle.lg_listed.proofs.elements.try_element.Goals as goal

pub try_write-requires : goal.try_write-requires
try_write-requires g c = record {
  there = c.requires.there;
  grown = c.len-count.ensures.grown;
  parts = c.requires.parts;
  follows = c.requires.follows;
  within = all_within (g.S.Shards.lent c.args.lent.now) c.args.ledger.now c.args.earlier.now c.args.book.now.events c.requires.parts c.totals_within.ensures c.requires.follows;
}

pub returns-in-Good : goal.returns-in-Good
returns-in-Good g c =
    let h = log c.args.book.now.events c.args.ledger.now ++ c.args.earlier.now in
    subst (λ (w : ElementWrite). IfOk c.try_write.result (λ t. IsTried h (try_write h c.args.element.now.key w c.args.now.now) t)) (sym c.in-Good.is) c.try_write.ensures

pub returns-in-Bad : goal.returns-in-Bad
returns-in-Bad g c =
    let h = log c.args.book.now.events c.args.ledger.now ++ c.args.earlier.now in
    subst (λ (w : ElementWrite). IfOk c.refuse_unreadable.result (λ t. IsTried h (try_write h c.args.element.now.key w c.args.now.now) t)) (sym c.in-Bad.is)
    (IfOk-weaker c.refuse_unreadable.result _ _ (λ t is. subst (IsTried h (Refuses c.in-Bad.refusal)) (sym is) refl) c.refuse_unreadable.ensures)
