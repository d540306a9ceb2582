use Rattle.std.proofs.Common.{◌++◌, List, sym, subst, ap, ◌∙◌}
use Rattle.std.proofs.lemmas.Bool.{ltb-true}
use Rattle.lg_types.specs.declared.records.Entry.{Entry}
use Rattle.lg_types.specs.Log.{log}
use Rattle.lg_views.specs.Bulk.{element_written}
use Rattle.lg_views.specs.Import.{FollowsFrom}
use Rattle.lg_listed.specs.Elements.{IsTried}
use Rattle.lg_bulk.specs.Gathering.{gathered_with}
use Rattle.lg_bulk.proofs.BatchLemmas.{element-faultless}
use Rattle.lg_bulk.proofs.ElementLemmas.{kept-gathered}
use Rattle.lg_bulk.proofs.TriedLemmas.{is-appended}
use Rattle.lg_bulk.proofs.elements.take_element.Goals as goal

pub try_element-requires : goal.try_element-requires
try_element-requires g c = record {
  there = c.requires.ground.there;
  parts = record { each = λ k wanted. c.requires.ground.parts k (ltb-true k 16 wanted) };
  follows = subst (FollowsFrom (log c.args.book.now.events c.args.ledger.now)) (sym c.as_slice-earlier.ensures) c.requires.gathered.follows;
}

pub take_entry-requires : goal.take_entry-requires
take_entry-requires g c =
    let h = log c.args.book.now.events c.args.ledger.now ++ c.args.gathered.now.entries in
    let w = element_written h c.args.element.now c.args.now.now in
    let tried = subst (λ (es : List Entry). IsTried (log c.args.book.now.events c.args.ledger.now ++ es) (element_written (log c.args.book.now.events c.args.ledger.now ++ es) c.args.element.now c.args.now.now) c.in_ok-tried.tried) c.as_slice-earlier.ensures c.in_ok-tried.ensures in
    let appends = is-appended h w c.in-Appended.entry (subst (IsTried h w) c.in-Appended.is tried) in (
      c.args.book.now.events,
      record { ground = c.requires.ground; follows = c.requires.gathered.follows; next = element-faultless h c.args.element.now c.args.now.now c.in-Appended.entry appends },
    )

pub returns-in_ok-push-in-Kept-clause-gathered : goal.returns-in_ok-push-in-Kept-clause-gathered
returns-in_ok-push-in-Kept-clause-gathered g c =
    let h = log c.args.book.now.events c.args.ledger.now ++ c.args.gathered.now.entries in
    let w = element_written h c.args.element.now c.args.now.now in
    let tried = subst (λ (es : List Entry). IsTried (log c.args.book.now.events c.args.ledger.now ++ es) (element_written (log c.args.book.now.events c.args.ledger.now ++ es) c.args.element.now c.args.now.now) c.in_ok-tried.tried) c.as_slice-earlier.ensures c.in_ok-tried.ensures in
    kept-gathered h c.args.element.now c.args.gathered.now w c.in-Kept.entry c.in_ok-content-in-Kept.content c.good_item.result c.push.new.self
    (subst (IsTried h w) c.in-Kept.is tried) c.in_ok-content-in-Kept.ensures c.good_item.ensures c.in_ok-push-in-Kept.ensures.ok

pub returns-in_ok-take_entry-in-Appended-clause-gathered : goal.returns-in_ok-take_entry-in-Appended-clause-gathered
returns-in_ok-take_entry-in-Appended-clause-gathered g c =
    let h = log c.args.book.now.events c.args.ledger.now ++ c.args.gathered.now.entries in
    let w = element_written h c.args.element.now c.args.now.now in
    let tried = subst (λ (es : List Entry). IsTried (log c.args.book.now.events c.args.ledger.now ++ es) (element_written (log c.args.book.now.events c.args.ledger.now ++ es) c.args.element.now c.args.now.now) c.in_ok-tried.tried) c.as_slice-earlier.ensures c.in_ok-tried.ensures in
    let appends = is-appended h w c.in-Appended.entry (subst (IsTried h w) c.in-Appended.is tried) in
    c.in_ok-take_entry-in-Appended.ensures c.args.book.now.events
    (record { ground = c.requires.ground; follows = c.requires.gathered.follows; next = element-faultless h c.args.element.now c.args.now.now c.in-Appended.entry appends })
    ∙ ap (gathered_with h c.args.element.now c.args.gathered.now) (sym appends)
