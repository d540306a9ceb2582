use Rattle.std.proofs.Common.{◌+◌, None, Some, sym, ap, subst, ◌∙◌}
use Rattle.std.specs.Option.{option_copied}
use Rattle.std.specs.List.{filter}
use Rattle.lg_views.specs.Pages.{after_place}
use Rattle.lg_select.specs.Listing.{IsSuffix, from_item, first_of, left_of}
use Rattle.lg_select.proofs.Suffixes.{from_first, place_suffix, next_suffix}
use Rattle.lg_select.proofs.Gathering.{Gathers, start, more}
use Rattle.lg_select.proofs.paging.gather.Goals as goal

pub find_wanted-here-requires-clause-from : goal.find_wanted-here-requires-clause-from
find_wanted-here-requires-clause-from g c =
    let whole = g.L.Listing.items c.args.listing.now in
    let from = from_item g.L.Listing.is_after g.L.Listing.place whole in
    let after = option_copied c.as_ref.result in
    let suffix = place_suffix g.L.Listing.is_after g.L.Listing.place g.met.L.Listing.transitive after whole c.first.ensures.order.pairs in
    subst (λ o. IsSuffix whole (from o)) (sym c.first.ensures.item)
    (subst (IsSuffix whole) (sym (from_first g.L.Listing.is_after g.L.Listing.place whole c.first.ensures.order (after_place g.L.Listing.is_after after whole) suffix)) suffix)

pub loop-taken-init : goal.loop-taken-init
loop-taken-init g c =
    let whole = g.L.Listing.items c.args.listing.now in
    let passes = g.L.Listing.passes c.args.listing.now c.args.query.now.filter in
    let from = from_item g.L.Listing.is_after g.L.Listing.place whole in
    let found = c.find_wanted-here.ensures in
    subst (λ v. Gathers g.L.Listing.is_after g.L.Listing.place whole passes (g.L.Listing.shown c.args.listing.now) (left_of g.L.Listing.is_after (g.L.Listing.passes c.args.listing.now) c.args.query.now whole) 0 v None c.find_wanted-here.result)
    (sym c.new-views.ensures)
    (start g.L.Listing.is_after g.L.Listing.place whole passes (g.L.Listing.shown c.args.listing.now) c.first.ensures.order g.met.L.Listing.transitive c.args.query.now.after c.find_wanted-here.result
    found.suffix
    (found.same ∙ ap (λ o. filter passes (from o)) (c.first.ensures.item ∙ ap (λ a. first_of (after_place g.L.Listing.is_after a whole)) c.as_ref.ensures.value))
    found.passes)

pub find_wanted-here-requires-in-Some-clause-from : goal.find_wanted-here-requires-in-Some-clause-from
find_wanted-here-requires-in-Some-clause-from g c =
    let whole = g.L.Listing.items c.args.listing.now in
    let from = from_item g.L.Listing.is_after g.L.Listing.place whole in
    subst (λ o. IsSuffix whole (from o)) (sym c.next.ensures.item)
    (next_suffix g.L.Listing.is_after g.L.Listing.place whole c.next.ensures.order c.in-Some.item (subst (λ o. IsSuffix whole (from o)) c.in-Some.is c.loop-taken.invariant.suffix))

pub loop-taken-preserved : goal.loop-taken-preserved
loop-taken-preserved g c =
    let whole = g.L.Listing.items c.args.listing.now in
    let passes = g.L.Listing.passes c.args.listing.now c.args.query.now.filter in
    let from = from_item g.L.Listing.is_after g.L.Listing.place whole in
    let found = c.find_wanted-here-in-Some.ensures in
    let Held = Gathers g.L.Listing.is_after g.L.Listing.place whole passes (g.L.Listing.shown c.args.listing.now) (left_of g.L.Listing.is_after (g.L.Listing.passes c.args.listing.now) c.args.query.now whole) in
    subst (λ v. Held (c.loop-taken._taken + 1) v (Some c.in-Some.item) c.find_wanted-here-in-Some.result) (sym c.in_ok-push-in-Some.ensures.ok)
    (more g.L.Listing.is_after g.L.Listing.place whole passes (g.L.Listing.shown c.args.listing.now)
    (left_of g.L.Listing.is_after (g.L.Listing.passes c.args.listing.now) c.args.query.now whole)
    c.loop-taken._taken c.loop-taken.views c.loop-taken.last c.in-Some.item c.find_wanted-here-in-Some.result c.in_ok-view-in-Some.field-0 c.next.ensures.order
    (subst (λ o. Held c.loop-taken._taken c.loop-taken.views c.loop-taken.last o) c.in-Some.is c.loop-taken.invariant)
    found.suffix
    (found.same ∙ ap (λ o. filter passes (from o)) c.next.ensures.item)
    found.passes
    c.in_ok-view-in-Some.ensures)
