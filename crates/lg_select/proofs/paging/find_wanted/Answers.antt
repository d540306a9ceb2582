use Rattle.std.proofs.Common.{◌<◌, length, Some, sym, ap, subst, ◌∙◌}
use Rattle.std.specs.List.{filter}
use Rattle.lg_select.specs.Listing.{IsSuffix, from_item}
use Rattle.lg_select.proofs.Suffixes.{next_suffix, nearer, skipped}
use Rattle.lg_select.proofs.paging.find_wanted.Goals as goal

pub finding-smaller : goal.finding-smaller
finding-smaller g c =
    let whole = g.L.Listing.items c.args.listing.now in
    let from = from_item g.L.Listing.is_after g.L.Listing.place whole in
    let s = subst (λ o. IsSuffix whole (from o)) c.in-Some.is c.finding.invariant.0 in
    subst (λ o. length (from c.next-here.result) < length (from o)) (sym c.in-Some.is)
    (subst (λ o. length (from o) < length (from (Some c.in-Some.item))) (sym c.next-here.ensures.item)
    (nearer g.L.Listing.is_after g.L.Listing.place whole c.next-here.ensures.order c.in-Some.item s))

pub finding-preserved : goal.finding-preserved
finding-preserved g c =
    let whole = g.L.Listing.items c.args.listing.now in
    let from = from_item g.L.Listing.is_after g.L.Listing.place whole in
    let wanted = filter (g.L.Listing.passes c.args.listing.now c.args.wanted.now) in
    let s = subst (λ o. IsSuffix whole (from o)) c.in-Some.is c.finding.invariant.0 in (
      subst (λ o. IsSuffix whole (from o)) (sym c.next-here.ensures.item) (next_suffix g.L.Listing.is_after g.L.Listing.place whole c.next-here.ensures.order c.in-Some.item s),
      ap (λ o. wanted (from o)) c.next-here.ensures.item
          ∙ skipped g.L.Listing.is_after g.L.Listing.place whole c.next-here.ensures.order (g.L.Listing.passes c.args.listing.now c.args.wanted.now) c.in-Some.item (sym c.is_wanted.ensures ∙ c.if-is_wanted.false) s
          ∙ ap (λ o. wanted (from o)) (sym c.in-Some.is)
          ∙ c.finding.invariant.1,
    )
