use Rattle.std.proofs.Common.{◌<◌, ◌≤◌, List, ℕ, length, refl, sym, ap, ◌∙◌, arith}
use Rattle.lg_containers.specs.NameTable.{pairs_of, get, get-empty, len-pairs}
use Rattle.lg_meta.specs.MetaFold.{meta_at}
use Rattle.lg_meta.specs.Index.{places_in}
use Rattle.lg_meta.proofs.Cuts.{pair_at, places_at, none_there}
use Rattle.lg_meta.proofs.Histories.{partitioned_here, read_here, copied_more, copied_all}
use Rattle.lg_meta.proofs.history.MetaHistory.copy_at.Goals as goal

pub loop-place-init : goal.loop-place-init
loop-place-init c = λ q. ap (λ m. get m q) c.new-meta.ensures ∙ get-empty (List ℕ) q

pub unreachable-requires : goal.unreachable-requires
unreachable-requires c =
    let lt : c.loop-place.place < length (pairs_of c.self.inside.index) = omega (arith, c.len-place-end.ensures, len-pairs c.self.inside.index) in
    none_there c.self.inside.index c.loop-place.place lt c.in-None.ensures

pub latest-value-requires : goal.latest-value-requires
latest-value-requires c =
    let lt : c.loop-place.place < length (pairs_of c.self.inside.index) = omega (arith, c.len-place-end.ensures, len-pairs c.self.inside.index) in
    partitioned_here c.args.date c.bytes.result.now _ _ c.self.inside.applied _ c.deref.ensures.value
    (c.as_slice.ensures
    ∙ places_at c.self.inside.index c.loop-place.place (c.in-Some.name.now, c.in-Some.places.now) lt (sym c.in-Some.ensures)
    ∙ ap (λ q. places_in c.self.inside.index q) (sym c.bytes.ensures.value)
    ∙ c.self.invariant.complete c.bytes.result.now)
    c.self.invariant.rising

pub loop-place-preserved : goal.loop-place-preserved
loop-place-preserved c =
    let lt : c.loop-place.place < length (pairs_of c.self.inside.index) = omega (arith, c.len-place-end.ensures, len-pairs c.self.inside.index) in
    copied_more (pairs_of c.self.inside.index) c.loop-place.place (c.in-Some.name.now, c.in-Some.places.now) c.loop-place.meta c.put_copy.new.meta (meta_at c.args.date c.args.self.now.changes) _
    lt (pair_at c.self.inside.index c.loop-place.place (c.in-Some.name.now, c.in-Some.places.now) lt (sym c.in-Some.ensures)) c.loop-place.invariant
    (c.latest-value.ensures
    ∙ read_here c.args.date c.bytes.result.now _ _ c.self.inside.applied _ c.deref.ensures.value
    (c.as_slice.ensures
    ∙ places_at c.self.inside.index c.loop-place.place (c.in-Some.name.now, c.in-Some.places.now) lt (sym c.in-Some.ensures)
    ∙ ap (λ q. places_in c.self.inside.index q) (sym c.bytes.ensures.value)
    ∙ c.self.invariant.complete c.bytes.result.now)
    ∙ ap (λ h. get (meta_at c.args.date h.changes) c.bytes.result.now) c.self.view_is
    ∙ ap (λ q. get (meta_at c.args.date c.args.self.now.changes) q) c.bytes.ensures.value)
    c.in_ok-put_copy-in-Some.ensures

pub returns : goal.returns
returns c =
    let le : length (pairs_of c.self.inside.index) ≤ c.loop-place.place = omega (arith, c.len-place-end.ensures, len-pairs c.self.inside.index) in
    copied_all c.args.date _ _ c.self.inside.index c.self.inside.index c.loop-place.place c.loop-place.meta (meta_at c.args.date c.args.self.now.changes) c.self.invariant
    refl le (ap (λ h. meta_at c.args.date h.changes) (sym c.self.view_is)) c.loop-place.invariant
