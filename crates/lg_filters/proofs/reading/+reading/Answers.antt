use Rattle.std.proofs.Common.{◌≡◌, ℕ, length, sym, ap, ◌∙◌, arith, subst}
use Rattle.std.specs.Prelude.{List, Ok, Err, ◌+◌}
use Rattle.lg_json.specs.declared.json.Member.{Member}
use Rattle.lg_json.specs.declared.json.Json.{Json}
use Rattle.lg_json.specs.Tree.{tree}
use Rattle.lg_types.specs.declared.filters.Filter.{Filter}
use Rattle.lg_readings.specs.Paths.{Path, at_item}
use Rattle.lg_codec.specs.Results.{Reads}
use Rattle.lg_codec.specs.Seen.{items_seen}
use Rattle.lg_filters.specs.AtPaths.{FilterAt, ItemsAt}
use Rattle.lg_filters.proofs.WholeReadings.{ItemsSoFar, object_read, several_read, both_read, either_read, not_read, leaf_read, items_stop, items_more, is_name, is_no_name}
use Rattle.lg_filters.proofs.reading.+reading.Goals as goal

pub read_object-returns-in_ok-operator-in-len1 : goal.read_object-returns-in_ok-operator-in-len1
read_object-returns-in_ok-operator-in-len1 t c =
    let same = c.as_slice.ensures in
    let long = ap (λ (ms : List Member). length ms) same in
    let a = c.in-len1.len_at_least in
    let b = c.in-len1.len_below in
    object_read c.args.kind c.args.path.now _ c.args.object.now c.member-item.result _ (omega (arith, long)) (rw same at c.member-item.is) c.in_ok-operator-in-len1.ensures c.read_operator.ensures

pub read_object-returns-in-len2-up : goal.read_object-returns-in-len2-up
read_object-returns-in-len2-up t c =
    let long = ap (λ (ms : List Member). length ms) c.as_slice.ensures in
    let a = c.in-len2-up.len_at_least in
    several_read c.args.kind c.args.path.now c.args.object.now _ (omega (arith, long)) c.bad.ensures

pub read_operator-returns-then-same_bytes : goal.read_operator-returns-then-same_bytes
read_operator-returns-then-same_bytes t c =
    both_read c.args.kind c.args.path.now c.args.member.now.name _ _ (is_name _ _ _ _ c.bytes.ensures.value c.same_bytes.ensures c.if-same_bytes.true) c.in_ok-filters.ensures

pub read_operator-returns-then-same_bytes-2 : goal.read_operator-returns-then-same_bytes-2
read_operator-returns-then-same_bytes-2 t c =
    either_read c.args.kind c.args.path.now c.args.member.now.name _ _ (is_name _ _ _ _ c.bytes-2.ensures.value c.same_bytes-2.ensures c.if-same_bytes-2.true) c.in_ok-filters-2.ensures

pub read_operator-returns-then-same_bytes-3 : goal.read_operator-returns-then-same_bytes-3
read_operator-returns-then-same_bytes-3 t c =
    let made = not_read c.args.kind c.args.path.now c.args.member.now.name _ _ (is_name _ _ _ _ c.bytes-3.ensures.value c.same_bytes-3.ensures c.if-same_bytes-3.true) c.in_ok-filter.ensures in
    rw c.in_ok-new.ensures made

pub read_operator-returns : goal.read_operator-returns
read_operator-returns t c =
    leaf_read c.args.kind c.args.path.now c.args.member.now.name _ _
    (is_no_name _ _ _ _ c.bytes.ensures.value c.same_bytes.ensures c.if-same_bytes.false)
    (is_no_name _ _ _ _ c.bytes-2.ensures.value c.same_bytes-2.ensures c.if-same_bytes-2.false)
    (is_no_name _ _ _ _ c.bytes-3.ensures.value c.same_bytes-3.ensures c.if-same_bytes-3.false)
    c.leaf_at.ensures

pub read_items-returns-in_err-read_at : goal.read_items-returns-in_err-read_at
read_items-returns-in_err-read_at t c =
    let all = c.as_slice-item-items.result.now in
    let h = c.loop-item.invariant in
    let at : c.in_ok-place.place ≡ at_item c.args.path.now c.loop-item.item-index = c.in_ok-place.ensures ∙ ap (λ (n : ℕ). at_item c.args.path.now n) (c.len.ensures ∙ h.1.counted) in
    let first = subst (λ (p : Path). Reads (FilterAt c.args.kind p (tree c.item-item.result)) (Err c.in_err-read_at.field-0.0)) at c.in_err-read_at.ensures in
    let stop = items_stop c.args.kind c.args.path.now all c.loop-item.item-index c.loop-item.filters c.item-item.result _ _ h.1 (omega arith) c.item-item.is c.from_residual-in_err-read_at.ensures.1 first in
    subst (λ (l : List Json). Reads (ItemsAt c.args.kind c.args.path.now (items_seen l)) c.from_residual-in_err-read_at.result) h.0 stop

pub read_items-loop-item-preserved : goal.read_items-loop-item-preserved
read_items-loop-item-preserved t c =
    let all = c.as_slice-item-items.result.now in
    let i = c.loop-item.item-index in
    let h = c.loop-item.invariant in
    let f = c.in_ok-read_at.field-0 in
    let at : c.in_ok-place.place ≡ at_item c.args.path.now i = c.in_ok-place.ensures ∙ ap (λ (n : ℕ). at_item c.args.path.now n) (c.len.ensures ∙ h.1.counted) in
    let first = subst (λ (p : Path). Reads (FilterAt c.args.kind p (tree c.item-item.result)) (Ok f)) at c.in_ok-read_at.ensures in
    let more = items_more c.args.kind c.args.path.now all i c.loop-item.filters c.item-item.result f h.1 (omega arith) c.item-item.is first in
    (h.0, subst (λ (fs : List Filter). ItemsSoFar c.args.kind c.args.path.now all (i + 1) fs) (sym c.in_ok-push.ensures.ok) more)
