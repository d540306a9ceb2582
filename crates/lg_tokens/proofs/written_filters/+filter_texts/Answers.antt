use Rattle.std.proofs.Common.{ℕ, ◌+◌, false, List, [], ◌∷◌, ◌++◌, codes, drop, drop_of_length-le, sym, ap, ◌∙◌, arith}
use Rattle.lg_base.proofs.Feeds.{then, stop, nothing, same_text}
use Rattle.lg_containers.specs.CanonicalTexts.{commas, list_text}
use Rattle.lg_views.specs.Tokens.{field_name, value_text, filter_text, one_member}
use Rattle.lg_tokens.specs.TextParts.{parted}
use Rattle.lg_types.specs.declared.filters.Filter.{Filter}
use Rattle.lg_tokens.proofs.Lists.{both_text, either_text, not_text, parted_whole, parted_more}
use Rattle.lg_tokens.proofs.Texts.{opened, opened_list}
use Rattle.lg_tokens.proofs.written_filters.+filter_texts.Goals as goal

pub feed_item-returns-in_err-feed_comma : goal.feed_item-returns-in_err-feed_comma
feed_item-returns-in_err-feed_comma g t c = stop _ c.from_residual.ensures.0 c.in_err-feed_comma.ensures

pub feed_item-returns : goal.feed_item-returns
feed_item-returns g t c = then c.in_ok-feed_comma.ensures c.feed_filter.ensures

pub feed_denial-returns-in_err-feed_opening : goal.feed_denial-returns-in_err-feed_opening
feed_denial-returns-in_err-feed_opening g t c =
    same_text (opened (codes "$not") (filter_text c.args.filter.now))
    (stop (filter_text c.args.filter.now ++ (125 ∷ [])) c.from_residual.ensures.0 c.in_err-feed_opening.ensures)

pub feed_denial-returns-in_err-feed_filter : goal.feed_denial-returns-in_err-feed_filter
feed_denial-returns-in_err-feed_filter g t c =
    same_text (opened (codes "$not") (filter_text c.args.filter.now))
    (then c.in_ok-feed_opening.ensures (stop (125 ∷ []) c.from_residual-in_err-feed_filter.ensures.0 c.in_err-feed_filter.ensures))

pub feed_denial-returns : goal.feed_denial-returns
feed_denial-returns g t c =
    same_text (opened (codes "$not") (filter_text c.args.filter.now))
    (then c.in_ok-feed_opening.ensures (then c.in_ok-feed_filter.ensures c.piece.ensures))

pub feed_list-returns-in_err-feed_opening : goal.feed_list-returns-in_err-feed_opening
feed_list-returns-in_err-feed_opening g t c =
    same_text (opened_list c.args.word.now (commas filter_text c.args.filters.now))
    (stop ((91 ∷ []) ++ (commas filter_text c.args.filters.now ++ (93 ∷ 125 ∷ []))) c.from_residual.ensures.0 c.in_err-feed_opening.ensures)

pub feed_list-returns-in_err-piece : goal.feed_list-returns-in_err-piece
feed_list-returns-in_err-piece g t c =
    same_text (opened_list c.args.word.now (commas filter_text c.args.filters.now))
    (then c.in_ok-feed_opening.ensures (stop (commas filter_text c.args.filters.now ++ (93 ∷ 125 ∷ [])) c.from_residual-in_err-piece.ensures.0 c.in_err-piece.ensures))

pub feed_list-returns-in_err-feed_filters : goal.feed_list-returns-in_err-feed_filters
feed_list-returns-in_err-feed_filters g t c =
    same_text (opened_list c.args.word.now (commas filter_text c.args.filters.now))
    (then c.in_ok-feed_opening.ensures (then c.in_ok-piece.ensures (stop (93 ∷ 125 ∷ []) c.from_residual-in_err-feed_filters.ensures.0 c.in_err-feed_filters.ensures)))

pub feed_list-returns : goal.feed_list-returns
feed_list-returns g t c =
    same_text (opened_list c.args.word.now (commas filter_text c.args.filters.now))
    (then c.in_ok-feed_opening.ensures (then c.in_ok-piece.ensures (then c.in_ok-feed_filters.ensures c.piece-2.ensures)))

pub feed_filter-returns-in-Compare : goal.feed_filter-returns-in-Compare
feed_filter-returns-in-Compare g t c =
    rw c.in-Compare.is
    (same_text (ap (λ (n : List ℕ). one_member n (one_member (field_name c.in-Compare.field) (value_text c.in-Compare.value))) c.op_name.ensures) c.feed_comparison.ensures)

pub feed_filter-returns-in-Both : goal.feed_filter-returns-in-Both
feed_filter-returns-in-Both g t c =
    rw c.in-Both.is
    (same_text (ap (λ (fs : List Filter). one_member (codes "$and") (list_text filter_text fs)) c.as_slice.ensures ∙ sym (both_text c.in-Both.filters)) c.feed_list.ensures)

pub feed_filter-returns-in-Either : goal.feed_filter-returns-in-Either
feed_filter-returns-in-Either g t c =
    rw c.in-Either.is
    (same_text (ap (λ (fs : List Filter). one_member (codes "$or") (list_text filter_text fs)) c.as_slice-in-Either.ensures ∙ sym (either_text c.in-Either.filters)) c.feed_list-in-Either.ensures)

pub feed_filter-returns-in-Not : goal.feed_filter-returns-in-Not
feed_filter-returns-in-Not g t c =
    rw c.in-Not.is
    (same_text (ap (λ (f : Filter). one_member (codes "$not") (filter_text f)) c.get.ensures ∙ sym (not_text c.in-Not.filter)) c.feed_denial.ensures)

pub feed_filters-loop-filter-init : goal.feed_filters-loop-filter-init
feed_filters-loop-filter-init g t c = record { on = λ last result h. same_text (parted_whole c.args.filters.now) h }

pub feed_filters-returns-in_err-feed_item : goal.feed_filters-returns-in_err-feed_item
feed_filters-returns-in_err-feed_item g t c =
    c.loop-filter.invariant.on _ _
    (same_text (sym (parted_more c.loop-filter.is_first c.args.filters.now c.loop-filter.filter-index c.filter-item.result (omega arith) c.filter-item.is))
    (stop (parted false (drop (c.loop-filter.filter-index + 1) c.args.filters.now)) c.from_residual.ensures.0 c.in_err-feed_item.ensures))

pub feed_filters-loop-filter-preserved : goal.feed_filters-loop-filter-preserved
feed_filters-loop-filter-preserved g t c = record {
  on = λ last result h. c.loop-filter.invariant.on last result
      (same_text (sym (parted_more c.loop-filter.is_first c.args.filters.now c.loop-filter.filter-index c.filter-item.result (omega arith) c.filter-item.is)) (then c.in_ok-feed_item.ensures h));
}

pub feed_filters-returns : goal.feed_filters-returns
feed_filters-returns g t c =
    c.loop-filter.invariant.on _ _
    (same_text (sym (ap (parted c.loop-filter.is_first) (drop_of_length-le c.args.filters.now (omega arith)))) (nothing g.F.Feed.fed g.F.Feed.stops g.F.Feed.lent c.loop-filter.to (tt {0})))
