use Rattle.std.proofs.Common.{sym, ◌∙◌, arith, subst}
use Rattle.lg_types.specs.declared.moves.Move.{Move}
use Rattle.lg_moves.specs.Ranks.{IsUpToMove}
use Rattle.lg_moves.proofs.RankLemmas.{up_from_to, up_from_far, each_take_more, each_drop_from}
use Rattle.lg_moves.proofs.block.place_in.Goals as goal

pub returns-then-not-is_up_to-clause-after : goal.returns-then-not-is_up_to-clause-after
returns-then-not-is_up_to-clause-after g c =
    each_drop_from c.args.item.now c.args.moves.now.items c.loop-place.place c.read_at-other.result (omega arith) c.requires
    (subst (λ (z : Move). IsUpToMove c.args.item.now z) (c.read_at-other.ensures.value c.read_at-other.result) (up_from_far c.read_at-other.result c.args.item.now (rw (c.of.ensures, c.of-key.ensures) at (sym c.is_up_to.ensures ∙ c.if-not-is_up_to.true))))

pub loop-place-preserved : goal.loop-place-preserved
loop-place-preserved g c = (
  omega arith,
  each_take_more (λ x. IsUpToMove x c.args.item.now) c.args.moves.now.items c.loop-place.place c.read_at-other.result (omega arith) c.loop-place.invariant.1
      (subst (λ (z : Move). IsUpToMove z c.args.item.now) (c.read_at-other.ensures.value c.read_at-other.result) (up_from_to c.read_at-other.result c.args.item.now (rw (c.of.ensures, c.of-key.ensures) at (sym c.is_up_to.ensures ∙ c.if-not-is_up_to.false)))),
  omega arith,
)
