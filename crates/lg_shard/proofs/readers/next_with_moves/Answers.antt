use Rattle.std.proofs.Common.{sym, ◌∙◌}
use Rattle.std.specs.Option.{option_copied}
use Rattle.lg_shard.specs.Named.{has_items}
use Rattle.lg_shard.proofs.NextLemmas.{next-fewer, next-none, next-passed, next-reached}
use Rattle.lg_shard.proofs.readers.next_with_moves.Goals as goal

pub returns-then-has_move : goal.returns-then-has_move
returns-then-has_move c =
    next-reached c.args.assets.now has_items (option_copied c.walking.from) (c.in-Some.asset.now, c.in-Some.slot.now) (sym c.in-Some.ensures) (sym c.has_move.ensures ∙ c.if-has_move.true)
    ∙ sym c.walking.invariant

pub walking-smaller : goal.walking-smaller
walking-smaller c =
    next-fewer c.args.assets.now (option_copied c.walking.from) (c.in-Some.asset.now, c.in-Some.slot.now) c.bytes.result.now c.bytes.ensures.value (sym c.in-Some.ensures)

pub walking-preserved : goal.walking-preserved
walking-preserved c =
    c.walking.invariant
    ∙ next-passed c.args.assets.now has_items (option_copied c.walking.from) (c.in-Some.asset.now, c.in-Some.slot.now) c.bytes.result.now c.bytes.ensures.value (sym c.in-Some.ensures) (sym c.has_move.ensures ∙ c.if-has_move.false)

pub returns : goal.returns
returns c = next-none c.args.assets.now has_items (option_copied c.walking.from) (sym c.in_default.ensures) ∙ sym c.walking.invariant
