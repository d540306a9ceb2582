use Rattle.std.proofs.Common.{sym, ◌∙◌}
use Rattle.std.specs.Option.{option_copied}
use Rattle.lg_shard.specs.Named.{is_named}
use Rattle.lg_shard.proofs.NextLemmas.{next-fewer, next-none, next-passed, next-reached}
use Rattle.lg_shard.proofs.readers.next_named.Goals as goal

pub returns-then-is_named : goal.returns-then-is_named
returns-then-is_named c =
    next-reached c.args.accounts.now is_named (option_copied c.walking.from) (c.in-Some.account.now, c.in-Some.part.now) (sym c.in-Some.ensures) (sym c.is_named.ensures ∙ c.if-is_named.true)
    ∙ sym c.walking.invariant

pub walking-smaller : goal.walking-smaller
walking-smaller c =
    next-fewer c.args.accounts.now (option_copied c.walking.from) (c.in-Some.account.now, c.in-Some.part.now) c.bytes.result.now c.bytes.ensures.value (sym c.in-Some.ensures)

pub walking-preserved : goal.walking-preserved
walking-preserved c =
    c.walking.invariant
    ∙ next-passed c.args.accounts.now is_named (option_copied c.walking.from) (c.in-Some.account.now, c.in-Some.part.now) c.bytes.result.now c.bytes.ensures.value (sym c.in-Some.ensures) (sym c.is_named.ensures ∙ c.if-is_named.false)

pub returns : goal.returns
returns c = next-none c.args.accounts.now is_named (option_copied c.walking.from) (sym c.in_default.ensures) ∙ sym c.walking.invariant
