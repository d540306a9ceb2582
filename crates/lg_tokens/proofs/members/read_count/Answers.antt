use Rattle.std.proofs.Common.{inl, sym, ◌∙◌, arith, rules}
use Rattle.std.specs.Prelude.{decimal}
use Rattle.std.proofs.lemmas.Fmt.{decimal_injective}
use Rattle.lg_tokens.proofs.Names.{decimal_lacks}
use Rattle.lg_tokens.proofs.members.read_count.Goals as goal

pub returns-in_err-text : goal.returns-in_err-text
returns-in_err-text c n more small e = absurd (c.in_err-text.ensures (decimal n) more (decimal_lacks 44 n (inl (omega arith)) small) e)

pub returns-in_err-number : goal.returns-in_err-number
returns-in_err-number c n more small e =
    let cut = c.in_ok-text.ensures (decimal n) more (decimal_lacks 44 n (inl (omega arith)) small) e in
    absurd (c.in_err-number.ensures n small cut.0)

pub returns : goal.returns
returns c n more small e =
    let cut = c.in_ok-text.ensures (decimal n) more (decimal_lacks 44 n (inl (omega arith)) small) e in
    (decimal_injective c.in_ok-number.number n (search rules) small (sym c.in_ok-number.ensures ∙ cut.0), cut.1)
