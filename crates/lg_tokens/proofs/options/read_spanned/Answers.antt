use Rattle.std.proofs.Common.{None}
use Rattle.lg_tokens.proofs.options.read_spanned.Goals as goal

pub returns-in_err-span-clause-found : goal.returns-in_err-span-clause-found
returns-in_err-span-clause-found c span more h tail e = absurd (c.in_err-span.ensures.found span more h tail e)

pub returns-clause-found : goal.returns-clause-found
returns-clause-found c span more h tail e =
    let p = c.in_ok-span.ensures.found span more h tail e in
    ((λ i. record { pit = None; expand = c.shows_nothing.ensures i; span = p.0 i }), p.1)
