use Rattle.std.proofs.Common.{rules, tests, sym, ap}
use Rattle.lg_http.specs.Texts.{phrase_of}
use Rattle.lg_http.proofs.head_lines.phrase.Goals as goal

pub returns-in-200 : goal.returns-in-200
unfolding phrase_of
returns-in-200 c = ap phrase_of (sym c.in-200.is)

pub returns-in-201 : goal.returns-in-201
unfolding phrase_of
returns-in-201 c = ap phrase_of (sym c.in-201.is)

pub returns-in-204 : goal.returns-in-204
unfolding phrase_of
returns-in-204 c = ap phrase_of (sym c.in-204.is)

pub returns-in-400 : goal.returns-in-400
unfolding phrase_of
returns-in-400 c = ap phrase_of (sym c.in-400.is)

pub returns-in-404 : goal.returns-in-404
unfolding phrase_of
returns-in-404 c = ap phrase_of (sym c.in-404.is)

pub returns-in-405 : goal.returns-in-405
unfolding phrase_of
returns-in-405 c = ap phrase_of (sym c.in-405.is)

pub returns-in-409 : goal.returns-in-409
unfolding phrase_of
returns-in-409 c = ap phrase_of (sym c.in-409.is)

pub returns-in-413 : goal.returns-in-413
unfolding phrase_of
returns-in-413 c = ap phrase_of (sym c.in-413.is)

pub returns-in-431 : goal.returns-in-431
unfolding phrase_of
returns-in-431 c = ap phrase_of (sym c.in-431.is)

pub returns-in-501 : goal.returns-in-501
unfolding phrase_of
returns-in-501 c = ap phrase_of (sym c.in-501.is)

pub returns-in-503 : goal.returns-in-503
unfolding phrase_of
returns-in-503 c = ap phrase_of (sym c.in-503.is)

pub returns-in_default : goal.returns-in_default
unfolding phrase_of
returns-in_default c = search (tests, rules)
