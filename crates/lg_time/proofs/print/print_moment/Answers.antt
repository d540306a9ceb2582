use Rattle.std.proofs.Common.{◌∙◌, rules, ap, length, FitsSigned, w64}
use Rattle.std.proofs.lemmas.Int.{to_z-of_z}
use Rattle.lg_time.specs.Canonical.{text_after}
use Rattle.lg_time.proofs.CanonicalLemmas.{cut, text_of_parts, moment_text_is}
use Rattle.lg_time.proofs.print.print_moment.Goals as goal

pub returns-clause-text : goal.returns-clause-text
returns-clause-text c =
    let fits : FitsSigned w64 c.args.moment = search rules in
    let elapsed = rw (to_z-of_z w64 c.args.moment fits) at c.elapsed-elapsed.ensures.value in
    let d = c.date_digits-date.ensures in
    let t = c.time_digits-time.ensures in
    let f = c.six_digits-fraction.ensures in
    let parts = cut c.date_digits-date.result c.time_digits-time.result c.six_digits-fraction.result c.fraction_len-end.result (ap length d) (ap length t) (ap length f) c.fraction_len-end.ensures.bound in
    (rw c.whole_text.ensures parts)
    ∙ text_of_parts c.elapsed-elapsed.result _ _ _ d t c.fraction_len-end.ensures.value
    ∙ ap text_after elapsed

pub returns-clause-reads_back : goal.returns-clause-reads_back
returns-clause-reads_back c = rw (returns-clause-text c) (moment_text_is c.args.moment c.requires)
