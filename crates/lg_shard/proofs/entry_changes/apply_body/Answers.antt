use Rattle.std.proofs.Common.{◌≡◌, ◌<◌, ◌≤◌, ap, sym, subst, length, sum_by, ◌∙◌}
use Rattle.lg_shard.specs.Accounts.{history_at}
use Rattle.lg_shard.specs.Histories.{body_on, given_count, with_applied}
use Rattle.lg_shard.proofs.HistoryLemmas.{count-body}
use Rattle.lg_shard.proofs.entry_changes.apply_body.Goals as goal

pub apply_given-requires-clause-room : goal.apply_given-requires-clause-room
apply_given-requires-clause-room c a =
    let s = c.args.stripe in let l = c.args.ledger.now in let date = c.args.date.now in
    let same : sum_by (given_count s l a) c.entries.result.now ≡ length (body_on s l date c.args.body.now a) =
    ap (sum_by (given_count s l a)) c.entries.ensures ∙ sym (count-body s l a date c.in-NewTransaction.transaction c.in-NewTransaction.given) ∙ ap (λ b. length (body_on s l date b a)) (sym c.in-NewTransaction.is) in
    subst (λ n. n ≤ length (history_at c.args.accounts.now a).prepared) (sym same) (c.requires.room a)

pub apply_given-requires-clause-later : goal.apply_given-requires-clause-later
apply_given-requires-clause-later c a lt =
    let s = c.args.stripe in let l = c.args.ledger.now in let date = c.args.date.now in
    let same : sum_by (given_count s l a) c.entries.result.now ≡ length (body_on s l date c.args.body.now a) =
    ap (sum_by (given_count s l a)) c.entries.ensures ∙ sym (count-body s l a date c.in-NewTransaction.transaction c.in-NewTransaction.given) ∙ ap (λ b. length (body_on s l date b a)) (sym c.in-NewTransaction.is) in
    c.requires.later a (subst (λ n. 0 < n) same lt)

pub returns-in-NewTransaction-clause-histories : goal.returns-in-NewTransaction-clause-histories
returns-in-NewTransaction-clause-histories c a =
    let s = c.args.stripe in let l = c.args.ledger.now in let date = c.args.date.now in
    let same : sum_by (given_count s l a) c.entries.result.now ≡ length (body_on s l date c.args.body.now a) =
    ap (sum_by (given_count s l a)) c.entries.ensures ∙ sym (count-body s l a date c.in-NewTransaction.transaction c.in-NewTransaction.given) ∙ ap (λ b. length (body_on s l date b a)) (sym c.in-NewTransaction.is) in
    c.apply_given.ensures.histories a ∙ ap (with_applied date (history_at c.args.accounts.now a)) same
