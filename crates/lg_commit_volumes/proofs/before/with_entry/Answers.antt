use Rattle.std.proofs.Common.{◌≡◌, ◌∙◌, Some, List, sym, ap}
use Rattle.std.specs.List.{flat_map}
use Rattle.std.specs.Option.{option_copied}
use Rattle.lg_types.specs.declared.records.Posting.{Posting}
use Rattle.lg_types.specs.Moves.{body_transaction, total}
use Rattle.lg_types.specs.Trial.{tried_moves}
use Rattle.lg_commit_volumes.proofs.EntryLemmas.{own_within, all_within, ranked_within, own_added}
use Rattle.lg_commit_volumes.proofs.before.with_entry.Goals as goal

pub postings_volumes-own-requires : goal.postings_volumes-own-requires
postings_volumes-own-requires c =
    let made : body_transaction c.args.entry.now.body ≡ Some c.in-Some.made.now = sym c.transaction_of.ensures ∙ ap option_copied c.in-Some.is in
    own_within c.args.transaction.now c.args.account.now c.args.asset.now c.args.before c.args.entry.now c.in-Some.made.now made _
    (ap (λ (ps : List Posting). total (flat_map tried_moves ps) c.args.account.now c.args.asset.now) c.as_slice.ensures.value) c.requires

pub with_own-requires-clause-all : goal.with_own-requires-clause-all
with_own-requires-clause-all c =
    let made : body_transaction c.args.entry.now.body ≡ Some c.in-Some.made.now = sym c.transaction_of.ensures ∙ ap option_copied c.in-Some.is in
    all_within c.args.transaction.now c.args.account.now c.args.asset.now c.args.before c.args.entry.now c.in-Some.made.now made c.postings_volumes-own.result
    (c.postings_volumes-own.ensures ∙ ap (λ (ps : List Posting). total (flat_map tried_moves ps) c.args.account.now c.args.asset.now) c.as_slice.ensures.value) c.requires

pub with_own-requires-clause-ranked : goal.with_own-requires-clause-ranked
with_own-requires-clause-ranked c = λ less.
    let made : body_transaction c.args.entry.now.body ≡ Some c.in-Some.made.now = sym c.transaction_of.ensures ∙ ap option_copied c.in-Some.is in
    ranked_within c.args.transaction.now c.args.account.now c.args.asset.now c.args.before c.args.entry.now c.in-Some.made.now made c.postings_volumes-own.result
    (c.postings_volumes-own.ensures ∙ ap (λ (ps : List Posting). total (flat_map tried_moves ps) c.args.account.now c.args.asset.now) c.as_slice.ensures.value) c.requires
    (sym c.is_before.ensures ∙ less)

pub returns-in-Some : goal.returns-in-Some
returns-in-Some c =
    let made : body_transaction c.args.entry.now.body ≡ Some c.in-Some.made.now = sym c.transaction_of.ensures ∙ ap option_copied c.in-Some.is in
    c.with_own.ensures
    ∙ own_added c.args.transaction.now c.args.account.now c.args.asset.now c.args.before c.args.entry.now c.in-Some.made.now made c.postings_volumes-own.result
    (c.postings_volumes-own.ensures ∙ ap (λ (ps : List Posting). total (flat_map tried_moves ps) c.args.account.now c.args.asset.now) c.as_slice.ensures.value)
    c.is_before.result c.is_before.ensures
