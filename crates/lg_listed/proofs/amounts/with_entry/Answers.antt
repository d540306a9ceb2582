use Rattle.std.proofs.Common.{◌≡◌, ◌∙◌, Some, List, sym, ap, subst}
use Rattle.std.specs.List.{flat_map}
use Rattle.std.specs.Option.{option_copied}
use Rattle.lg_base.specs.Volumes.{sum_of, IsWithinLimit}
use Rattle.lg_types.specs.declared.records.Posting.{Posting}
use Rattle.lg_types.specs.Moves.{body_transaction, total}
use Rattle.lg_types.specs.Trial.{tried_moves}
use Rattle.lg_listed.proofs.AmountLemmas.{made_total, none_moved}
use Rattle.lg_listed.proofs.amounts.with_entry.Goals as goal

pub with_postings-requires : goal.with_postings-requires
with_postings-requires c =
    let made : body_transaction c.args.entry.now.body ≡ Some c.in-Some.made.now = sym c.transaction_of.ensures ∙ ap option_copied c.in-Some.is in
    subst (λ v. IsWithinLimit (sum_of c.args.known v))
    (made_total c.args.account.now c.args.asset.now c.args.entry.now c.in-Some.made.now made ∙ ap (λ (ps : List Posting). total (flat_map tried_moves ps) c.args.account.now c.args.asset.now) (sym c.as_slice.ensures.value))
    c.requires

pub returns-in-Some : goal.returns-in-Some
returns-in-Some c =
    let made : body_transaction c.args.entry.now.body ≡ Some c.in-Some.made.now = sym c.transaction_of.ensures ∙ ap option_copied c.in-Some.is in
    c.with_postings.ensures
    ∙ ap (sum_of c.args.known) (ap (λ (ps : List Posting). total (flat_map tried_moves ps) c.args.account.now c.args.asset.now) c.as_slice.ensures.value ∙ sym (made_total c.args.account.now c.args.asset.now c.args.entry.now c.in-Some.made.now made))

pub returns-in-None : goal.returns-in-None
returns-in-None c = none_moved c.args.account.now c.args.asset.now c.args.entry.now c.args.known (sym c.transaction_of.ensures ∙ ap option_copied c.in-None.is)
