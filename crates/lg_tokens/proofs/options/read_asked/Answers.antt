use Rattle.std.proofs.Common.{◌≡◌, subst, ◌∙◌}
use Rattle.std.specs.Prelude.{MatchOption}
use Rattle.lg_types.specs.declared.filters.ListKind.{ListKind}
use Rattle.lg_tokens.specs.Asked.{IsAsked}
use Rattle.lg_tokens.specs.declared.asked.Asked.{Asked}
use Rattle.lg_tokens.proofs.Records.{spanned_asked, spanned_text}
use Rattle.lg_tokens.proofs.options.read_asked.Goals as goal

pub returns-in-Volumes-clause-found : goal.returns-in-Volumes-clause-found
returns-in-Volumes-clause-found c asked more h tail e =
    let k = subst (λ (x : ListKind). IsAsked x asked) c.in-Volumes.is h in
    subst (λ (a : Asked). MatchOption c.read_spanned.result ⊥ (λ found. (found.0 ≡ a) × (found.1.now ≡ more))) (spanned_asked asked k.pit k.expand)
    (c.read_spanned.ensures.found asked.span more k.span tail (e ∙ spanned_text asked more k.pit k.expand))
