use Rattle.std.proofs.Common.{ap, ap₂, sym, ◌∙◌, ◌%◌, ◌∷◌, fold}
use Rattle.std.proofs.lemmas.List.Sums.{fold-append}
use Rattle.lg_types.specs.Stripes.{stripe, fnv_step, class_letter}
use Rattle.lg_shard.proofs.stripes.stripe_of.Goals as goal

pub returns-clause-value : goal.returns-clause-value
unfolding stripe
returns-clause-value c =
    let first = c.hash_byte-hash.ensures ∙ ap (fnv_step 2166136261) c.letter.ensures in
    let ledger = c.hash_bytes-hash.ensures ∙ ap₂ (fold fnv_step) first c.bytes.ensures.value in
    let newline = c.hash_byte-hash-2.ensures ∙ ap (λ h. fnv_step h 10) ledger in
    ap (λ h. h % 16)
    (c.hash_bytes-hash-2.ensures
    ∙ ap (λ h. fold fnv_step h c.args.name.now) newline
    ∙ sym (fold-append fnv_step (fnv_step 2166136261 (class_letter c.args.class)) c.args.ledger.now (10 ∷ c.args.name.now)))
