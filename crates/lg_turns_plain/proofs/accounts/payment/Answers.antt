use Rattle.std.specs.Prelude.{nat_eq, codes}
use Rattle.std.proofs.Common.{◌≡◌, ◌||◌, None, pos, replicate, refl, ap, ◌∙◌}
use Rattle.lg_types.specs.declared.classes.Class.TheVariants.{Account as AccountClass}
use Rattle.lg_types.specs.Stripes.{stripe}
use Rattle.lg_turns_plain.proofs.Paid.{touches-paid}
use Rattle.lg_turns_plain.proofs.accounts.payment.Goals as goal

pub returns : goal.returns
returns c = λ k.
    let ledger = c.in_ok-ledger.ledger in
    let p = c.in_ok-posting.posting in
    let from : stripe AccountClass ledger p.source ≡ c.args.from.stripe = ap (λ l. stripe AccountClass l p.source) c.in_ok-ledger.ensures.ok ∙ ap (stripe AccountClass (codes "default")) c.in_ok-posting.ensures.0 ∙ c.args.from.placed in
    let to : stripe AccountClass ledger p.destination ≡ c.args.to.stripe = ap (λ l. stripe AccountClass l p.destination) c.in_ok-ledger.ensures.ok ∙ ap (stripe AccountClass (codes "default")) c.in_ok-posting.ensures.1 ∙ c.args.to.placed in
    touches-paid k ledger 1 (pos 0) (replicate 32 0) (record { id = 1; postings = c.in_ok-of.field-0; metadata = c.new.result; reference = None; timestamp = pos 0 }) c.new-2.result p c.in_ok-of.ensures refl c.new-2.ensures
    ∙ ap (λ n. nat_eq n k || nat_eq (stripe AccountClass ledger p.destination) k) from
    ∙ ap (λ n. nat_eq c.args.from.stripe k || nat_eq n k) to
