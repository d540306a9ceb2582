use Rattle.std.proofs.Common.{◌≡◌, Bool, false, sym, subst, ◌∙◌}
use Rattle.lg_types.specs.Log.{log}
use Rattle.lg_views.specs.declared.replies.BulkItem.TheVariants.{Failed}
use Rattle.lg_bulk.specs.declared.gathered.Gathered.{Gathered}
use Rattle.lg_bulk.specs.declared.gathered.Turn.TheVariants.{GoOn, End, Fail}
use Rattle.lg_bulk.specs.Gathering.{IsTurn, with_result}
use Rattle.lg_bulk.proofs.BatchLemmas.{turn-good, turn-fails, turn-ends, turn-goes}
use Rattle.lg_bulk.proofs.lists.take_turn.Goals as goal

pub returns-in-None : goal.returns-in-None
returns-in-None g c =
    turn-good (log c.args.book.now.events c.args.ledger.now) c.args.now.now c.args.gathered.now c.args.place c.args.element.now c.args.atomic c.args.go_on c.take_element.new.gathered
    c.requires.gathered (sym c.in_ok-refused.ensures.refusal ∙ c.in-None.is) c.in_ok-refused.ensures.gathered

pub returns-then-atomic : goal.returns-then-atomic
returns-then-atomic g c =
    subst (λ (b : Bool). IsTurn (log c.args.book.now.events c.args.ledger.now) b c.args.go_on c.args.now.now c.args.gathered.now c.args.place c.args.element.now c.take_element.new.gathered (Fail (Failed c.args.place c.in-Some.refusal)))
    (sym c.if-atomic.true)
    (turn-fails (log c.args.book.now.events c.args.ledger.now) c.args.now.now c.args.gathered.now c.args.place c.args.element.now c.args.go_on c.take_element.new.gathered c.in-Some.refusal (sym c.in_ok-refused.ensures.refusal ∙ c.in-Some.is))

pub returns-then-go_on : goal.returns-then-go_on
returns-then-go_on g c =
    let log_of = log c.args.book.now.events c.args.ledger.now in
    let middle : Gathered = c.take_element.new.gathered in
    let after : Gathered = record { results = c.push.new.self; entries = middle.entries; volumes = middle.volumes } in
    let more : after ≡ with_result middle (Failed c.args.place c.in-Some.refusal) = λ i. record { results = c.in_ok-push-in-Some.ensures.ok i; entries = middle.entries; volumes = middle.volumes } in
    subst (λ (b : Bool). IsTurn log_of b c.args.go_on c.args.now.now c.args.gathered.now c.args.place c.args.element.now after GoOn) (sym c.if-atomic.false)
    (subst (λ (b : Bool). IsTurn log_of false b c.args.now.now c.args.gathered.now c.args.place c.args.element.now after GoOn) (sym c.if-go_on.true)
    (turn-goes log_of c.args.now.now c.args.gathered.now c.args.place c.args.element.now after middle c.in-Some.refusal c.requires.gathered (sym c.in_ok-refused.ensures.refusal ∙ c.in-Some.is) c.in_ok-refused.ensures.gathered more))

pub returns-else-go_on : goal.returns-else-go_on
returns-else-go_on g c =
    let log_of = log c.args.book.now.events c.args.ledger.now in
    let middle : Gathered = c.take_element.new.gathered in
    let after : Gathered = record { results = c.push.new.self; entries = middle.entries; volumes = middle.volumes } in
    let more : after ≡ with_result middle (Failed c.args.place c.in-Some.refusal) = λ i. record { results = c.in_ok-push-in-Some.ensures.ok i; entries = middle.entries; volumes = middle.volumes } in
    subst (λ (b : Bool). IsTurn log_of b c.args.go_on c.args.now.now c.args.gathered.now c.args.place c.args.element.now after End) (sym c.if-atomic.false)
    (subst (λ (b : Bool). IsTurn log_of false b c.args.now.now c.args.gathered.now c.args.place c.args.element.now after End) (sym c.if-go_on.false)
    (turn-ends log_of c.args.now.now c.args.gathered.now c.args.place c.args.element.now after middle c.in-Some.refusal c.requires.gathered (sym c.in_ok-refused.ensures.refusal ∙ c.in-Some.is) c.in_ok-refused.ensures.gathered more))
