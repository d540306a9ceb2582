use Rattle.std.proofs.Common.{Bool, List, ℕ, cond, Bor, sym, ap, ◌∙◌}
use Rattle.std.specs.Prelude.{Option, Some}
use Rattle.std.specs.Option.{option_copied}
use Rattle.lg_addresses.specs.Next.{lesser_of}
use Rattle.lg_addresses.proofs.walk.lesser_than.Goals as goal

pub returns-then-is_after : goal.returns-then-is_after
returns-then-is_after c =
    ap (λ (o : Option (Bor (List ℕ))). lesser_of (Some c.args.one.now) (option_copied o)) c.in-Some.is
    ∙ ap (λ (b : Bool). cond b (Some c.in-Some.other.now) (Some c.args.one.now)) (sym c.is_after.ensures ∙ c.if-is_after.true)

pub returns-else-is_after : goal.returns-else-is_after
returns-else-is_after c =
    ap (λ (o : Option (Bor (List ℕ))). lesser_of (Some c.args.one.now) (option_copied o)) c.in-Some.is
    ∙ ap (λ (b : Bool). cond b (Some c.in-Some.other.now) (Some c.args.one.now)) (sym c.is_after.ensures ∙ c.if-is_after.false)
