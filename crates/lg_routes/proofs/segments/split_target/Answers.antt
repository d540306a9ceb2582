use Rattle.std.proofs.Common.{◌==◌, ℕ, sym, ◌∙◌}
use Rattle.lg_routes.proofs.Pieces.{before_at, after_at, before_none, after_none}
use Rattle.lg_routes.proofs.segments.split_target.Goals as goal

pub returns-in-Some : goal.returns-in-Some
returns-in-Some c =
    let found = sym c.question_place.ensures ∙ c.in-Some.is in
    record { path = before_at (λ (b : ℕ). b == 63) c.args.target.now c.in-Some.place found; query = after_at (λ (b : ℕ). b == 63) c.args.target.now c.in-Some.place found }

pub returns-in-None : goal.returns-in-None
returns-in-None c =
    let absent = sym c.question_place.ensures ∙ c.in-None.is in
    record { path = before_none (λ (b : ℕ). b == 63) c.args.target.now absent; query = after_none (λ (b : ℕ). b == 63) c.args.target.now absent }
