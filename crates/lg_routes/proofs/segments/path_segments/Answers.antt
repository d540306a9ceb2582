use Rattle.std.proofs.Common.{◌≡◌, ℕ, List, Option, Result, Ok, Err, ◌∙◌}
use Rattle.std.specs.Prelude.{IfOk}
use Rattle.lg_routes.proofs.Pieces.{behind_slash}
use Rattle.lg_routes.proofs.segments.path_segments.Goals as goal

followed : {A E B : Type 0} (r : Result A E) (view : A → B) (x y : B) → IfOk r (λ a. view a ≡ x) → x ≡ y → IfOk r (λ a. view a ≡ y)
followed (Ok a) view x y h e = h ∙ e
followed (Err f) view x y h e = tt

pub returns-in-Some-eq47-default : goal.returns-in-Some-eq47-default
returns-in-Some-eq47-default c =
    followed c.segments_behind.result _ _ _ c.segments_behind.ensures
    (behind_slash c.args.path.now c.in-Some-eq47-default.behind.now c.in-Some-eq47-default.field-0-0.now c.in-Some-eq47-default.ensures.cases.0 c.in-Some-eq47-default.field-0-0-test)
