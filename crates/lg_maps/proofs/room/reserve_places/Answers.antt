use Rattle.std.proofs.Common.{inr, Result, Ok, Err, OnOk, ap, length, ◌∙◌}
use Rattle.std.proofs.lemmas.List.FromFn.{length-range_with_len}
use Rattle.lg_maps.proofs.room.reserve_places.Goals as goal

both_ok : {E A B C : Type 0} (r : Result (Unit {0}) E) → (A → B → C) → OnOk r A → OnOk r B → OnOk r C
both_ok (Ok u) f a b = f a b
both_ok (Err e) f a b = tt

pub returns-then-count-more-gt-FEW-clause-ok : goal.returns-then-count-more-gt-FEW-clause-ok
returns-then-count-more-gt-FEW-clause-ok c =
    both_ok c.spread.result (λ items room. inr (ap length items ∙ length-range_with_len 0 c.args.count, room)) c.spread.ensures.ok c.spread.ensures.room
