-- In a faultless log no input and no output passes the limit, at any date and in either order.
use Rattle.std.proofs.Common.{◌≡◌, ℤ, true, false, List, [], ◌∷◌, ◌++◌, Option, Some, None, refl, sym, subst, append_assoc, lit<}
use Rattle.std.specs.Prelude.{is_some}
use Rattle.std.specs.List.{flat_map}
use Rattle.std.proofs.lemmas.List.{append-nil}
use Rattle.lg_base.specs.Volumes.{IsWithinLimit}
use Rattle.lg_types.specs.declared.records.Entry.{Entry}
use Rattle.lg_types.specs.declared.records.Transaction.{Transaction}
use Rattle.lg_types.specs.MoveLaws.{IsWithin}
use Rattle.lg_types.specs.Moves.{transaction_moves, body_transaction, moves}
use Rattle.lg_types.specs.Trial.{limit_from, tried_moves}
use Rattle.lg_types.proofs.Limits.{total-tried, within-tried, within-test}
use Rattle.lg_types.proofs.MoveSums.{moves-snoc}
use Rattle.lg_views.specs.Import.{causes, FollowsFrom, IsFaultless, is_over_limit}
use Rattle.lg_views.specs.Laws.{VolumesWithinLimit}
use Rattle.lg_views.proofs.TestAnswers.{all_false}

none_from : {A : Type 0} (o : Option A) → is_some o ≡ false → o ≡ None
none_from None h = refl
none_from (Some x) h = absurd (let f : true ≡ false = h in cc)

-- the moves of a transaction that may follow
one-within : (g : List Entry) (date : ℤ) (o : Option Transaction) → IsWithin (moves g) → is_over_limit g o ≡ false → IsWithin (moves g ++ transaction_moves date o)
one-within g date None h over = subst IsWithin (sym (append-nil (moves g))) h
one-within g date (Some t) h over =
    let tried : IsWithin (moves g ++ flat_map tried_moves t.postings) = within-tried (moves g) 0 t.postings h (none_from (limit_from (moves g) 0 t.postings) over) in
    record { each = λ account asset. subst IsWithinLimit (sym (total-tried (moves g) t.id date t.timestamp t.postings account asset)) (tried.each account asset) }

within-follows : (g es : List Entry) → IsWithin (moves g) → FollowsFrom g es → IsWithin (moves (g ++ es))
within-follows g [] h f = subst (λ l. IsWithin (moves l)) (sym (append-nil g)) h
within-follows g (e ∷ es) h f =
    let limit : is_over_limit g (body_transaction e.body) ≡ false = (all_false (causes g e) f.0).1.1.1.1.1.1.1.1.0 in
    let here : IsWithin (moves (g ++ e ∷ [])) = subst IsWithin (sym (moves-snoc g e)) (one-within g e.date (body_transaction e.body) h limit) in
    subst (λ l. IsWithin (moves l)) (append_assoc g (e ∷ []) es) (within-follows (g ++ e ∷ []) es here f.1)

nothing-within : IsWithin []
nothing-within = record { each = λ account asset. record { input = lit< tt; output = lit< tt } }

pub faultless-within : (g : List Entry) → IsFaultless g → IsWithin (moves g)
faultless-within g h = within-follows [] g nothing-within h.follows

pub volumes_within_limit : VolumesWithinLimit
volumes_within_limit g h test account asset = within-test (moves g) test account asset (faultless-within g h)
