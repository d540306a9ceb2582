-- The next entry of a log.
use Rattle.std.proofs.Common.{◌≡◌, ℕ, ◌+◌, ℤ, List, [], length, Option, ap, ◌∙◌}
use Rattle.lg_types.specs.declared.forms.EntryForm.TheVariants.{Chained}
use Rattle.lg_types.specs.declared.records.Entry.{Entry}
use Rattle.lg_types.specs.declared.records.EntryBody.{EntryBody}
use Rattle.lg_types.specs.declared.records.KeyMark.{KeyMark}
use Rattle.lg_types.specs.Chain.{line_hash, head}
use Rattle.lg_views.specs.Writes.{new_entry}

abbrev pub made : ℕ → ℤ → Option KeyMark → EntryBody → List ℕ → Entry
made id date mark body hash = record { id = id; date = date; mark = mark; body = body; hash = hash }

-- an entry's hash doesn't look at the hash that stands in it
pub sealed_entry : (g : List Entry) (id : ℕ) (before : Option (List ℕ)) (date : ℤ) (mark : Option KeyMark) (body : EntryBody) (zeros : List ℕ) (e : Entry) → id ≡ length g + 1 → before ≡ head g
    → e ≡ made id date mark body (line_hash Chained before (made id date mark body zeros)) → e ≡ new_entry g date mark body
unfolding line_hash
sealed_entry g id before date mark body zeros e next first same =
    same
    ∙ ap (λ b. made id date mark body (line_hash Chained b (made id date mark body []))) first
    ∙ ap (λ k. made k date mark body (line_hash Chained (head g) (made k date mark body []))) next
