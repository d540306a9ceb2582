-- What is gathered of one element, by what was tried.
use Rattle.std.proofs.Common.{◌≡◌, ℕ, List, [], ◌∷◌, ◌++◌, Some, sym, ap, ◌∙◌}
use Rattle.std.proofs.lemmas.Bool.{eqb-true}
use Rattle.lg_types.specs.declared.calls.Element.{Element}
use Rattle.lg_types.specs.declared.records.Entry.{Entry}
use Rattle.lg_views.specs.declared.decided.Written.{Written}
use Rattle.lg_views.specs.declared.replies.BulkItem.{BulkItem}
use Rattle.lg_views.specs.declared.replies.BulkItem.TheVariants.{Good}
use Rattle.lg_views.specs.declared.replies.Content.{Content}
use Rattle.lg_views.specs.Bulk.{element_action, good_result}
use Rattle.lg_views.specs.Replies.{shown_transaction}
use Rattle.lg_views.specs.Writes.{first_reply, up_to}
use Rattle.lg_book.specs.declared.volumes.FirstVolumes.{FirstVolumes}
use Rattle.lg_book.specs.FirstVolumes.{entry_volumes}
use Rattle.lg_book.specs.Reading.{find_entry, is_numbered}
use Rattle.lg_listed.specs.declared.tried.Tried.TheVariants.{Kept}
use Rattle.lg_listed.specs.Elements.{IsTried}
use Rattle.lg_bulk.specs.declared.gathered.Gathered.{Gathered}
use Rattle.lg_bulk.specs.Gathering.{gathered_with, with_entry}
use Rattle.lg_bulk.proofs.ListLemmas.{find_passes}
use Rattle.lg_bulk.proofs.TriedLemmas.{is-kept}

-- the results with that of an element whose key is kept
pub kept-gathered : (h : List Entry) (x : Element) (before : Gathered) (w : Written) (id : ℕ) (content : Content) (item : BulkItem) (results : List BulkItem) → IsTried h w (Kept id)
    → ((e : Entry) → find_entry h id ≡ Some e → content ≡ first_reply (up_to h e) e) → item ≡ Good (element_action x.write) id (shown_transaction content) → results ≡ before.results ++ item ∷ []
    → ◌≡◌ {A = Gathered} (record { results = results; entries = before.entries; volumes = before.volumes }) (gathered_with h x before w)
kept-gathered h x before w id content item results tried shown is more =
    let own = is-kept h w id tried in
    let e : Entry = own.0 in
    let same : id ≡ e.id = sym (eqb-true e.id id (find_passes (is_numbered id) h e own.1)) in
    let good : item ≡ good_result x (up_to h e) e =
    is
    ∙ ap (λ n. Good (element_action x.write) n (shown_transaction content)) same
    ∙ ap (λ c. Good (element_action x.write) e.id (shown_transaction c)) (shown e own.1) in
    let all : results ≡ before.results ++ good_result x (up_to h e) e ∷ [] = more ∙ ap (λ r. before.results ++ r ∷ []) good in
    ap (λ rs. (let r : Gathered = record { results = rs; entries = before.entries; volumes = before.volumes } in r)) all ∙ ap (gathered_with h x before) (sym own.2)

-- what is gathered with an entry that is appended
pub entry-gathered : (h : List Entry) (x : Element) (before : Gathered) (e : Entry) (volumes : FirstVolumes) (content : Content) (item : BulkItem) (results : List BulkItem) (entries : List Entry) (all : List FirstVolumes)
    → volumes ≡ entry_volumes (h ++ e ∷ []) e → content ≡ first_reply (h ++ e ∷ []) e → item ≡ Good (element_action x.write) e.id (shown_transaction content)
    → results ≡ before.results ++ item ∷ [] → entries ≡ before.entries ++ e ∷ [] → all ≡ before.volumes ++ volumes ∷ []
    → ◌≡◌ {A = Gathered} (record { results = results; entries = entries; volumes = all }) (with_entry before (good_result x (h ++ e ∷ []) e) e (entry_volumes (h ++ e ∷ []) e))
entry-gathered h x before e volumes content item results entries all shown told is rs es vs =
    let good : item ≡ good_result x (h ++ e ∷ []) e = is ∙ ap (λ c. Good (element_action x.write) e.id (shown_transaction c)) told in
    let items : results ≡ before.results ++ good_result x (h ++ e ∷ []) e ∷ [] = rs ∙ ap (λ r. before.results ++ r ∷ []) good in
    let own : all ≡ before.volumes ++ entry_volumes (h ++ e ∷ []) e ∷ [] = vs ∙ ap (λ v. before.volumes ++ v ∷ []) shown in
    λ i. record { results = items i; entries = es i; volumes = own i }
