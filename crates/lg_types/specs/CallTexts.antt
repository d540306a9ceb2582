-- The canonical text of a write, over which the hash of a key's request is taken. It names no ledger and no key.
use Rattle.std.specs.Prelude.{ℕ, ℤ, Bool, true, false, List, [], ◌∷◌, codes, decimal}
use Rattle.std.specs.List.{concat}
use Rattle.lg_base.specs.Texts.{quoted}
use Rattle.lg_containers.specs.CanonicalTexts.{list_text}
use Rattle.lg_types.specs.PartTexts.{date_text, optional_text}
use Rattle.lg_types.specs.EntryTexts.{posting_text, meta_text, account_meta_text, reference_text, target_text}
use Rattle.lg_types.specs.declared.calls.Write.{Write}
use Rattle.lg_types.specs.declared.calls.Write.TheVariants.{Create, Revert, SetMeta, DropMeta}

abbrev pub truth_text : Bool → List ℕ
truth_text true = codes "true"
truth_text false = codes "false"

-- the member with the timestamp that a request gave
abbrev pub timestamp_text : ℤ → List ℕ
timestamp_text timestamp = concat (codes ",\"timestamp\":" ∷ date_text timestamp ∷ [])

abbrev pub call_text : Write → List ℕ
call_text (Create postings reference timestamp metadata accounts force) =
    concat (codes "{\"action\":\"CREATE_TRANSACTION\",\"data\":{\"postings\":" ∷ list_text posting_text postings ∷ optional_text reference_text reference ∷ optional_text timestamp_text timestamp ∷ codes ",\"metadata\":" ∷ meta_text metadata ∷ codes ",\"accountMetadata\":" ∷ account_meta_text accounts ∷ codes ",\"force\":" ∷ truth_text force ∷ codes "}}" ∷ [])
call_text (Revert id force at_effective_date) =
    concat (codes "{\"action\":\"REVERT_TRANSACTION\",\"data\":{\"id\":" ∷ decimal id ∷ codes ",\"force\":" ∷ truth_text force ∷ codes ",\"atEffectiveDate\":" ∷ truth_text at_effective_date ∷ codes "}}" ∷ [])
call_text (SetMeta target metadata) =
    concat (codes "{\"action\":\"ADD_METADATA\",\"data\":{" ∷ target_text target ∷ codes ",\"metadata\":" ∷ meta_text metadata ∷ codes "}}" ∷ [])
call_text (DropMeta target name) =
    concat (codes "{\"action\":\"DELETE_METADATA\",\"data\":{" ∷ target_text target ∷ codes ",\"key\":" ∷ quoted name ∷ codes "}}" ∷ [])
