-- The texts of what replies show: no blanks, members in one order, maps in the byte order of their names; what has no
-- value is left out.
use Rattle.std.specs.Prelude.{ℕ, ℤ, List, [], ◌∷◌, ◌++◌, Option, Some, None, codes, decimal}
use Rattle.std.specs.Fmt.{signed_decimal}
use Rattle.std.specs.List.{concat}
use Rattle.lg_base.specs.Texts.{quoted}
use Rattle.lg_base.specs.Volumes.{balance_of}
use Rattle.lg_base.specs.declared.amounts.Volumes.{Volumes}
use Rattle.lg_containers.specs.CanonicalTexts.{list_text, members_text}
use Rattle.lg_containers.specs.NameTable.{pairs_of}
use Rattle.lg_types.specs.CallTexts.{truth_text}
use Rattle.lg_types.specs.EntryTexts.{posting_text, meta_text, reference_text}
use Rattle.lg_types.specs.PartTexts.{date_text, optional_text}
use Rattle.lg_views.specs.Pairs.{AssetMap, AccountMap}
use Rattle.lg_views.specs.declared.views.TransactionView.{TransactionView}
use Rattle.lg_views.specs.declared.views.AccountView.{AccountView}
use Rattle.lg_views.specs.declared.views.VolumeItem.{VolumeItem}
use Rattle.lg_views.specs.declared.views.BalanceItem.{BalanceItem}

-- what came in, what went out, and what is left
abbrev pub volumes_text : Volumes → List ℕ
volumes_text v =
    concat (codes "{\"input\":" ∷ decimal v.input ∷ codes ",\"output\":" ∷ decimal v.output ∷ codes ",\"balance\":" ∷ signed_decimal (balance_of v) ∷ codes "}" ∷ [])

abbrev pub asset_volumes_text : AssetMap → List ℕ
asset_volumes_text m = members_text volumes_text (pairs_of m)

abbrev pub account_volumes_text : AccountMap → List ℕ
account_volumes_text m = members_text asset_volumes_text (pairs_of m)

-- a member that has volumes of assets, and nothing where there are none
abbrev pub assets_member : List ℕ → Option AssetMap → List ℕ
assets_member name None = []
assets_member name (Some m) = name ++ asset_volumes_text m

-- a member that has volumes of accounts, and nothing where there are none
abbrev pub accounts_member : List ℕ → Option AccountMap → List ℕ
accounts_member name None = []
accounts_member name (Some m) = name ++ account_volumes_text m

-- the member with the date of the revert
abbrev pub reverted_at_text : ℤ → List ℕ
reverted_at_text date = concat (codes ",\"revertedAt\":" ∷ date_text date ∷ [])

-- a transaction
abbrev pub transaction_view_text : TransactionView → List ℕ
transaction_view_text v =
    concat (codes "{\"id\":" ∷ decimal v.id ∷ codes ",\"postings\":" ∷ list_text posting_text v.postings ∷ codes ",\"metadata\":" ∷ meta_text v.metadata ∷ optional_text reference_text v.reference ∷ codes ",\"timestamp\":" ∷ date_text v.timestamp ∷ codes ",\"insertedAt\":" ∷ date_text v.inserted_at ∷ codes ",\"reverted\":" ∷ truth_text v.reverted ∷ optional_text reverted_at_text v.reverted_at ∷ accounts_member (codes ",\"preCommitVolumes\":") v.pre_commit_volumes ∷ accounts_member (codes ",\"postCommitVolumes\":") v.post_commit_volumes ∷ accounts_member (codes ",\"preCommitEffectiveVolumes\":") v.pre_commit_effective_volumes ∷ accounts_member (codes ",\"postCommitEffectiveVolumes\":") v.post_commit_effective_volumes ∷ codes "}" ∷ [])

-- an account
abbrev pub account_view_text : AccountView → List ℕ
account_view_text v =
    concat (codes "{\"address\":" ∷ quoted v.address ∷ codes ",\"metadata\":" ∷ meta_text v.metadata ∷ assets_member (codes ",\"volumes\":") v.volumes ∷ assets_member (codes ",\"effectiveVolumes\":") v.effective_volumes ∷ codes "}" ∷ [])

-- the volumes of an account, or of a group of accounts, in one asset
abbrev pub volume_item_text : VolumeItem → List ℕ
volume_item_text i =
    concat (codes "{\"account\":" ∷ quoted i.account ∷ codes ",\"asset\":" ∷ quoted i.asset ∷ codes ",\"input\":" ∷ decimal i.input ∷ codes ",\"output\":" ∷ decimal i.output ∷ codes ",\"balance\":" ∷ signed_decimal i.balance ∷ codes "}" ∷ [])

-- the balance of an asset, as a member
abbrev pub balance_text : BalanceItem → List ℕ
balance_text i = concat (quoted i.asset ∷ codes ":" ∷ signed_decimal i.balance ∷ [])
