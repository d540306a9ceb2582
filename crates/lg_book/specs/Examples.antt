-- A first payment, with the volumes of its first reply.
use Rattle.std.specs.Prelude.{◌≡◌, ℕ, pos, List, [], ◌∷◌, None, codes}
use Rattle.lg_base.specs.declared.amounts.Volumes.{Volumes}
use Rattle.lg_containers.specs.NameTable as table
use Rattle.lg_types.specs.declared.records.Event.{Event}
use Rattle.lg_types.specs.declared.records.Event.TheVariants.{Logged}
use Rattle.lg_types.specs.declared.records.EntryBody.TheVariants.{NewTransaction}
use Rattle.lg_views.specs.Pairs.{AccountMap, AssetMap}
use Rattle.lg_book.specs.declared.volumes.FirstVolumes.{FirstVolumes}

abbrev pub world : List ℕ
world = codes "world"

abbrev pub user : List ℕ
user = codes "users:1"

abbrev pub usd : List ℕ
usd = codes "USD/2"

-- 100 USD/2 from outside to users:1 on 2024-01-01, as the first entry of `default`
abbrev pub deposit : List ℕ → Event
deposit hash = Logged (codes "default") (record {
  id = 1;
  date = pos 1704067200000000;
  mark = None;
  body = NewTransaction (record { id = 1; postings = record { source = world; destination = user; asset = usd; amount = 100 } ∷ []; metadata = table.empty; reference = None; timestamp = pos 1704067200000000 }) table.empty;
  hash = hash;
})

abbrev pub one_asset : Volumes → AssetMap
one_asset volumes = table.insert table.empty usd volumes

abbrev pub two_accounts : Volumes → Volumes → AccountMap
two_accounts own outside = table.insert (table.insert table.empty user (one_asset own)) world (one_asset outside)

abbrev pub volumes : ℕ → ℕ → Volumes
volumes input output = record { input = input; output = output }

abbrev pub deposit_volumes : FirstVolumes
deposit_volumes = record {
  pre_commit_volumes = two_accounts (volumes 0 0) (volumes 0 0);
  post_commit_volumes = two_accounts (volumes 100 0) (volumes 0 100);
  pre_commit_effective_volumes = two_accounts (volumes 0 0) (volumes 0 0);
  post_commit_effective_volumes = two_accounts (volumes 100 0) (volumes 0 100);
}
