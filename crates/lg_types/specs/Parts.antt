-- The part of an event list that one stripe holds: of each event that has a resource in the stripe, what it says of such resources.
use Rattle.std.specs.Prelude.{ℕ, ◌+◌, ℤ, Bool, false, not, if◌then◌else◌, nat_eq, List, [], ◌∷◌, ◌++◌, map}
use Rattle.std.specs.List.{filter, flat_map, list_any, list_all}
use Rattle.std.specs.Str.{bytes_eq}
use Rattle.lg_types.specs.declared.classes.Class.{Class}
use Rattle.lg_types.specs.declared.classes.Class.TheVariants.{Account as AccountClass, Key as KeyClass, Reference as ReferenceClass}
use Rattle.lg_types.specs.declared.records.Entry.{Entry}
use Rattle.lg_types.specs.declared.records.Event.{Event}
use Rattle.lg_types.specs.declared.records.Event.TheVariants.{Made, Logged}
use Rattle.lg_types.specs.declared.records.KeyMark.{KeyMark}
use Rattle.lg_types.specs.declared.records.Target.{Target}
use Rattle.lg_types.specs.declared.records.Target.TheVariants.{Account, Transaction as TransactionOf}
use Rattle.lg_types.specs.Stripes.{stripe}
use Rattle.lg_types.specs.Moves.{Placed, entry_moves}
use Rattle.lg_types.specs.Changes.{Change, entry_changes}
use Rattle.lg_types.specs.Known.{Referred, Marking, marking, entry_accounts, entry_keys, entry_references}

-- what calls share: an account, a key or a reference
pub record Resource : Type 0 where
  pub class : Class
  pub name : List ℕ

abbrev pub account_resource : List ℕ → Resource
account_resource name = record { class = AccountClass; name = name }

abbrev pub key_resource : KeyMark → Resource
key_resource k = record { class = KeyClass; name = k.key }

abbrev pub reference_resource : Referred → Resource
reference_resource r = record { class = ReferenceClass; name = r.reference }

-- the resources of an entry: the accounts that it names, its key, and the reference of its transaction
abbrev pub resources : Entry → List Resource
resources e = map account_resource (entry_accounts e) ++ (map key_resource (entry_keys e) ++ map reference_resource (entry_references e))

abbrev pub is_in : ℕ → List ℕ → Resource → Bool
is_in s ledger r = nat_eq (stripe r.class ledger r.name) s

-- whether an event has a resource in the stripe; a ledger that is made has none
abbrev pub touches : ℕ → Event → Bool
touches s (Made info) = false
touches s (Logged ledger e) = list_any (is_in s ledger) (resources e)

-- no event of the list has a resource in the stripe
abbrev pub leaves : ℕ → Event → Bool
leaves s event = not (touches s event)

abbrev pub untouched : ℕ → List Event → Bool
untouched s events = list_all (leaves s) events

-- what an event says of the resources of a stripe
pub record Share : Type 0 where
  pub place : ℕ
  pub ledger : List ℕ
  pub entry : ℕ
  pub date : ℤ
  pub moves : List Placed
  pub changes : List Change
  pub accounts : List (List ℕ)
  pub keys : List KeyMark
  pub references : List Referred

abbrev pub has_account : ℕ → List ℕ → List ℕ → Bool
has_account s ledger name = is_in s ledger (account_resource name)

abbrev pub has_move : ℕ → List ℕ → Placed → Bool
has_move s ledger m = has_account s ledger m.account

abbrev pub has_target : ℕ → List ℕ → Target → Bool
has_target s ledger (Account name) = has_account s ledger name
has_target s ledger (TransactionOf id) = false

abbrev pub has_change : ℕ → List ℕ → Change → Bool
has_change s ledger c = has_target s ledger c.target

abbrev pub has_key : ℕ → List ℕ → KeyMark → Bool
has_key s ledger k = is_in s ledger (key_resource k)

abbrev pub has_reference : ℕ → List ℕ → Referred → Bool
has_reference s ledger r = is_in s ledger (reference_resource r)

-- the share of the entry at the place in the stripe
abbrev pub share : ℕ → ℕ → List ℕ → Entry → Share
share s place ledger e = record {
  place = place;
  ledger = ledger;
  entry = e.id;
  date = e.date;
  moves = filter (has_move s ledger) (entry_moves e);
  changes = filter (has_change s ledger) (entry_changes e);
  accounts = filter (has_account s ledger) (entry_accounts e);
  keys = filter (has_key s ledger) (entry_keys e);
  references = filter (has_reference s ledger) (entry_references e);
}

abbrev pub event_share : ℕ → ℕ → Event → List Share
event_share s place (Made info) = []
event_share s place (Logged ledger e) = share s place ledger e ∷ []

-- the share of the event at the place, where it has a resource in the stripe
abbrev pub shares_of : ℕ → ℕ → Event → List Share
shares_of s place event = if touches s event then event_share s place event else []

-- the shares of events that begin at a place
unfoldable pub part_from : ℕ → ℕ → List Event → List Share
part_from place s [] = []
part_from place s (event ∷ events) = shares_of s place event ++ part_from (place + 1) s events

-- the part of an event list that the stripe holds
abbrev pub part_of : ℕ → List Event → List Share
part_of s events = part_from 0 s events

-- ---- what a part knows of a ledger

abbrev pub is_share_of : List ℕ → Share → Bool
is_share_of ledger share = bytes_eq share.ledger ledger

-- the shares of a ledger
abbrev pub shares_in : List ℕ → List Share → List Share
shares_in ledger shares = filter (is_share_of ledger) shares

abbrev pub share_moves : Share → List Placed
share_moves share = share.moves

abbrev pub share_changes : Share → List Change
share_changes share = share.changes

abbrev pub share_accounts : Share → List (List ℕ)
share_accounts share = share.accounts

abbrev pub share_references : Share → List Referred
share_references share = share.references

abbrev pub share_markings : Share → List Marking
share_markings share = map (marking share.entry) share.keys

-- the moves, the changes, the accounts, the keys and the references of a ledger that shares hold
abbrev pub part_moves : List ℕ → List Share → List Placed
part_moves ledger shares = flat_map share_moves (shares_in ledger shares)

abbrev pub part_changes : List ℕ → List Share → List Change
part_changes ledger shares = flat_map share_changes (shares_in ledger shares)

abbrev pub part_accounts : List ℕ → List Share → List (List ℕ)
part_accounts ledger shares = flat_map share_accounts (shares_in ledger shares)

abbrev pub part_markings : List ℕ → List Share → List Marking
part_markings ledger shares = flat_map share_markings (shares_in ledger shares)

abbrev pub part_references : List ℕ → List Share → List Referred
part_references ledger shares = flat_map share_references (shares_in ledger shares)
