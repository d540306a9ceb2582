-- What may follow shares.
use Rattle.std.proofs.Common.{◌≡◌, ℤ, ◌≤ℤ◌, Bool, true, false, cond, List, [], ◌∷◌, map, IfSome, refl, sym, subst}
use Rattle.std.specs.List.{filter}
use Rattle.std.specs.Str.{bytes_eq}
use Rattle.lg_meta.specs.declared.change.DatedChange.{DatedChange}
use Rattle.lg_meta.specs.MetaFold.{dated_change, last_date}
use Rattle.lg_types.specs.declared.records.Target.TheVariants.{Account}
use Rattle.lg_types.specs.Changes.{Change, is_about}
use Rattle.lg_types.specs.Lists.{Each}
use Rattle.lg_shard.specs.FollowingLaws.{MadeFollows, EntryFollows, LaterChanges}
use Rattle.lg_shard.specs.Holdings.{Holding, HoldingFollows, IsLater, no_holding, ledger_holding, own_holding, own_changes}
use Rattle.lg_shard.specs.Shown.{changes_on}
use Rattle.lg_shard.proofs.AccountLemmas.{bytes_same}
use Rattle.lg_shard.proofs.HistoryTies.{each-filter, own-dated}
use Rattle.lg_shard.proofs.QuietLemmas.{holding-logged}

nothing_follows : (held : Holding) → HoldingFollows held no_holding
nothing_follows held = record { moves = λ a b. tt; changes = λ a. tt; keys = tt; references = tt }

pub made_follows : MadeFollows
made_follows s place shares info q = nothing_follows (ledger_holding q shares)

pub entry_follows : EntryFollows
entry_follows s place shares ledger e h q = subst (λ (x : Holding). HoldingFollows (ledger_holding q shares) x) (sym (holding-logged s place ledger e q)) (at (bytes_eq ledger q) refl)
  where
    at : (b : Bool) → bytes_eq ledger q ≡ b → HoldingFollows (ledger_holding q shares) (cond b (own_holding s ledger e) no_holding)
    at true k = subst (λ l. HoldingFollows (ledger_holding l shares) (own_holding s ledger e)) (bytes_same ledger q k) h
    at false k = nothing_follows (ledger_holding q shares)

dated_within : (date : ℤ) (cs : List Change) → Each (λ (c : Change). c.date ≤ℤ date) cs → Each (λ (d : DatedChange). d.date ≤ℤ date) (map dated_change cs)
dated_within date [] h = tt
dated_within date (c ∷ cs) h = (h.0, dated_within date cs h.1)

last_within : (date : ℤ) (ds : List DatedChange) → Each (λ (d : DatedChange). d.date ≤ℤ date) ds → IfSome (last_date ds) (λ last. last ≤ℤ date)
last_within date [] h = tt
last_within date (d ∷ []) h = h.0
last_within date (d ∷ e ∷ es) h = last_within date (e ∷ es) h.1

each_later : (date : ℤ) (before ds : List DatedChange) → IfSome (last_date before) (λ last. last ≤ℤ date) → Each (λ (d : DatedChange). d.date ≡ date) ds → Each (IsLater before) ds
each_later date before [] last dated = tt
each_later date before (d ∷ ds) last dated = (subst (λ (x : ℤ). IfSome (last_date before) (λ last. last ≤ℤ x)) (sym dated.0) last, each_later date before ds last dated.1)

pub later_changes : LaterChanges
later_changes s ledger e held h a =
    each_later e.date (changes_on held a) (changes_on (own_changes s ledger e) a)
    (last_within e.date (changes_on held a) (dated_within e.date (filter (is_about (Account a)) held) (each-filter (λ (c : Change). c.date ≤ℤ e.date) (is_about (Account a)) held h)))
    (own-dated s ledger e a)
