-- What elements append may follow their log.
use Rattle.std.proofs.Common.{◌≡◌, ℕ, ℤ, List, [], ◌∷◌, ◌++◌, Option, None, refl, sym, subst}
use Rattle.lg_types.specs.declared.calls.Element.{Element}
use Rattle.lg_types.specs.declared.calls.ElementWrite.{ElementWrite}
use Rattle.lg_types.specs.declared.calls.ElementWrite.TheVariants.{Good, Bad}
use Rattle.lg_types.specs.declared.records.Entry.{Entry}
use Rattle.lg_views.specs.declared.decided.Written.{Written}
use Rattle.lg_views.specs.declared.decided.Written.TheVariants.{Refuses, Finds, Appends}
use Rattle.lg_views.specs.Bulk.{try_write, element_written}
use Rattle.lg_views.specs.Import.{fault, FollowsFrom}
use Rattle.lg_views.proofs.Follows.{follows-join}
use Rattle.lg_views.proofs.Granted.{Fits, written-fits}
use Rattle.lg_listed.specs.declared.tried.Tried.TheVariants.{Appended}
use Rattle.lg_listed.specs.Elements.{IsTried, AppendedFaultless, AppendedFollows}

tried_fits : (h : List Entry) (key : Option (List ℕ)) (write : ElementWrite) (now : ℤ) → Fits h (try_write h key write now)
tried_fits h key (Good write) now = written-fits h key write now
tried_fits h key (Bad refusal) now = tt

pub appended_faultless : AppendedFaultless
appended_faultless h x now e is = subst (Fits h) is (tried_fits h x.key x.write now)

pub appended_follows : AppendedFollows
appended_follows g earlier x now e follows is = follows-join g earlier (e ∷ []) follows (appended_faultless (g ++ earlier) x now e is, tt)

-- the first entry that is appended to a log without entries may follow it
pub first_follows : (x : Element) (now : ℤ) (e : Entry) → IsTried [] (element_written [] x now) (Appended e) → FollowsFrom [] (e ∷ [])
first_follows x now e tried = by_written (element_written [] x now) refl tried
  where
    by_written : (w : Written) → element_written [] x now ≡ w → IsTried [] w (Appended e) → FollowsFrom [] (e ∷ [])
    by_written (Refuses refusal) is h = absurd h
    by_written (Finds f) is h = absurd h
    by_written (Appends f) is h = (subst (λ y. fault [] y ≡ None) (sym h) (appended_faultless [] x now f is), tt)
