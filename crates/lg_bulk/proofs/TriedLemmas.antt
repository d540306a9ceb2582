-- What an element comes to, by what was tried.
use Rattle.std.proofs.Common.{◌≡◌, ℕ, List, Some, refl, sym, ap}
use Rattle.lg_types.specs.declared.records.Entry.{Entry}
use Rattle.lg_types.specs.declared.refusals.Refusal.{Refusal}
use Rattle.lg_views.specs.declared.decided.Written.{Written}
use Rattle.lg_views.specs.declared.decided.Written.TheVariants.{Refuses, Finds, Appends}
use Rattle.lg_book.specs.Reading.{find_entry}
use Rattle.lg_listed.specs.declared.tried.Tried.TheVariants.{Refused, Kept, Appended}
use Rattle.lg_listed.specs.Elements.{IsTried}

pub is-refused : (h : List Entry) (w : Written) (refusal : Refusal) → IsTried h w (Refused refusal) → w ≡ Refuses refusal
is-refused h (Refuses own) refusal is = ap Refuses (sym is)
is-refused h (Finds e) refusal is = absurd is
is-refused h (Appends e) refusal is = absurd is

pub is-kept : (h : List Entry) (w : Written) (id : ℕ) → IsTried h w (Kept id) → (e : Entry) × (find_entry h id ≡ Some e) × (w ≡ Finds e)
is-kept h (Refuses own) id is = absurd is
is-kept h (Finds e) id is = (e, is, refl)
is-kept h (Appends e) id is = absurd is

pub is-appended : (h : List Entry) (w : Written) (e : Entry) → IsTried h w (Appended e) → w ≡ Appends e
is-appended h (Refuses own) e is = absurd is
is-appended h (Finds other) e is = absurd is
is-appended h (Appends own) e is = ap Appends (sym is)
