-- Entries that may follow a log.
use Rattle.std.proofs.Common.{◌≡◌, ℤ, pos, negsuc, arith, Bool, true, false, not, List, [], ◌∷◌, ◌++◌, Option, Some, None, refl, sym, ap, subst, ◌∙◌, append_assoc}
use Rattle.std.specs.Prelude.{int_lt, if◌then◌else◌}
use Rattle.std.specs.Str.{bytes_eq}
use Rattle.std.proofs.lemmas.List.{append-nil}
use Rattle.std.proofs.lemmas.Bool.{le-ltb}
use Rattle.lg_types.specs.declared.records.Entry.{Entry}
use Rattle.lg_types.specs.declared.records.EntryBody.{EntryBody}
use Rattle.lg_types.specs.declared.records.KeyMark.{KeyMark}
use Rattle.lg_types.specs.Lists.{last_of}
use Rattle.lg_types.specs.Moments.{brought}
use Rattle.lg_types.specs.Chain.{line_hash, own_hash}
use Rattle.lg_types.specs.Known.{next_entry, date_after, date}
use Rattle.lg_types.specs.Moves.{body_transaction}
use Rattle.lg_views.specs.Import.{causes, fault, FollowsFrom, is_before, has_used_key, is_referred, is_misnumbered, reverts_wrong, targets_wrong, is_over_limit}
use Rattle.lg_views.specs.Writes.{unsealed, sealed, new_entry}
use Rattle.lg_views.proofs.TestAnswers.{not_same_bytes, not_same_number, no_cause}

-- what may follow a log, and then what may follow all that
pub follows-join : (g xs ys : List Entry) → FollowsFrom g xs → FollowsFrom (g ++ xs) ys → FollowsFrom g (xs ++ ys)
follows-join g [] ys h k = subst (λ l. FollowsFrom l ys) (append-nil g) k
follows-join g (x ∷ xs) ys h k = (h.0, follows-join (g ++ x ∷ []) xs ys h.1 (subst (λ l. FollowsFrom l ys) (sym (append_assoc g (x ∷ []) xs)) k))

-- the first of what may follow
pub follows-front : (g xs ys : List Entry) → FollowsFrom g (xs ++ ys) → FollowsFrom g xs
follows-front g [] ys h = tt
follows-front g (x ∷ xs) ys h = (h.0, follows-front (g ++ x ∷ []) xs ys h.1)

-- what a body must not be, to be the next entry's
pub record BodyFits (g : List Entry) (body : EntryBody) : Type 0 where
  pub reference : is_referred g (body_transaction body) ≡ false
  pub number : is_misnumbered g (body_transaction body) ≡ false
  pub revert : reverts_wrong g body ≡ false
  pub target : targets_wrong g body ≡ false
  pub limit : is_over_limit g (body_transaction body) ≡ false

-- a date that is raised to the last entry's isn't before it
not_below_itself : (z : ℤ) → int_lt z z ≡ false
not_below_itself (pos n) = le-ltb n n (omega arith)
not_below_itself (negsuc n) = le-ltb n n (omega arith)

raised : (a b : ℤ) → int_lt (if int_lt a b then b else a) b ≡ false
raised a b = by_test (int_lt a b) refl
  where
    by_test : (t : Bool) → int_lt a b ≡ t → int_lt (if t then b else a) b ≡ false
    by_test true h = not_below_itself b
    by_test false h = h

pub date-follows : (o : Option Entry) (now : ℤ) → is_before o (date_after o now) ≡ false
date-follows None now = refl
date-follows (Some e) now = raised (brought now) e.date

-- the hash of an entry doesn't look at the hash that it has
pub hash-of_sealed : (g : List Entry) (e : Entry) → own_hash g (sealed g e) ≡ own_hash g e
unfolding line_hash
hash-of_sealed g e = refl

pub entry-fits : (g : List Entry) (now : ℤ) (mark : Option KeyMark) (body : EntryBody) → has_used_key g mark ≡ false → BodyFits g body → fault g (new_entry g (date g now) mark body) ≡ None
entry-fits g now mark body key fits =
    let plain : Entry = unsealed g (date g now) mark body in
    let e : Entry = sealed g plain in
    no_cause (causes g e) (
      not_same_number (next_entry g),
      (
        date-follows (last_of g) now,
        (
          ap (λ h. not (bytes_eq (own_hash g plain) h)) (hash-of_sealed g plain) ∙ not_same_bytes (own_hash g plain),
          (key, (fits.reference, (fits.number, (fits.revert, (fits.target, (fits.limit, tt)))))),
        ),
      ),
    )
