-- The part of a stripe that no later event touches.
use Rattle.std.proofs.Common.{◌≡◌, ℕ, zero, suc, ◌≤◌, Bool, true, false, cond, ◌&&◌, List, [], ◌∷◌, ◌++◌, length, drop, refl, sym, ap, ◌∙◌, arith}
use Rattle.lg_types.specs.declared.marks.Marked.{Marked}
use Rattle.lg_types.specs.Lists.{IsPrefix}
use Rattle.lg_types.specs.declared.marks.Mark.{Mark}
use Rattle.lg_types.specs.Marked.{events_of, marks}
use Rattle.lg_types.specs.declared.records.Event.{Event}
use Rattle.lg_types.specs.Parts.{part_of, untouched, leaves}
use Rattle.lg_types.proofs.MarkedLists.{events_length, events_append, events-prefix, marks_events}
use Rattle.lg_types.proofs.Shares.{quiet_after, untouched-append}

pub refreshed : (s stamp : ℕ) (xs ys : List Marked) → IsPrefix xs ys → stamp ≤ length xs → untouched s (drop stamp (events_of ys)) ≡ true → part_of s (events_of ys) ≡ part_of s (events_of xs)
refreshed s stamp xs ys h le q = quiet_after s stamp (events_of xs) (events_of ys) (events-prefix xs ys h) (omega (arith, events_length xs)) q

second : (a b : Bool) → (a && b) ≡ true → b ≡ true
second true b h = h
second false b h = absurd (let f : false ≡ true = h in cc)

pub quiet-drop : (s n : ℕ) (events : List Event) → untouched s events ≡ true → untouched s (drop n events) ≡ true
quiet-drop s zero events h = h
quiet-drop s (suc n) [] h = h
quiet-drop s (suc n) (event ∷ events) h = quiet-drop s n events (second (leaves s event) (untouched s events) h)

-- a stamp stays good where the stripe isn't touched
pub stamp-kept : (s n : ℕ) (events added : List Event) → untouched s (drop n events) ≡ true → untouched s added ≡ true → untouched s (drop n (events ++ added)) ≡ true
stamp-kept s n [] added h k = quiet-drop s n added k
stamp-kept s zero (event ∷ events) added h k = untouched-append s (event ∷ events) added h k
stamp-kept s (suc n) (event ∷ events) added h k = stamp-kept s n events added h k

drop-all : (n : ℕ) (events : List Event) → length events ≤ n → drop n events ≡ []
drop-all zero [] le = refl
drop-all (suc n) [] le = refl
drop-all zero (event ∷ events) le = absurd (omega arith)
drop-all (suc n) (event ∷ events) le = drop-all n events (omega arith)

-- nothing stands behind the end
pub stamp-new : (s n : ℕ) (events : List Event) → length events ≤ n → untouched s (drop n events) ≡ true
stamp-new s n events le = ap (untouched s) (drop-all n events le)

pub stamped-by : (b : Bool) (s front stamp : ℕ) (events added : List Event) → length (events ++ added) ≤ front → untouched s (drop stamp events) ≡ true → (b ≡ false → untouched s added ≡ true)
    → untouched s (drop (cond b front stamp) (events ++ added)) ≡ true
stamped-by true s front stamp events added le h k = stamp-new s front (events ++ added) le
stamped-by false s front stamp events added le h k = stamp-kept s stamp events added h (k refl)

-- the events of a list to which a call added some
pub grown_events : (ms : List Marked) (mark : Mark) (added events : List Event) → events ≡ events_of ms → events_of (ms ++ marks mark added) ≡ events ++ added
grown_events ms mark added events e = events_append ms (marks mark added) ∙ ap (λ (es : List Event). events_of ms ++ es) (marks_events mark added) ∙ ap (λ (es : List Event). es ++ added) (sym e)
