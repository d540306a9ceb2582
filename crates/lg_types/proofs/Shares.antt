-- The part of a stripe: how it grows, and that events without a resource of the stripe leave it as it is.
use Rattle.std.proofs.Common.{◌≡◌, ℕ, ◌+◌, ◌≤◌, Bool, true, false, not, cond, ◌&&◌, List, [], ◌∷◌, ◌++◌, length, drop, refl, sym, ap, ◌∙◌, append_assoc, arith}
use Rattle.std.proofs.lemmas.List.{append-nil, drop-append-le}
use Rattle.std.proofs.lemmas.List.Folds.{list_all-append}
use Rattle.lg_types.specs.declared.records.Event.{Event}
use Rattle.lg_types.specs.Lists.{IsPrefix}
use Rattle.lg_types.specs.Parts.{touches, leaves, untouched, shares_of, event_share, part_from, part_of}

pub part-nil : (n s : ℕ) → part_from n s [] ≡ []
unfolding part_from
part-nil n s = refl

pub part-cons : (n s : ℕ) (event : Event) (events : List Event) → part_from n s (event ∷ events) ≡ shares_of s n event ++ part_from (n + 1) s events
unfolding part_from
part-cons n s event events = refl

pub part-append : (n s : ℕ) (xs ys : List Event) → part_from n s (xs ++ ys) ≡ part_from n s xs ++ part_from (n + length xs) s ys
part-append n s [] ys = ap (λ k. part_from k s ys) (let e : n ≡ n + length {A = Event} [] = omega arith in e) ∙ ap (λ l. l ++ part_from (n + length {A = Event} []) s ys) (sym (part-nil n s))
part-append n s (x ∷ xs) ys =
    part-cons n s x (xs ++ ys)
    ∙ ap (λ l. shares_of s n x ++ l) (part-append (n + 1) s xs ys)
    ∙ sym (append_assoc (shares_of s n x) (part_from (n + 1) s xs) (part_from (n + 1 + length xs) s ys))
    ∙ ap (λ l. l ++ part_from (n + 1 + length xs) s ys) (sym (part-cons n s x xs))
    ∙ ap (λ k. part_from n s (x ∷ xs) ++ part_from k s ys) (let e : n + 1 + length xs ≡ n + length (x ∷ xs) = omega arith in e)

-- an event without a resource of the stripe has no share
pub quiet : (s n : ℕ) (event : Event) → touches s event ≡ false → shares_of s n event ≡ []
quiet s n event h = ap (λ b. cond b (event_share s n event) []) h

quiet_first : (a b : Bool) → (not a && b) ≡ true → a ≡ false
quiet_first true b h = sym h
quiet_first false b h = refl

quiet_rest : (a b : Bool) → (not a && b) ≡ true → b ≡ true
quiet_rest true b h = absurd (let f : false ≡ true = h in cc)
quiet_rest false b h = h

pub quiet_all : (n s : ℕ) (events : List Event) → untouched s events ≡ true → part_from n s events ≡ []
quiet_all n s [] h = part-nil n s
quiet_all n s (event ∷ events) h =
    part-cons n s event events
    ∙ ap (λ l. l ++ part_from (n + 1) s events) (quiet s n event (quiet_first (touches s event) (untouched s events) h))
    ∙ quiet_all (n + 1) s events (quiet_rest (touches s event) (untouched s events) h)

-- what no event touches adds nothing to the part
pub part-quiet : (s : ℕ) (xs ys : List Event) → untouched s ys ≡ true → part_of s (xs ++ ys) ≡ part_of s xs
part-quiet s xs ys h =
    part-append 0 s xs ys
    ∙ ap (λ l. part_from 0 s xs ++ l) (quiet_all (0 + length xs) s ys h)
    ∙ append-nil (part_from 0 s xs)

-- the part with one more event
pub part-snoc : (s : ℕ) (xs : List Event) (event : Event) → part_of s (xs ++ (event ∷ [])) ≡ part_of s xs ++ shares_of s (length xs) event
part-snoc s xs event =
    part-append 0 s xs (event ∷ [])
    ∙ ap (λ l. part_of s xs ++ l) (part-cons (0 + length xs) s event []
    ∙ ap (λ l. shares_of s (0 + length xs) event ++ l) (part-nil (0 + length xs + 1) s)
    ∙ append-nil (shares_of s (0 + length xs) event)
    ∙ ap (λ k. shares_of s k event) (let e : 0 + length xs ≡ length xs = omega arith in e))

pub untouched-append : (s : ℕ) (xs ys : List Event) → untouched s xs ≡ true → untouched s ys ≡ true → untouched s (xs ++ ys) ≡ true
untouched-append s xs ys h k = list_all-append (leaves s) xs ys ∙ ap (λ b. b && untouched s ys) h ∙ k

both : (a b : Bool) → (a && b) ≡ true → b ≡ true
both true b h = h
both false b h = absurd (let f : false ≡ true = h in cc)

-- a list that no event touches from the n-th on has the part of each longer prefix
pub quiet_after : (s n : ℕ) (xs events : List Event) → IsPrefix xs events → n ≤ length xs → untouched s (drop n events) ≡ true → part_of s events ≡ part_of s xs
quiet_after s n xs events h le q =
    let after : drop n events ≡ drop n xs ++ h.0 = ap (drop n) h.1 ∙ drop-append-le n xs h.0 le in
    let still : (untouched s (drop n xs) && untouched s h.0) ≡ true = sym (list_all-append (leaves s) (drop n xs) h.0) ∙ ap (untouched s) (sym after) ∙ q in
    ap (part_of s) h.1 ∙ part-quiet s xs h.0 (both _ _ still)
