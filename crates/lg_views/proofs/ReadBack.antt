-- The lines of a faultless log read back as the log, and what lines come to is faultless.
use Rattle.std.proofs.Common.{◌≡◌, ℕ, ◌+◌, Bool, true, false, not, ◌&&◌, List, [], ◌∷◌, ◌++◌, Option, Some, None, refl, sym, ap, ◌∙◌, append_assoc}
use Rattle.std.specs.Option.{option_map}
use Rattle.std.specs.Prelude.{nat_eq}
use Rattle.std.specs.List.{last_or}
use Rattle.std.specs.Str.{bytes_eq}
use Rattle.std.proofs.lemmas.List.{append-nil}
use Rattle.std.proofs.lemmas.Bool.{eqb-true}
use Rattle.lg_types.specs.declared.calls.Batch.TheVariants.{Ready}
use Rattle.lg_types.specs.declared.records.Entry.{Entry}
use Rattle.lg_types.specs.Lists.{last_of}
use Rattle.lg_types.specs.Chain.{own_hash, head, entry_hash}
use Rattle.lg_views.specs.Import.{Reading, Read, causes, line_causes, line_fault, chained, read_on, first_form, ReadTo, unless_bad, read_line, read_lines_from, batch_of, FollowsFrom, is_other_form}
use Rattle.lg_views.specs.Laws.{lines_from, ReadsBack, LinesSplit}
use Rattle.lg_views.proofs.TestAnswers.{bytes_same, not_false, AllFalse, no_cause, all_false}

last-or_snoc : {A : Type 0} (o : Option A) (xs : List A) (x : A) → last_or o (xs ++ x ∷ []) ≡ Some x
last-or_snoc o [] x = refl
last-or_snoc o (y ∷ ys) x = last-or_snoc (Some y) ys x

pub last-snoc : {A : Type 0} (xs : List A) (x : A) → last_of (xs ++ x ∷ []) ≡ Some x
last-snoc xs x = last-or_snoc None xs x

-- where the reading stands after a log
abbrev pub reading_of : List Entry → Option ℕ → Reading
reading_of g form = record { entries = g; own = head g; form = form }

-- an entry that may follow has the hash of the chain
has_own_hash : (g : List Entry) (e : Entry) → AllFalse (causes g e) → own_hash g e ≡ e.hash
has_own_hash g e h = sym (bytes_same e.hash (own_hash g e) (not_false (bytes_eq e.hash (own_hash g e)) h.1.1.0))

no_more : (b c : Bool) → c ≡ false → (b && c) ≡ false
no_more true c h = h
no_more false c h = refl

-- it has no fault as a line
line-faultless : (recompute : Bool) (g : List Entry) (form : Option ℕ) (e : Entry) → is_other_form form 2 ≡ false → AllFalse (causes g e) → line_fault recompute (reading_of g form) (Read 2 e) ≡ None
line-faultless recompute g form e f h = no_cause (line_causes recompute (reading_of g form) 2 e) (f, (h.0, (h.1.0, (no_more (not recompute) (not (bytes_eq e.hash (own_hash g e))) h.1.1.0, h.1.1.1))))

chained-same : (g : List Entry) (e : Entry) → own_hash g e ≡ e.hash → chained g e ≡ e
chained-same g e p = λ i. record e { hash = p i }

read-next : (g : List Entry) (form : Option ℕ) (e : Entry) → is_other_form form 2 ≡ false → AllFalse (causes g e) → read_on (reading_of g form) (Read 2 e) ≡ reading_of (g ++ e ∷ []) (Some 2)
read-next g form e f h =
    let hash : own_hash g e ≡ e.hash = has_own_hash g e h in
    let entries : g ++ chained g e ∷ [] ≡ g ++ e ∷ [] = ap (λ x. g ++ x ∷ []) (chained-same g e hash) in
    let own : Some (own_hash g e) ≡ head (g ++ e ∷ []) = ap Some hash ∙ sym (ap (option_map entry_hash) (last-snoc g e)) in
    let same : first_form form 2 ≡ Some 2 = forms form f in
    λ i. record { entries = entries i; own = own i; form = same i }
  where
    forms : (o : Option ℕ) → is_other_form o 2 ≡ false → first_form o 2 ≡ Some 2
    forms None t = refl
    forms (Some n) t = ap Some (eqb-true n 2 (not_false (nat_eq n 2) t))

pub read_from : (recompute : Bool) (n : ℕ) (g : List Entry) (form : Option ℕ) (es : List Entry) → is_other_form form 2 ≡ false → FollowsFrom g es → batch_of (read_lines_from recompute (ReadTo (reading_of g form)) (lines_from n es)) ≡ Ready (g ++ es)
read_from recompute n g form [] f h = ap Ready (sym (append-nil g))
read_from recompute n g form (e ∷ es) f h =
    let clear : AllFalse (causes g e) = all_false (causes g e) h.0 in
    ap (λ o. batch_of (read_lines_from recompute (unless_bad n (read_on (reading_of g form) (Read 2 e)) o) (lines_from (n + 1) es))) (line-faultless recompute g form e f clear)
    ∙ ap (λ r. batch_of (read_lines_from recompute (ReadTo r) (lines_from (n + 1) es))) (read-next g form e f clear)
    ∙ read_from recompute (n + 1) (g ++ e ∷ []) (Some 2) es refl h.1
    ∙ ap Ready (append_assoc g (e ∷ []) es)

-- a walk over lines, and then over those that follow
pub lines_split : LinesSplit
lines_split recompute s [] more = refl
lines_split recompute s (l ∷ ls) more = lines_split recompute (read_line recompute s l) ls more

pub reads_back : ReadsBack
reads_back recompute g h = read_from recompute 1 [] None g refl h.follows
