-- Postings that are booked one after the other, and taken back.
use Rattle.std.proofs.Common.{◌≡◌, ℕ, ◌+◌, ◌^◌, ◌<◌, ◌≤◌, Bool, true, false, ◌&&◌, cond, List, [], ◌++◌, take, Some, refl, sym, ◌∙◌, ap, ap₂, subst, arith}
use Rattle.std.specs.Prelude.{slice_get}
use Rattle.std.specs.List.{flat_map}
use Rattle.std.specs.Str.{bytes_eq}
use Rattle.std.proofs.lemmas.Slice.Eq.{bytes_eq-Decides}
use Rattle.lg_base.specs.declared.amounts.Volumes.{Volumes}
use Rattle.lg_base.specs.Volumes.{IsWithinLimit, sum_of}
use Rattle.lg_types.specs.declared.records.Posting.{Posting}
use Rattle.lg_types.specs.Moves.{Placed, total}
use Rattle.lg_types.specs.Trial.{tried_moves}
use Rattle.lg_types.proofs.MoveSums.{same_volumes, volumes-append}
use Rattle.lg_sheet.specs.Working.{Working, worked, SameVolumes}
use Rattle.lg_sheet.specs.Back.{HasBooked}
use Rattle.lg_sheet.specs.Trials.{present, HaveTotals, Booked, StaysWithin, HasRoom}
use Rattle.lg_sheet.proofs.OrderLemmas.{got, got_below}
use Rattle.lg_sheet.proofs.LineLemmas.{is_pair, own_volumes, tried_total, there}
use Rattle.lg_sheet.proofs.TrialLemmas.{next_moves}

input_of : (v w : Volumes) → v ≡ w → v.input ≡ w.input
input_of v w e = ap (λ u. u.input) e

output_of : (v w : Volumes) → v ≡ w → v.output ≡ w.output
output_of v w e = ap (λ u. u.output) e

pub volumes_by : (v w : Volumes) → v.input ≡ w.input → v.output ≡ w.output → v ≡ w
volumes_by v w e f = λ i. record { input = e i; output = f i }

sum-assoc : (u v w : Volumes) → sum_of (sum_of u v) w ≡ sum_of u (sum_of v w)
sum-assoc u v w = same_volumes _ _ _ _ (omega arith) (omega arith)

sum-zero : (u : Volumes) → sum_of u (record { input = 0; output = 0 }) ≡ u
sum-zero u = volumes_by _ _ (omega arith) (omega arith)

-- the totals of the first postings
abbrev pub first_total : List Posting → ℕ → List ℕ → List ℕ → Volumes
first_total ps i b y = total (flat_map tried_moves (take i ps)) b y

pub next_total : (ps : List Posting) (i : ℕ) (p : Posting) → slice_get ps i ≡ Some p → (b y : List ℕ) → first_total ps (i + 1) b y ≡ sum_of (first_total ps i b y) (total (tried_moves p) b y)
next_total ps i p is b y =
    ap (λ ms. total ms b y) (sym (next_moves [] ps i p (got_below ps i p is) (got ps i p is)))
    ∙ volumes-append (flat_map tried_moves (take i ps)) (tried_moves p) (λ _. true) b y

pub booked_next : (start now next : Working) (ps : List Posting) (i : ℕ) (p : Posting) → slice_get ps i ≡ Some p
    → Booked start now (take i ps) → ((b y : List ℕ) → worked next b y ≡ sum_of (worked now b y) (total (tried_moves p) b y)) → Booked start next (take (i + 1) ps)
booked_next start now next ps i p is before here = record {
  each = λ b y.
      here b y
      ∙ ap (λ v. sum_of v (total (tried_moves p) b y)) (before.each b y)
      ∙ sum-assoc (worked start b y) (first_total ps i b y) (total (tried_moves p) b y)
      ∙ ap (sum_of (worked start b y)) (sym (next_total ps i p is b y));
}

pub booked_none : (w : Working) → Booked w w []
booked_none w = record { each = λ b y. sym (sum-zero (worked w b y)) }

-- moves that have the totals of the start have, with the booked postings, those of now
pub total_now : (totals : List ℕ → List ℕ → Volumes) (start now : Working) (done : List Posting) (ms : List Placed) (b y : List ℕ) → Booked start now done
    → total ms b y ≡ present totals start b y → total (ms ++ flat_map tried_moves done) b y ≡ present totals now b y
total_now totals start now done ms b y booked is =
    volumes-append ms (flat_map tried_moves done) (λ _. true) b y
    ∙ ap (λ v. sum_of v (total (flat_map tried_moves done) b y)) is
    ∙ sum-assoc (totals b y) (worked start b y) (total (flat_map tried_moves done) b y)
    ∙ ap (sum_of (totals b y)) (sym (booked.each b y))

pub totals_now : (totals : List ℕ → List ℕ → Volumes) (start now : Working) (done ps : List Posting) (ms : List Placed) → Booked start now done
    → HaveTotals (present totals start) ps ms → HaveTotals (present totals now) ps (ms ++ flat_map tried_moves done)
totals_now totals start now done ps ms booked have = record {
  each = λ k d h. record {
    source = total_now totals start now done ms _ _ booked (have.each k d h).source;
    destination = total_now totals start now done ms _ _ booked (have.each k d h).destination;
  };
}

if_more : (b : Bool) (n m : ℕ) → (b ≡ true → n + m < 2 ^ 127) → n < 2 ^ 127 → n + cond b m 0 < 2 ^ 127
if_more true n m h k = h refl
if_more false n m h k = omega arith

-- what is within the limit stays within it where the posting has room
pub within_next : (totals : List ℕ → List ℕ → Volumes) (now next : Working) (p : Posting) → HasRoom (present totals now p.source p.asset) (present totals now p.destination p.asset) p.amount
    → ((b y : List ℕ) → worked next b y ≡ sum_of (worked now b y) (total (tried_moves p) b y)) → StaysWithin totals now next
within_next totals now next p room here = record {
  each = λ b y within.
      let is : present totals next b y ≡ sum_of (present totals now b y) (own_volumes p b y) =
      ap (sum_of (totals b y)) (here b y ∙ ap (sum_of (worked now b y)) (tried_total p b y)) ∙ sym (sum-assoc (totals b y) (worked now b y) (own_volumes p b y)) in
      subst IsWithinLimit (sym is) (record {
        input = if_more (is_pair p.destination p.asset b y) (present totals now b y).input p.amount (there p.destination p.asset b y (present totals now) (λ v. v.input + p.amount < 2 ^ 127) room.input) within.input;
        output = if_more (is_pair p.source p.asset b y) (present totals now b y).output p.amount (there p.source p.asset b y (present totals now) (λ v. v.output + p.amount < 2 ^ 127) room.output) within.output;
      });
}

pub within_twice : (totals : List ℕ → List ℕ → Volumes) (u v w : Working) → StaysWithin totals u v → StaysWithin totals v w → StaysWithin totals u w
within_twice totals u v w h k = record { each = λ b y i. k.each b y (h.each b y i) }

cancel : (u v t w : Volumes) → sum_of v t ≡ w → w ≡ sum_of u t → v ≡ u
cancel u v t w e f = volumes_by v u
    (let g : v.input + t.input ≡ u.input + t.input = input_of _ _ (e ∙ f) in omega (arith, g))
    (let g : v.output + t.output ≡ u.output + t.output = output_of _ _ (e ∙ f) in omega (arith, g))

-- what is booked and taken back leaves the volumes as they were
pub back_again : (start now back : Working) (done : List Posting) → Booked start now done → ((b y : List ℕ) → sum_of (worked back b y) (total (flat_map tried_moves done) b y) ≡ worked now b y) → SameVolumes start back
back_again start now back done booked taken = record { each = λ b y. cancel (worked start b y) (worked back b y) (total (flat_map tried_moves done) b y) (worked now b y) (taken b y) (booked.each b y) }

pub has_booked : (start now : Working) (done : List Posting) → Booked start now done → HasBooked now done
has_booked start now done booked = record { base = worked start; each = booked.each }

itself : (x : List ℕ) → bytes_eq x x ≡ true
itself x = (bytes_eq-Decides x x).1 refl

pair_itself : (x y : List ℕ) → is_pair x y x y ≡ true
pair_itself x y = ap₂ (λ (b c : Bool). b && c) (itself x) (itself y)

picked : (b : Bool) (n : ℕ) → b ≡ true → cond b n 0 ≡ n
picked true n e = refl
picked false n e = cc

own_output : (p : Posting) → (total (tried_moves p) p.source p.asset).output ≡ p.amount
own_output p = output_of _ _ (tried_total p p.source p.asset) ∙ picked (is_pair p.source p.asset p.source p.asset) p.amount (pair_itself p.source p.asset)

own_input : (p : Posting) → (total (tried_moves p) p.destination p.asset).input ≡ p.amount
own_input p = input_of _ _ (tried_total p p.destination p.asset) ∙ picked (is_pair p.destination p.asset p.destination p.asset) p.amount (pair_itself p.destination p.asset)

-- the postings from a place on were taken back
abbrev pub IsBack : Working → Working → List Posting → ℕ → ℕ → Type 0
IsBack old now ps count left = (b y : List ℕ) → sum_of (worked now b y) (first_total ps count b y) ≡ sum_of (worked old b y) (first_total ps left b y)

-- what is left is at least the last of the postings left
left_total : (old now : Working) (ps : List Posting) (count i : ℕ) (p : Posting) → slice_get ps i ≡ Some p → (held : HasBooked old (take count ps)) → IsBack old now ps count (i + 1) → (b y : List ℕ)
    → worked now b y ≡ sum_of (sum_of (held.base b y) (first_total ps i b y)) (total (tried_moves p) b y)
left_total old now ps count i p is held back b y =
    let start = held.base b y in
    let all = first_total ps count b y in
    let some = first_total ps i b y in
    let one = total (tried_moves p) b y in
    cancel (sum_of (sum_of start some) one) (worked now b y) all (sum_of (worked old b y) (first_total ps (i + 1) b y)) (back b y)
    (ap₂ (λ v w. sum_of v w) (held.each b y) (next_total ps i p is b y) ∙ volumes_by _ _ (omega arith) (omega arith))

pub left_output : (old now : Working) (ps : List Posting) (count i : ℕ) (p : Posting) → slice_get ps i ≡ Some p → HasBooked old (take count ps) → IsBack old now ps count (i + 1) → p.amount ≤ (worked now p.source p.asset).output
left_output old now ps count i p is held back =
    let most = output_of _ _ (left_total old now ps count i p is held back p.source p.asset) in
    let own = own_output p in
    omega (arith, most, own)

pub left_input : (old now : Working) (ps : List Posting) (count i : ℕ) (p : Posting) → slice_get ps i ≡ Some p → HasBooked old (take count ps) → IsBack old now ps count (i + 1) → p.amount ≤ (worked now p.destination p.asset).input
left_input old now ps count i p is held back =
    let most = input_of _ _ (left_total old now ps count i p is held back p.destination p.asset) in
    let own = own_input p in
    omega (arith, most, own)

shifted : (u v t old some one : Volumes) → sum_of v one ≡ u → sum_of u t ≡ sum_of old (sum_of some one) → sum_of v t ≡ sum_of old some
shifted u v t old some one e f = volumes_by _ _
    (let g = input_of _ _ e in let h = input_of _ _ f in omega (arith, g, h))
    (let g = output_of _ _ e in let h = output_of _ _ f in omega (arith, g, h))

pub back_next : (old now next : Working) (ps : List Posting) (count i : ℕ) (p : Posting) → slice_get ps i ≡ Some p → IsBack old now ps count (i + 1)
    → ((b y : List ℕ) → sum_of (worked next b y) (total (tried_moves p) b y) ≡ worked now b y) → IsBack old next ps count i
back_next old now next ps count i p is back taken = λ b y.
    shifted (worked now b y) (worked next b y) (first_total ps count b y) (worked old b y) (first_total ps i b y) (total (tried_moves p) b y)
    (taken b y) (back b y ∙ ap (sum_of (worked old b y)) (next_total ps i p is b y))

pub back_all : (old now : Working) (ps : List Posting) (count left : ℕ) → left ≡ 0 → IsBack old now ps count left → (b y : List ℕ) → sum_of (worked now b y) (first_total ps count b y) ≡ worked old b y
back_all old now ps count left none back b y = back b y ∙ ap (λ k. sum_of (worked old b y) (first_total ps k b y)) none ∙ sum-zero (worked old b y)
