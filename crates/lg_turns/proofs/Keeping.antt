-- Each kind of step on the counting word keeps its rule.
use Rattle.std.specs.Prelude.{nat_le}
use Rattle.std.proofs.Common.{◌≡◌, ℕ, ◌+◌, ◌%◌, ◌^◌, ◌<◌, ◌≤◌, Bool, true, false, ◌||◌, cond, List, [], ◌∷◌, ◌++◌, length, get_or, set, refl, sym, ap, subst, ◌∙◌, ⊎_elim, length-append, arith}
use Rattle.std.proofs.Math.Nat.{mod-eq_of_lt}
use Rattle.std.proofs.lemmas.Bool.Decides.{nat_tests}
use mathlib.Core.Option.{some, some-injective, some-ne-none}
use lib.ListN.{get_elem?}
use Rattle.atomic_table.specs.Table.{Me, keeps, step, Allows, Splits, Joins}
use Rattle.atomic_table.proofs.Lists.{at_set, at_snoc, set_else, set_again}
use Rattle.lg_types.specs.declared.marks.Marked.{Marked}
use Rattle.lg_types.specs.Lists.{IsPrefix}
use Rattle.lg_types.specs.Marked.{open_end}
use Rattle.lg_types.proofs.Prefixes.{prefix-self, prefix-more, prefix-trans, prefix-length}
use Rattle.lg_turns.specs.declared.rule.View.{View}
use Rattle.lg_turns.specs.Rules.{total, weight_of, made_of, pens_of, Fits, Kept, nobody, lighter, sharer, penless, pen_of, longer, joined, Looked, Raised, grown, Opened, begun}
use Rattle.lg_turns.proofs.Totals.{total_set, total_snoc, total_one, total_two, total_all}

pub fits-nobody : (log : List Marked) → Fits log nobody
fits-nobody log = record {
  seen = (log, refl);
  one = ([], refl);
  other = ([], refl);
  all = λ e. absurd (let f : false ≡ true = e in cc);
  ends = refl;
  one_ends = refl;
  other_ends = refl;
  idle = λ e. refl;
}

-- a view is cut in two where both fit whenever it fits, and the numbers add up
pub record Cuts (v l r : View) : Type 0 where
  pub left : (log : List Marked) → Fits log v → Fits log l
  pub right : (log : List Marked) → Fits log v → Fits log r
  pub pens : pens_of l + pens_of r ≡ pens_of v
  pub weights : l.weight + r.weight ≡ v.weight
  pub made : l.made + r.made ≡ v.made

pub splits : {S : Type 0} (id : ℕ) (v l r : View) → Cuts v l r → Splits (Kept {S = S}) id v l r
splits id v l r c s k e = record {
  log = k.log;
  word = k.word;
  fits = λ seat w h. ⊎_elim (λ t. ⊎_elim (λ u. subst (λ x. Fits k.log x) u.1 (c.left k.log (k.fits id v e))) (λ u. k.fits seat w u.1) (at_set s.views id seat l w t)) (λ t. subst (λ x. Fits k.log x) t (c.right k.log (k.fits id v e))) (at_snoc (set s.views id l) r w seat h);
  pens = sums pens_of c.pens k.pens;
  weights = sums weight_of c.weights k.weights;
  made = sums made_of c.made k.made;
}
  where
    sums : (f : View → ℕ) {n : ℕ} → f l + f r ≡ f v → total f s.views ≡ n → total f (set s.views id l ++ r ∷ []) ≡ n
    sums f cut all = omega (arith, total_set f s.views id v l e, total_snoc f (set s.views id l) r)

pub cuts-idle : (v : View) → Cuts v v nobody
cuts-idle v = record { left = λ log h. h; right = λ log h. fits-nobody log; pens = omega arith; weights = omega arith; made = omega arith }

pub cuts-whole : (v : View) → Cuts v nobody v
cuts-whole v = record { left = λ log h. fits-nobody log; right = λ log h. h; pens = omega arith; weights = omega arith; made = omega arith }

pub cuts-share : (v : View) → 2 ≤ v.weight → Cuts v (lighter v) (sharer v)
cuts-share v heavy = record {
  left = λ log h. record { seen = h.seen; one = h.one; other = h.other; all = h.all; ends = h.ends; one_ends = h.one_ends; other_ends = h.other_ends; idle = λ none. absurd (omega arith) };
  right = λ log h. record { seen = h.seen; one = (v.seen, refl); other = (v.seen, refl); all = λ e. absurd (let f : false ≡ true = e in cc); ends = h.ends; one_ends = refl; other_ends = refl; idle = λ none. refl };
  pens = omega arith;
  weights = omega arith;
  made = omega arith;
}

pub cuts-pen_off : (v : View) → Cuts v (penless v) (pen_of v)
cuts-pen_off v = record {
  left = λ log h. record { seen = h.seen; one = h.one; other = h.other; all = λ e. absurd (let f : false ≡ true = e in cc); ends = h.ends; one_ends = h.one_ends; other_ends = h.other_ends; idle = h.idle };
  right = λ log h. record { seen = h.seen; one = (v.seen, refl); other = (v.seen, refl); all = h.all; ends = h.ends; one_ends = refl; other_ends = refl; idle = λ none. refl };
  pens = omega arith;
  weights = omega arith;
  made = omega arith;
}

-- of two prefixes of one list each is a prefix of the longer
pub longer_left : {A : Type 0} (log xs ys : List A) → IsPrefix xs log → IsPrefix ys log → length xs ≤ length ys → IsPrefix xs ys
longer_left log [] ys h k le = (ys, refl)
longer_left log (x ∷ xs) [] h k le = absurd (omega arith)
longer_left {A = A} [] (x ∷ xs) (y ∷ ys) h k le = absurd (let e : length {A = A} [] ≡ length ((x ∷ xs) ++ h.0) = ap length h.1 in omega (arith, e, length-append (x ∷ xs) h.0))
longer_left (a ∷ log) (x ∷ xs) (y ∷ ys) h k le =
    let heads : x ≡ y = cc (h.1, k.1) in
    let h' : log ≡ xs ++ h.0 = cc (h.1) in
    let k' : log ≡ ys ++ k.0 = cc (k.1) in
    let rest : IsPrefix xs ys = longer_left log xs ys (h.0, h') (k.0, k') (omega arith) in
    (rest.0, let e : y ∷ ys ≡ x ∷ (xs ++ rest.0) = cc (heads, rest.1) in e)

-- what is so of two seats is so of one that takes in the other
module _ (log : List Marked) (v w : View) (h : Fits log v) (k : Fits log w) where
  abbrev Fact : Bool → Bool → Type 0
  Fact a b = IsPrefix v.seen (cond a w.seen (cond b v.seen (longer v.seen w.seen))) × IsPrefix w.seen (cond a w.seen (cond b v.seen (longer v.seen w.seen))) × IsPrefix (cond a w.seen (cond b v.seen (longer v.seen w.seen))) log × (open_end (cond a w.seen (cond b v.seen (longer v.seen w.seen))) ≡ 0) × (a || b ≡ true → cond a w.seen (cond b v.seen (longer v.seen w.seen)) ≡ log)

  longer_seen : (b : Bool) → nat_le (length v.seen) (length w.seen) ≡ b → IsPrefix v.seen (cond b w.seen v.seen) × IsPrefix w.seen (cond b w.seen v.seen) × IsPrefix (cond b w.seen v.seen) log × (open_end (cond b w.seen v.seen) ≡ 0)
  longer_seen true e = (longer_left log v.seen w.seen h.seen k.seen (grind (arith, nat_tests, e)), prefix-self w.seen, k.seen, k.ends)
  longer_seen false e = (prefix-self v.seen, longer_left log w.seen v.seen k.seen h.seen (grind (arith, nat_tests, e)), h.seen, h.ends)

  both_seen : (a b : Bool) → w.pen ≡ a → v.pen ≡ b → Fact a b
  both_seen true b e f = let all : w.seen ≡ log = k.all e in (subst (λ (xs : List Marked). IsPrefix v.seen xs) (sym all) h.seen, prefix-self w.seen, k.seen, k.ends, λ _. all)
  both_seen false true e f = let all : v.seen ≡ log = h.all f in (prefix-self v.seen, subst (λ (xs : List Marked). IsPrefix w.seen xs) (sym all) k.seen, h.seen, h.ends, λ _. all)
  both_seen false false e f = let s = longer_seen (nat_le (length v.seen) (length w.seen)) refl in (s.0, s.1, s.2, s.3, λ n. absurd (let q : false ≡ true = n in cc))

  pub fits-joined : Fits log (joined v w)
  fits-joined = let s = both_seen w.pen v.pen refl refl in record {
    seen = s.2;
    one = s.0;
    other = s.1;
    all = λ e. s.4 (either_pen w.pen v.pen e);
    ends = s.3;
    one_ends = h.ends;
    other_ends = k.ends;
    idle = λ none. let a : v.made ≡ 0 = h.idle (omega arith) in let b : w.made ≡ 0 = k.idle (omega arith) in omega arith;
  }
    where
      either_pen : (a b : Bool) → b || a ≡ true → a || b ≡ true
      either_pen true true e = refl
      either_pen true false e = refl
      either_pen false true e = refl
      either_pen false false e = e

joined_pens : (v w : View) → pens_of v + pens_of w ≤ 1 → pens_of (joined v w) ≡ pens_of v + pens_of w
joined_pens v w le = by v.pen w.pen le
  where
    by : (a b : Bool) → cond a 1 0 + cond b 1 0 ≤ 1 → cond (a || b) 1 0 ≡ cond a 1 0 + cond b 1 0
    by true true h = absurd (omega arith)
    by true false h = refl
    by false true h = refl
    by false false h = refl

pub joins : {S : Type 0} (id : ℕ) (v : View) (other : ℕ) (w : View) → Joins (Kept {S = S}) id v other w (joined v w) nobody
joins id v other w s k e apart e' =
    let there : get_elem? s.views other ≡ some w = sym (set_else s.views id other (joined v w) apart) ∙ e' in
    let h = k.fits id v e in
    let h' = k.fits other w there in
    record {
      log = k.log;
      word = k.word;
      fits = λ seat x q. ⊎_elim
          (λ t. subst (λ y. Fits k.log y) t.1 (fits-nobody k.log))
          (λ t. ⊎_elim (λ u. subst (λ y. Fits k.log y) u.1 (fits-joined k.log v w h h')) (λ u. k.fits seat x u.1) (at_set s.views id seat (joined v w) x t.1))
          (at_set (set s.views id (joined v w)) other seat nobody x q);
      pens = sums pens_of (let le : pens_of v + pens_of w ≤ total pens_of s.views = total_two pens_of s.views id other v w e there apart in joined_pens v w (omega (arith, k.pens))) refl k.pens;
      weights = sums weight_of refl refl k.weights;
      made = sums made_of refl refl k.made;
    }
  where
    sums : (f : View → ℕ) {n : ℕ} → f (joined v w) ≡ f v + f w → f nobody ≡ 0 → total f s.views ≡ n → total f (set (set s.views id (joined v w)) other nobody) ≡ n
    sums f cut none all = omega (arith, total_set f s.views id v (joined v w) e, total_set f (set s.views id (joined v w)) other w nobody e')

-- a load
pub loads : (slots id : ℕ) (me : Me (Unit {0}) View) → Allows (Kept {S = Unit {0}}) slots id me 0 (λ n. n) (Looked (step slots 0 0 0 mathlib.Core.Option.none) me)
loads slots id me s k len e small =
    let h = k.fits id me.0 e in
    let found : get_or s.words 0 0 ≡ length k.log = ap (λ (ws : List ℕ). get_or ws 0 0) k.word in
    let within : length me.0.seen ≤ length k.log = prefix-length me.0.seen k.log h.seen in (
      me.0,
      keeps,
      tt,
      record {
        log = k.log;
        word = subst (λ (ws : List ℕ). set ws 0 (get_or ws 0 0) ≡ length k.log ∷ []) (sym k.word) refl;
        fits = λ seat w q. k.fits seat w (subst (λ (vs : List View). get_elem? vs seat ≡ some w) (set_again s.views id me.0 e) q);
        pens = ap (total pens_of) (set_again s.views id me.0 e) ∙ k.pens;
        weights = ap (total weight_of) (set_again s.views id me.0 e) ∙ k.weights;
        made = ap (total made_of) (set_again s.views id me.0 e) ∙ k.made;
      },
      (
        refl,
        refl,
        record {
          one = h.one;
          other = h.other;
          ends = h.ends;
          within = omega (arith, found, within);
          all = λ p. ap length (h.all p) ∙ sym found;
          light = let le : me.0.weight ≤ total weight_of s.views = total_one weight_of s.views id me.0 e in omega (arith, le, k.weights);
          gathered = λ full. let all : total made_of s.views ≡ me.0.made = total_all weight_of made_of s.views (λ i a q. (k.fits i a q).idle) id me.0 e (full ∙ sym k.weights) in omega (arith, all, k.made, found);
        },
      ),
    )

-- what others have seen is a prefix of what is added to, and only one seat adds
others_fit : (log more : List Marked) (v w : View) → Fits log w → pens_of v ≡ 1 → pens_of v + pens_of w ≤ 1 → Fits (log ++ more) w
others_fit log more v w h one le = record {
  seen = prefix-trans w.seen log (log ++ more) h.seen (prefix-more log more);
  one = h.one;
  other = h.other;
  all = λ e. absurd (let two : pens_of w ≡ 1 = ap (λ b. cond b 1 0) e in omega (arith, one, two, le));
  ends = h.ends;
  one_ends = h.one_ends;
  other_ends = h.other_ends;
  idle = h.idle;
}

pub raises : (slots id : ℕ) (me : Me (Unit {0}) View) (more : List Marked) (count : ℕ)
    → me.0.pen ≡ true → 0 < me.0.weight → 0 < length me.0.seen → count ≡ length more → open_end (me.0.seen ++ more) ≡ 0 → length me.0.seen + count < 2 ^ 64
    → Allows (Kept {S = Unit {0}}) slots id me 0 (λ n. (n + count) % 2 ^ 64) (Raised more (step slots 0 count 0 mathlib.Core.Option.none) me)
raises slots id me more count pen heavy begun is ends room s k len e small =
    let h = k.fits id me.0 e in
    let all : me.0.seen ≡ k.log = h.all pen in
    let one : pens_of me.0 ≡ 1 = ap (λ b. cond b 1 0) pen in
    let size : length me.0.seen ≡ length k.log = ap length all in
    let sum : length (k.log ++ more) ≡ length k.log + length more = length-append k.log more in
    let rest : (length k.log + count) % 2 ^ 64 ≡ length (k.log ++ more) = mod-eq_of_lt (omega (arith, size, room)) ∙ omega (arith, sum, is) in
    let grows : me.0.seen ++ more ≡ k.log ++ more = ap (λ (xs : List Marked). xs ++ more) all in
    let mine : Fits (k.log ++ more) (grown more me.0) = record {
      seen = subst (λ (xs : List Marked). IsPrefix (me.0.seen ++ more) xs) grows (prefix-self (me.0.seen ++ more));
      one = prefix-trans me.0.one me.0.seen (me.0.seen ++ more) h.one (prefix-more me.0.seen more);
      other = prefix-trans me.0.other me.0.seen (me.0.seen ++ more) h.other (prefix-more me.0.seen more);
      all = λ _. grows;
      ends = ends;
      one_ends = h.one_ends;
      other_ends = h.other_ends;
      idle = λ none. absurd (omega arith);
    } in (
      grown more me.0,
      keeps,
      tt,
      record {
        log = k.log ++ more;
        word = subst (λ (ws : List ℕ). set ws 0 ((get_or ws 0 0 + count) % 2 ^ 64) ≡ length (k.log ++ more) ∷ []) (sym k.word) (ap (λ (n : ℕ). n ∷ []) rest);
        fits = λ seat w q. ⊎_elim
            (λ t. subst (λ y. Fits (k.log ++ more) y) t.1 mine)
            (λ t. others_fit k.log more me.0 w (k.fits seat w t.1) one (let le : pens_of me.0 + pens_of w ≤ total pens_of s.views = total_two pens_of s.views id seat me.0 w e t.1 t.0 in omega (arith, le, k.pens)))
            (at_set s.views id seat (grown more me.0) w q);
        pens = omega (arith, total_set pens_of s.views id me.0 (grown more me.0) e, k.pens);
        weights = omega (arith, total_set weight_of s.views id me.0 (grown more me.0) e, k.weights);
        made = omega (arith, total_set made_of s.views id me.0 (grown more me.0) e, k.made, sum, size, begun);
      },
      (refl, refl),
    )

pub opens : (slots id : ℕ) (me : Me (Unit {0}) View) (more : List Marked)
    → me.0.pen ≡ true → me.0.seen ≡ [] → length more ≡ 1 → open_end more ≡ 0
    → Allows (Kept {S = Unit {0}}) slots id me 0 (λ n. (n + 1) % 2 ^ 64) (Opened more (step slots 0 1 0 mathlib.Core.Option.none) me)
opens slots id me more pen none is ends s k len e small =
    let h = k.fits id me.0 e in
    let empty : k.log ≡ [] = sym (h.all pen) ∙ none in
    let one : pens_of me.0 ≡ 1 = ap (λ b. cond b 1 0) pen in
    let size : length k.log ≡ 0 = ap length empty in
    let grows : k.log ++ more ≡ more = ap (λ (xs : List Marked). xs ++ more) empty in
    let rest : (length k.log + 1) % 2 ^ 64 ≡ length more = ap (λ (n : ℕ). (n + 1) % 2 ^ 64) size ∙ sym is in
    let mine : Fits more (begun more me.0) = record {
      seen = prefix-self more;
      one = prefix-trans me.0.one [] more (subst (λ (xs : List Marked). IsPrefix me.0.one xs) none h.one) (more, refl);
      other = prefix-trans me.0.other [] more (subst (λ (xs : List Marked). IsPrefix me.0.other xs) none h.other) (more, refl);
      all = λ _. refl;
      ends = ends;
      one_ends = h.one_ends;
      other_ends = h.other_ends;
      idle = h.idle;
    } in (
      begun more me.0,
      keeps,
      tt,
      record {
        log = more;
        word = subst (λ (ws : List ℕ). set ws 0 ((get_or ws 0 0 + 1) % 2 ^ 64) ≡ length more ∷ []) (sym k.word) (ap (λ (n : ℕ). n ∷ []) rest);
        fits = λ seat w q. ⊎_elim
            (λ t. subst (λ y. Fits more y) t.1 mine)
            (λ t. subst (λ (xs : List Marked). Fits xs w) grows (others_fit k.log more me.0 w (k.fits seat w t.1) one (let le : pens_of me.0 + pens_of w ≤ total pens_of s.views = total_two pens_of s.views id seat me.0 w e t.1 t.0 in omega (arith, le, k.pens))))
            (at_set s.views id seat (begun more me.0) w q);
        pens = omega (arith, total_set pens_of s.views id me.0 (begun more me.0) e, k.pens);
        weights = omega (arith, total_set weight_of s.views id me.0 (begun more me.0) e, k.weights);
        made = omega (arith, total_set made_of s.views id me.0 (begun more me.0) e, k.made, size, is);
      },
      (refl, refl),
    )
