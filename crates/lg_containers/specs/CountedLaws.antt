-- The machine that reads a first byte of one kind and at most n further bytes of another, and why it accepts what the grammar does.
use Rattle.std.specs.Prelude.{◌≡◌, ℕ, suc, ◌-◌, ◌<◌, ◌≤◌, Bool, true, false, ◌&&◌, List, [], ◌∷◌, length, IsTrue, ◌↔◌, nat_lt, nat_le, cond, if◌then◌else◌}
use Rattle.std.proofs.Common.{Option, Some, None, option_and_then, refl, sym, ap, ◌∙◌, arith, ltb-true, ltb-false}
use Rattle.std.proofs.lemmas.Bool.Decides.{nat_tests}
use Rattle.std.specs.List.{list_all}
use Rattle.lg_containers.specs.Grammar.{runs, ends_well, Accepts, Lives}
use Rattle.lg_containers.specs.GrammarLaws.{same_test, and_false}
use Rattle.lg_containers.specs.CountedGrammar.{is_counted}
use Rattle.lg_containers.specs.declared.counted.CountedState.{CountedState}
use Rattle.lg_containers.specs.declared.counted.CountedState.TheVariants.{Start, More}

-- the next state, by whether the byte may be first and whether it may be further
abbrev pub counted_next : Bool → Bool → ℕ → CountedState → Option CountedState
counted_next is_first is_more n Start = if is_first then Some (More n) else None
counted_next is_first is_more n (More m) = if nat_lt 0 m && is_more then Some (More (m - 1)) else None

abbrev pub counted_step : (ℕ → Bool) → (ℕ → Bool) → ℕ → CountedState → ℕ → Option CountedState
counted_step first more n s b = counted_next (first b) (more b) n s

abbrev pub counted_ends : CountedState → Bool
counted_ends Start = false
counted_ends (More m) = true

none_left : (k m : ℕ) → m ≤ 0 → nat_le (suc k) m ≡ false
none_left k m h = grind (arith, nat_tests)

some_left : (m : ℕ) → nat_le 0 m ≡ true
some_left m = grind (arith, nat_tests)

one_less : (k m : ℕ) → 0 < m → nat_le k (m - 1) ≡ nat_le (suc k) m
one_less k m h = grind (arith, nat_tests)

module _ (first more : ℕ → Bool) (n : ℕ) where
  abbrev after : Option CountedState → List ℕ → Bool
  after o bytes = ends_well counted_ends (option_and_then (λ t. runs (counted_step first more n) t bytes) o)

  reads_more : (m : ℕ) (bytes : List ℕ) → after (Some (More m)) bytes ≡ (nat_le (length bytes) m && list_all more bytes)
  reads_more m [] = ap (λ t. t && true) (sym (some_left m))
  reads_more m (b ∷ bs) =
      elim (nat_lt 0 m) as (λ t. nat_lt 0 m ≡ t → after (cond (t && more b) (Some (More (m - 1))) None) bs ≡ (nat_le (suc (length bs)) m && (more b && list_all more bs))) [
        | true ↦ λ e. elim (more b) as (λ t. after (cond t (Some (More (m - 1))) None) bs ≡ (nat_le (suc (length bs)) m && (t && list_all more bs))) [
          | true ↦ reads_more (m - 1) bs ∙ ap (λ t. t && list_all more bs) (one_less (length bs) m (ltb-true 0 m e))
          | false ↦ sym (and_false (nat_le (suc (length bs)) m))
        ]
        | false ↦ λ e. ap (λ t. t && (more b && list_all more bs)) (sym (none_left (length bs) m (ltb-false 0 m e)))
      ] refl

  reads : (bytes : List ℕ) → after (Some Start) bytes ≡ is_counted first more n bytes
  reads [] = refl
  reads (b ∷ bs) =
      elim (first b) as (λ t. after (cond t (Some (More n)) None) bs ≡ (t && (nat_le (length bs) n && list_all more bs))) [ true ↦ reads_more n bs | false ↦ refl ]

  pub counted_accepts : (bytes : List ℕ) → IsTrue (is_counted first more n bytes) ↔ Accepts (counted_step first more n) counted_ends Start bytes
  counted_accepts bytes = same_test (after (Some Start) bytes) (is_counted first more n bytes) (reads bytes)

  -- some byte may be first
  pub counted_lives : (b : ℕ) → IsTrue (first b) → (bytes : List ℕ) (s : CountedState) → runs (counted_step first more n) Start bytes ≡ Some s → Lives (counted_step first more n) counted_ends s
  counted_lives b h bytes Start e = (b ∷ [], ap (λ t. after (cond t (Some (More n)) None) []) h)
  counted_lives b h bytes (More m) e = ([], refl)
