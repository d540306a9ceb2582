-- Postings in the order of a trial.
use Rattle.std.proofs.Common.{◌≡◌, ℕ, ◌-◌, ◌<◌, List, [], ◌∷◌, length, get_or, reverse, Option, Some, None, refl, sym, ◌∙◌, ap, subst, arith, zero, suc}
use Rattle.std.specs.Prelude.{All, slice_get}
use Rattle.std.proofs.lemmas.List.{length-map, length-reverse, get_or-reverse, get_or-map}
use Rattle.lg_types.specs.declared.records.Posting.{Posting}
use Rattle.lg_types.specs.Trial.{exchanged}
use Rattle.lg_sheet.specs.declared.lines.Order.{Order}
use Rattle.lg_sheet.specs.declared.lines.Order.TheVariants.{Given, Reverting}
use Rattle.lg_sheet.specs.Lines.{ordered}
use Rattle.lg_sheet.specs.Trials.{OfBoth}

-- an item that is there, as a read
pub got : {X : Type 0} (xs : List X) (k : ℕ) (x : X) → slice_get xs k ≡ Some x → x ≡ get_or xs k x
got [] k x e = cc
got (y ∷ ys) zero x e = cc
got (y ∷ ys) (suc k) x e = got ys k x e

pub got_below : {X : Type 0} (xs : List X) (k : ℕ) (x : X) → slice_get xs k ≡ Some x → k < length xs
got_below [] k x e = absurd (let no : ◌≡◌ {A = Option _} None (Some x) = e in cc)
got_below (y ∷ ys) zero x e = omega arith
got_below (y ∷ ys) (suc k) x e = let rest = got_below ys k x e in omega (arith, rest)

pub length-ordered : (order : Order) (ps : List Posting) → length (ordered order ps) ≡ length ps
length-ordered Given ps = refl
length-ordered Reverting ps = length-map (reverse ps) exchanged ∙ length-reverse ps

module _ (P : List ℕ → List ℕ → Type 0) where
  both_exchanged : (p : Posting) → OfBoth P p → OfBoth P (exchanged p)
  both_exchanged p h = record { source = h.destination; destination = h.source }

  -- a fact of both accounts of each posting holds in any order
  pub all_ordered : (order : Order) (ps : List Posting) → All (OfBoth P) ps → All (OfBoth P) (ordered order ps)
  all_ordered Given ps h = h
  all_ordered Reverting ps h = λ k d less.
      let within : k < length ps = subst (λ n. k < n) (length-map (reverse ps) exchanged ∙ length-reverse ps) less in
      let turned : k < length (reverse ps) = subst (λ n. k < n) (sym (length-reverse ps)) within in
      subst (λ p. OfBoth P p) (sym (get_or-map exchanged (reverse ps) k d d turned ∙ ap exchanged (get_or-reverse ps k d within)))
      (both_exchanged (get_or ps (length ps - 1 - k) d) (h (length ps - 1 - k) d (omega arith)))

  pub both_at : (order : Order) (ps : List Posting) (k : ℕ) (p : Posting) → All (OfBoth P) ps → slice_get (ordered order ps) k ≡ Some p → OfBoth P p
  both_at order ps k p h is = subst (λ q. OfBoth P q) (sym (got (ordered order ps) k p is)) (all_ordered order ps h k p (got_below (ordered order ps) k p is))
