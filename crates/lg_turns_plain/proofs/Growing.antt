-- Lists with one item more.
use Rattle.std.specs.Prelude.{slice_get}
use Rattle.std.proofs.Common.{◌≡◌, ℕ, zero, suc, List, [], ◌∷◌, ◌++◌, Some, None, length, sym, ap, subst, ◌∙◌, arith}
use Rattle.std.proofs.lemmas.List.{append-nil}
use Rattle.std.proofs.lemmas.Grind.{flat_map-append}
use Rattle.lg_types.specs.declared.records.Event.{Event}
use Rattle.lg_types.specs.Parts.{shares_of, part_of}
use Rattle.lg_types.proofs.Shares.{part-snoc}
use Rattle.lg_turns_plain.specs.declared.part.Kept.{Kept}
use Rattle.lg_turns_plain.specs.Keeping.{kept_share, kept_shares}

some_some : {A : Type 0} (a b : A) → Some a ≡ Some b → a ≡ b
some_some a b e = cc

-- a fact of each place of a list
pub places-more : {A : Type 0} (P : ℕ → A → Type 0) (xs : List A) (y : A) → ((k : ℕ) (x : A) → slice_get xs k ≡ Some x → P k x) → P (length xs) y → (k : ℕ) (x : A) → slice_get (xs ++ (y ∷ [])) k ≡ Some x → P k x
places-more P [] y h here zero x e = subst (λ z. P zero z) (some_some y x e) here
places-more {A} P [] y h here (suc k) x e = absurd (let q : None ≡ Some x = e in cc)
places-more P (z ∷ zs) y h here zero x e = h zero x e
places-more {A} P (z ∷ zs) y h here (suc k) x e =
    let n : length (z ∷ zs) ≡ suc (length zs) = omega arith in
    places-more (λ j. P (suc j)) zs y (λ j. h (suc j)) (subst (λ j. P j y) n here) k x e

-- what a stripe knows by kept events, with one event more
pub kept_more : (s : ℕ) (all : List Kept) (events : List Event) (kept : Kept) → length events ≡ kept.place → kept_shares s all ≡ part_of s events → kept_shares s (all ++ (kept ∷ [])) ≡ part_of s (events ++ (kept.event ∷ []))
kept_more s all events kept len same =
    flat_map-append (kept_share s) all (kept ∷ [])
    ∙ ap (λ l. kept_shares s all ++ l) (append-nil (kept_share s kept) ∙ ap (λ n. shares_of s n kept.event) (sym len))
    ∙ ap (λ l. l ++ shares_of s (length events) kept.event) same
    ∙ sym (part-snoc s events kept.event)
