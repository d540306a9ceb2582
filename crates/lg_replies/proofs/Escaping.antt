-- What a feed that escapes has passed on to the feed behind it.
use Rattle.std.proofs.Common.{◌≡◌, ℕ, ◌+◌, ◌≤◌, List, [], ◌∷◌, ◌++◌, refl, sym, ◌∙◌, ap, subst, append_assoc, flat_map, arith}
use Rattle.std.specs.Prelude.{Bool, true, false, Ok, Err}
use Rattle.std.proofs.lemmas.Grind.{flat_map-append}
use Rattle.std.proofs.lemmas.List.{append-nil}
use Rattle.lg_base.specs.Growth.{Rose, HasCause, Gives}
use Rattle.lg_base.specs.Texts.{escaped}
use Rattle.lg_replies.specs.Escaping.{behind, StandsFor}
use Rattle.lg_replies.specs.Escaping.StandsFor.{names, stands}

-- the parts of the list are known by it
pub split : (b c t u : List ℕ) → behind b ++ t ≡ behind c ++ u → (b ≡ c) × (t ≡ u)
split [] [] t u e = (refl, cc)
split [] (y ∷ c) t u e = absurd (let h : 0 ≡ y + 1 = cc in omega arith)
split (x ∷ b) [] t u e = absurd (let h : x + 1 ≡ 0 = cc in omega arith)
split (x ∷ b) (y ∷ c) t u e =
    let head : x + 1 ≡ y + 1 = cc in
    let tail : behind b ++ t ≡ behind c ++ u = cc in
    let h : x ≡ y = omega arith in
    let more = split b c t u tail in
    (let k = more.0 in cc, more.1)

module _ {F : Type 0} (fed : F → List ℕ → Type 0) (stops lent : F → ℕ) where
  longer : (before text bytes m : List ℕ) → m ≡ 1 ∷ (behind before ++ text) → m ++ bytes ≡ 1 ∷ (behind before ++ (text ++ bytes))
  longer before text bytes m parts = ap (λ (l : List ℕ). l ++ bytes) parts ∙ ap (λ (l : List ℕ). 1 ∷ l) (append_assoc (behind before) text bytes)

  -- a piece was passed on whole
  pub passed : {T E : Type 0} (to now : F) (bytes m : List ℕ) (u : T) → Gives {E = E} fed stops lent to now (flat_map escaped bytes) (Ok u)
      → StandsFor fed stops lent to false m → StandsFor fed stops lent now false (m ++ bytes)
  passed to now bytes m u g (names first text parts counted) =
      names first (text ++ bytes) (ap (λ (l : List ℕ). l ++ bytes) parts ∙ ap (λ (n : ℕ). 0 ∷ n ∷ first ∷ (text ++ bytes)) (sym g.same)) (let a = g.cause.later in omega arith)
  passed to now bytes m u g (stands before text parts held) =
      stands before (text ++ bytes) (longer before text bytes m parts)
      (subst (λ (l : List ℕ). fed now l) (append_assoc before (flat_map escaped text) (flat_map escaped bytes) ∙ ap (λ (l : List ℕ). before ++ l) (sym (flat_map-append escaped text bytes)))
      (g.ok (before ++ flat_map escaped text) held))

  -- a piece stopped the feed behind
  pub cut : {T E : Type 0} (to now : F) (bytes m : List ℕ) (e : E) → Gives {T = T} fed stops lent to now (flat_map escaped bytes) (Err e)
      → StandsFor fed stops lent to false m → StandsFor fed stops lent now true (m ++ bytes)
  cut to now bytes m e g (names first text parts counted) =
      names first (text ++ bytes) (ap (λ (l : List ℕ). l ++ bytes) parts ∙ ap (λ (n : ℕ). 0 ∷ n ∷ first ∷ (text ++ bytes)) (sym g.same)) (let rose : Rose (stops to) (stops now) = g.cause.failed in omega arith)
  cut to now bytes m e g (stands before text parts held) =
      let part = g.stopped (before ++ flat_map escaped text) held in
      stands before (text ++ bytes) (longer before text bytes m parts) (
        flat_map escaped text ++ part.0,
        part.1,
        flat_map-append escaped text bytes ∙ ap (λ (l : List ℕ). flat_map escaped text ++ l) part.2 ∙ sym (append_assoc (flat_map escaped text) part.0 part.1),
        subst (λ (l : List ℕ). fed now l) (append_assoc before (flat_map escaped text) part.0) part.3,
      )

  -- a piece after a stop goes nowhere
  pub lost : (to : F) (bytes m : List ℕ) → StandsFor fed stops lent to true m → StandsFor fed stops lent to true (m ++ bytes)
  lost to bytes m (names first text parts counted) = names first (text ++ bytes) (ap (λ (l : List ℕ). l ++ bytes) parts) counted
  lost to bytes m (stands before text parts held) =
      stands before (text ++ bytes) (longer before text bytes m parts) (
        held.0,
        held.1 ++ flat_map escaped bytes,
        flat_map-append escaped text bytes ∙ ap (λ (l : List ℕ). l ++ flat_map escaped bytes) held.2 ∙ append_assoc held.0 held.1 (flat_map escaped bytes),
        held.3,
      )

  -- what stands there when the feed begins
  pub begins : (to : F) (m : List ℕ) → fed to m → StandsFor fed stops lent to false (1 ∷ behind m)
  begins to m given = stands m [] (ap (λ (l : List ℕ). 1 ∷ l) (sym (append-nil (behind m)))) (subst (λ (l : List ℕ). fed to l) (sym (append-nil m)) given)

  pub named : (to : F) → StandsFor fed stops lent to false (0 ∷ lent to ∷ stops to ∷ [])
  named to = names (stops to) [] refl (omega arith)

  -- the name of the borrow stays the same, and a stop was counted
  pub same_name : (now : F) (name first : ℕ) (stopped : Bool) (text : List ℕ) → StandsFor fed stops lent now stopped (0 ∷ name ∷ first ∷ text) → lent now ≡ name
  same_name now name first stopped text (names f t parts counted) = cc
  same_name now name first stopped text (stands before t parts held) = absurd (cc)

  pub rises : (now : F) (name first : ℕ) (text : List ℕ) → StandsFor fed stops lent now true (0 ∷ name ∷ first ∷ text) → Rose first (stops now)
  rises now name first text (names f t parts counted) = let e : f ≡ first = cc in subst (λ (n : ℕ). Rose n (stops now)) e counted
  rises now name first text (stands before t parts held) = absurd (cc)

  -- what stands in the feed behind
  pub whole : (now : F) (before text : List ℕ) → StandsFor fed stops lent now false (1 ∷ (behind before ++ text)) → fed now (before ++ flat_map escaped text)
  whole now before text (names f t parts counted) = absurd (cc)
  whole now before text (stands b t parts held) =
      let same : behind before ++ text ≡ behind b ++ t = cc in
      let p = split before b text t same in
      subst (λ (l : List ℕ). fed now l) (ap (λ (l : List ℕ). l ++ flat_map escaped t) (sym p.0) ∙ ap (λ (l : List ℕ). before ++ flat_map escaped l) (sym p.1)) held

  pub in_part : (now : F) (stopped : Bool) (before text : List ℕ) → StandsFor fed stops lent now stopped (1 ∷ (behind before ++ text))
      → (front : List ℕ) × (rest : List ℕ) × (flat_map escaped text ≡ front ++ rest) × fed now (before ++ front)
  in_part now false before text s = (flat_map escaped text, [], sym (append-nil (flat_map escaped text)), whole now before text s)
  in_part now true before text (names f t parts counted) = absurd (cc)
  in_part now true before text (stands b t parts held) =
      let same : behind before ++ text ≡ behind b ++ t = cc in
      let p = split before b text t same in
      (held.0, held.1, ap (flat_map escaped) p.1 ∙ held.2, subst (λ (l : List ℕ). fed now (l ++ held.0)) (sym p.0) held.3)

  -- a text went through whole
  pub through : {E : Type 0} (old now : F) (text : List ℕ) → stops old ≤ stops now
      → ((m : List ℕ) → StandsFor fed stops lent old false m → StandsFor fed stops lent now false (m ++ text))
      → Gives {T = Unit {0}} {E = E} fed stops lent old now (flat_map escaped text) (Ok (tt {0}))
  through old now text later goes = record {
    ok = λ m given. whole now m text (goes (1 ∷ behind m) (begins old m given));
    stopped = tt;
    cause = record { later = later; failed = tt };
    same = same_name now (lent old) (stops old) false text (goes (0 ∷ lent old ∷ stops old ∷ []) (named old));
  }

  -- a text went through in part
  pub through_in_part : {T E : Type 0} (old now : F) (stopped : Bool) (text : List ℕ) (e : E) → HasCause {T = T} (stops old) (stops now) (Err e)
      → ((m : List ℕ) → StandsFor fed stops lent old false m → (front : List ℕ) × (rest : List ℕ) × (text ≡ front ++ rest) × StandsFor fed stops lent now stopped (m ++ front))
      → Gives {T = T} fed stops lent old now (flat_map escaped text) (Err e)
  through_in_part old now stopped text e cause goes = record {
    ok = tt;
    stopped = λ m given.
        let p = goes (1 ∷ behind m) (begins old m given) in
        let q = in_part now stopped m p.0 p.3 in (
          q.0,
          q.1 ++ flat_map escaped p.1,
          ap (flat_map escaped) p.2 ∙ flat_map-append escaped p.0 p.1 ∙ ap (λ (l : List ℕ). l ++ flat_map escaped p.1) q.2 ∙ append_assoc q.0 q.1 (flat_map escaped p.1),
          q.3,
        );
    cause = record { later = cause.later; failed = cause.failed };
    same = let p = goes (0 ∷ lent old ∷ stops old ∷ []) (named old) in same_name now (lent old) (stops old) stopped p.0 p.3;
  }

  -- a text went through, but for a stop that was met on the way
  pub through_a_stop : {T E : Type 0} (old now : F) (text : List ℕ) (e : E) → stops old ≤ stops now
      → ((m : List ℕ) → StandsFor fed stops lent old false m → StandsFor fed stops lent now true (m ++ text))
      → Gives {T = T} fed stops lent old now (flat_map escaped text) (Err e)
  through_a_stop old now text e later goes =
      through_in_part old now true text e
      (record { later = later; failed = rises now (lent old) (stops old) text (goes (0 ∷ lent old ∷ stops old ∷ []) (named old)) })
      (λ m s. (text, [], sym (append-nil text), goes m s))
