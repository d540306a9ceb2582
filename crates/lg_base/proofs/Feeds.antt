-- How the clauses of calls that give a text compose. Written once, for every layer that feeds or writes.
use Rattle.std.proofs.Common.{◌≡◌, ℕ, List, [], ◌++◌, refl, sym, ◌∙◌, ap, subst, append_assoc, arith}
use Rattle.std.specs.Prelude.{true, false, Result, Ok, Err, IsErr}
use Rattle.std.proofs.lemmas.List.{append-nil}
use Rattle.std.proofs.lemmas.Result.{on_ok_weaker, on_err_weaker}
use Rattle.lg_base.specs.Growth.{Rose, Gives, Completes}

-- a text given whole, and then another
pub then : {F T U E : Type 0} {fed : F → List ℕ → Type 0} {stops : F → ℕ} {lent : F → ℕ} {s t v : F} {p q : List ℕ} {u : T} {r : Result U E}
    → Gives {E = E} fed stops lent s t p (Ok u) → Gives fed stops lent t v q r → Gives fed stops lent s v (p ++ q) r
then {fed = fed} {stops = stops} {s = s} {t = t} {v = v} {p = p} {q = q} {r = r} g h = record {
  ok = on_ok_weaker r (λ grown m given. subst (λ (l : List ℕ). fed v l) (append_assoc m p q) (grown (m ++ p) (g.ok m given))) h.ok;
  stopped = on_err_weaker r (λ grown m given. let part = grown (m ++ p) (g.ok m given) in
      (p ++ part.0, part.1, ap (λ (l : List ℕ). p ++ l) part.2 ∙ sym (append_assoc p part.0 part.1), subst (λ (l : List ℕ). fed v l) (append_assoc m p part.0) part.3)) h.stopped;
  cause = record {
    later = let a = g.cause.later in let b = h.cause.later in omega arith;
    failed = on_err_weaker r (λ (rose : Rose (stops t) (stops v)). let a = g.cause.later in omega arith) h.cause.failed;
  };
  same = h.same ∙ g.same;
}

-- a text that stopped, and nothing after it
pub stop : {F T U E : Type 0} {fed : F → List ℕ → Type 0} {stops : F → ℕ} {lent : F → ℕ} {s t : F} {p : List ℕ} {e : E} {r : Result U E}
    (q : List ℕ) → IsErr r → Gives {T = T} fed stops lent s t p (Err e) → Gives fed stops lent s t (p ++ q) r
stop {fed = fed} {t = t} {p = p} {r = Ok u} q failed g = absurd (let f : false ≡ true = failed in cc)
stop {fed = fed} {t = t} {p = p} {r = Err e} q failed g = record {
  ok = tt;
  stopped = λ m given. let part = g.stopped m given in
      (part.0, part.1 ++ q, ap (λ (l : List ℕ). l ++ q) part.2 ∙ append_assoc part.0 part.1 q, part.3);
  cause = record { later = g.cause.later; failed = g.cause.failed };
  same = g.same;
}

-- the same text under another error's name, or after a `?`
pub stop_here : {F T U E : Type 0} {fed : F → List ℕ → Type 0} {stops : F → ℕ} {lent : F → ℕ} {s t : F} {p : List ℕ} {e : E} {r : Result U E}
    → IsErr r → Gives {T = T} fed stops lent s t p (Err e) → Gives fed stops lent s t p r
stop_here {r = Ok u} failed g = absurd (let f : false ≡ true = failed in cc)
stop_here {r = Err e} failed g = record {
  ok = tt;
  stopped = g.stopped;
  cause = record { later = g.cause.later; failed = g.cause.failed };
  same = g.same;
}

-- nothing was given
pub nothing : {F T E : Type 0} (fed : F → List ℕ → Type 0) (stops : F → ℕ) (lent : F → ℕ) (s : F) (u : T)
    → Gives {E = E} fed stops lent s s [] (Ok u)
nothing fed stops lent s u = record {
  ok = λ m given. subst (λ (l : List ℕ). fed s l) (sym (append-nil m)) given;
  stopped = tt;
  cause = record { later = omega arith; failed = tt };
  same = refl;
}

-- the empty end of a text changes nothing
pub last : {F T E : Type 0} {fed : F → List ℕ → Type 0} {stops : F → ℕ} {lent : F → ℕ} {s t : F} {p : List ℕ} {r : Result T E}
    → Gives fed stops lent s t p r → Gives fed stops lent s t (p ++ []) r
last {fed = fed} {stops = stops} {lent = lent} {s = s} {t = t} {p = p} {r = r} g =
    subst (λ (l : List ℕ). Gives fed stops lent s t l r) (sym (append-nil p)) g

-- a loop begins: all is left
pub Completes-start : {F : Type 0} (E : Type 0) (fed : F → List ℕ → Type 0) (stops lent : F → ℕ) (s : F) (whole : List ℕ)
    → Completes E fed stops lent s s whole whole
Completes-start E fed stops lent s whole = record { on = λ last result g. g }

-- a loop goes on: a front of what was left was given
pub Completes-more : {F T E : Type 0} {fed : F → List ℕ → Type 0} {stops lent : F → ℕ} {first s t : F} {whole p q : List ℕ} {u : T}
    → Completes E fed stops lent first s whole (p ++ q) → Gives {E = E} fed stops lent s t p (Ok u) → Completes E fed stops lent first t whole q
Completes-more c g = record { on = λ last result h. c.on last result (then g h) }

-- a loop stops
pub Completes-stop : {F T E : Type 0} {fed : F → List ℕ → Type 0} {stops lent : F → ℕ} {first s t : F} {whole p : List ℕ} {e : E} {r : Result (Unit {0}) E}
    (q : List ℕ) → IsErr r → Completes E fed stops lent first s whole (p ++ q) → Gives {T = T} fed stops lent s t p (Err e) → Gives fed stops lent first t whole r
Completes-stop {t = t} {r = r} q failed c g = c.on t r (stop q failed g)

-- a loop ends: nothing is left
pub Completes-end : {F E : Type 0} {fed : F → List ℕ → Type 0} {stops lent : F → ℕ} {first s : F} {whole : List ℕ}
    → Completes E fed stops lent first s whole [] → Gives {T = Unit {0}} {E = E} fed stops lent first s whole (Ok (tt {0}))
Completes-end {E = E} {fed = fed} {stops = stops} {lent = lent} {s = s} c = c.on s (Ok (tt {0})) (nothing fed stops lent s (tt {0}))

-- two spellings of one text
pub same_text : {F T E : Type 0} {fed : F → List ℕ → Type 0} {stops : F → ℕ} {lent : F → ℕ} {s t : F} {p q : List ℕ} {r : Result T E}
    → p ≡ q → Gives fed stops lent s t p r → Gives fed stops lent s t q r
same_text {fed = fed} {stops = stops} {lent = lent} {s = s} {t = t} {r = r} e g = subst (λ (l : List ℕ). Gives fed stops lent s t l r) e g
