-- What a prefix says of the bytes that it begins: heads, limits and the parts of a head.
use Rattle.std.proofs.Common.{◌≡◌, ℕ, ◌+◌, ◌<◌, ◌⊎◌, false, List, [], ◌∷◌, ◌++◌, length, fold, inl, inr, refl, sym, ap, ◌∙◌, arith, append_assoc, append-nil}
use Rattle.std.proofs.lemmas.List.Sums.{fold-append}
use Rattle.httparse.specs.Grammar.{print_request, HasNoRequest}
use Rattle.httparse.specs.Spans.{RequestExceeds}
use Rattle.lg_heads.specs.Lines.{Lines, line_step, no_lines, lines_of, header_lines}
use Rattle.lg_heads.specs.Scanning.{EndsHead}
use Rattle.lg_heads.proofs.HeadLines.{head_ends, ended_grows}

-- ---- the last element of a list

pub record HasLast (xs : List ℕ) : Type 0 where
  pub front : List ℕ
  pub last : ℕ
  pub is : xs ≡ front ++ last ∷ []

pub last_or_none : (xs : List ℕ) → (xs ≡ []) ⊎ HasLast xs
last_or_none [] = inl refl
last_or_none (x ∷ xs) =
    elim (last_or_none xs) [
      | inl none ↦ inr (record { front = []; last = x; is = ap (λ (t : List ℕ). x ∷ t) none })
      | inr some ↦ inr (record { front = x ∷ some.front; last = some.last; is = ap (λ (t : List ℕ). x ∷ t) some.is })
    ]

pub push_injective : (xs ys : List ℕ) (x y : ℕ) → xs ++ x ∷ [] ≡ ys ++ y ∷ [] → (xs ≡ ys) × (x ≡ y)
push_injective [] [] x y e = (refl, cc)
push_injective [] (b ∷ []) x y e = absurd (let no : [] ≡ y ∷ [] = cc in cc)
push_injective [] (b ∷ c ∷ ys) x y e = absurd (let no : [] ≡ (c ∷ ys) ++ y ∷ [] = cc in cc)
push_injective (a ∷ []) [] x y e = absurd (let no : x ∷ [] ≡ [] = cc in cc)
push_injective (a ∷ c ∷ xs) [] x y e = absurd (let no : (c ∷ xs) ++ x ∷ [] ≡ [] = cc in cc)
push_injective (a ∷ xs) (b ∷ ys) x y e =
    let tails : xs ++ x ∷ [] ≡ ys ++ y ∷ [] = cc in
    let heads : a ≡ b = cc in
    let rest = push_injective xs ys x y tails in
    (cc, rest.1)

-- ---- lines

pub lines_of-push : (bytes : List ℕ) (b : ℕ) → lines_of (bytes ++ b ∷ []) ≡ line_step (lines_of bytes) b
lines_of-push bytes b = fold-append line_step no_lines bytes (b ∷ [])

-- a head whose last byte is taken away, and more fields than 64, pass the limit of lines
pub exceeds_lines : (bytes : List ℕ) → RequestExceeds 64 bytes → 64 < header_lines bytes
exceeds_lines bytes (front, rest, splits, h, reads, over) =
    let ends = head_ends h reads.0 in
    let same : front ++ 10 ∷ [] ≡ ends.front ++ 10 ∷ [] = reads.1 ∙ append-nil (print_request h) ∙ ends.splits in
    let lines : lines_of front ≡ record { has_text = false; ended = length h.fields + 1 } = ap lines_of (push_injective front ends.front 10 10 same).0 ∙ ends.lines in
    let count : (lines_of front).ended ≡ length h.fields + 1 = ap (λ (l : Lines). l.ended) lines in
    let grown = ended_grows (lines_of front) rest in
    let whole : lines_of bytes ≡ fold line_step (lines_of front) rest = ap lines_of splits ∙ fold-append line_step no_lines front rest in
    let counts : (lines_of bytes).ended ≡ (fold line_step (lines_of front) rest).ended = ap (λ (l : Lines). l.ended) whole in
    omega arith

-- ---- heads

-- where no head is there, one more byte makes one only by ending an empty line behind text
pub none_more : (front : List ℕ) (b : ℕ) → HasNoRequest front → ¬ (EndsHead (lines_of front) b) → HasNoRequest (front ++ b ∷ [])
none_more front b none other h rest reads =
    elim (last_or_none rest) [
      | inl empty ↦
          let ends = head_ends h reads.0 in
          let same : front ++ b ∷ [] ≡ ends.front ++ 10 ∷ [] = reads.1 ∙ ap (λ (t : List ℕ). print_request h ++ t) empty ∙ append-nil (print_request h) ∙ ends.splits in
          let parts = push_injective front ends.front b 10 same in
          let lines = ap lines_of parts.0 ∙ ends.lines in
          let count : (lines_of front).ended ≡ length h.fields + 1 = ap (λ (l : Lines). l.ended) lines in
          other (record { feed = parts.1; empty = ap (λ (l : Lines). l.has_text) lines; some = omega arith })
      | inr some ↦
          let same : front ++ b ∷ [] ≡ (print_request h ++ some.front) ++ some.last ∷ [] = reads.1 ∙ ap (λ (t : List ℕ). print_request h ++ t) some.is ∙ sym (append_assoc (print_request h) some.front (some.last ∷ [])) in
          none h some.front (reads.0, (push_injective front (print_request h ++ some.front) b some.last same).0)
    ]
