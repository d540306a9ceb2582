-- The reading of a whole text.
use Rattle.std.proofs.Common.{◌≡◌, ℕ, ◌+◌, List, [], ◌∷◌, ◌++◌, length, Result, Ok, Err, refl, sym, ap, ◌∙◌, append-nil}
use Rattle.lg_json.specs.Tree.{Tree}
use Rattle.lg_json.specs.Grammar.{IsBlank, IsJson, Fits}
use Rattle.lg_json.specs.Reading.{at, complete, finish, reads, reading}
use Rattle.lg_json.specs.Reading.Mode.{before_value, ended}
use Rattle.lg_json.specs.Fault.{EndsNumber}
use Rattle.lg_json.specs.declared.json.JsonFault.{JsonFault}
use Rattle.lg_json.proofs.Meets.{Meets, IsOther}
use Rattle.lg_json.proofs.Meets.Meets.{goes, stops}
use Rattle.lg_json.specs.Tokens.{begins}
use Rattle.lg_json.proofs.Reaches.{reads_none, past_blanks, value_passes, end_passes}
use Rattle.lg_json.proofs.Goes.{room_in, starts_word, head_of, value_ready, blank_ends, value_goes}

-- a text of the grammar is read as its value, or meets a fault of what doesn't fit
pub data Reads (t : Tree) (r : Result Tree JsonFault) : Type 0 where
  value : r ≡ Ok t → Reads t r
  fault : (f : JsonFault) → IsOther f → (Fits 64 t → ⊥) → r ≡ Err f → Reads t r

blanks_end : (blank : List ℕ) → IsBlank blank → EndsNumber blank
blanks_end [] h = tt
blanks_end (b ∷ bs) h = blank_ends b h.0

ended_reads : (t : Tree) (blank : List ℕ) (i : ℕ) → IsBlank blank → reads i (complete [] t) blank ≡ Ok t
unfolding finish
ended_reads t blank i h =
    ap (λ (l : List ℕ). reads i (at [] (ended t)) l) (sym (append-nil blank)) ∙ past_blanks [] (ended t) blank [] i (i + length blank) (end_passes [] t) h refl ∙ reads_none (i + length blank) (at [] (ended t))

pub json_reads : (t : Tree) (bytes : List ℕ) → IsJson t bytes → Reads t (reading bytes)
unfolding reading
json_reads t bytes h = go (value_goes t i1 (i1 + length h.1) [] h.1 h.4 refl)
  where
    i1 : ℕ
    i1 = 0 + length h.0

    to_word : reads 0 (at [] before_value) bytes ≡ begins i1 [] (h.1 ++ h.2)
    to_word = ap (λ (l : List ℕ). reads 0 (at [] before_value) l) h.6 ∙ past_blanks [] before_value h.0 (h.1 ++ h.2) 0 i1 (value_passes []) h.3 refl ∙ starts_word [] before_value h.1 h.2 i1 (value_ready []) (head_of t h.1 h.4)

    go : Meets (Fits (room_in []) t) EndsNumber (λ rest. begins i1 [] (h.1 ++ rest)) (λ rest. reads (i1 + length h.1) (complete [] t) rest) → Reads t (reads 0 (at [] before_value) bytes)
    go (goes f) = value (to_word ∙ f h.2 (blanks_end h.2 h.5) ∙ ended_reads t h.2 (i1 + length h.1) h.5)
    go (stops f other bars g) = fault f other bars (to_word ∙ g h.2 (blanks_end h.2 h.5))

-- and one that fits as its value
pub json_value : (t : Tree) (bytes : List ℕ) → IsJson t bytes → Fits 64 t → reading bytes ≡ Ok t
json_value t bytes h fits = go (json_reads t bytes h)
  where
    go : Reads t (reading bytes) → reading bytes ≡ Ok t
    go (value e) = e
    go (fault f other bars e) = absurd (bars fits)
